-- `device_calls::moves::move_out` meets its contract: at the loop's head the pages from `at` on are still to move, and the search for targets can
-- go on. Assumes nothing.
use native.Mathlib.Omega.{arith}
use Prim.Native.Nat.{ℕ, min}
use mathlib.Core.Path.{◌≡◌, refl, ap, subst}
use mathlib.Core.List.{[]}
use Rattle.frames.specs.Areas.{most_areas}
use Rattle.frames.specs.declared.targets.Seeking.{Seeking}
use Rattle.frames.specs.Tables.{tables}
use Rattle.frames.specs.Orders.{in_use, Ordered}
use Rattle.frames.specs.Targets.{NextTarget}
use Rattle.frames.proofs.TargetFacts.{seeks_start}
use Rattle.rules.specs.Does.{record_in}
use Rattle.device_calls.proofs.MoveFacts.{not_before, out_none, moving_start, moving_turn, moving_end}
use Rattle.device_calls.proofs.moves.move_out.Goals as goal

-- no page is to move
pub returns-then-end-at : goal.returns-then-end-at
returns-then-end-at c = out_none (record_in c.args.lent) c.args.area (tables c.args.marks.now c.args.words.now [] []) c.args.page c.args.count _ _ refl c.next_movable-at.ensures c.if-end-at.true

pub loop-at-init : goal.loop-at-init
loop-at-init c =
    let x = c.args in
    let m = x.lent.memory in
    let w = c.none-seeking.ensures in
    moving_start (record_in x.lent) x.area c.new-areas.result.order (tables x.marks.now x.words.now [] []) _ _ x.page.0 (omega arith) c.next_movable-at.ensures
    (seeks_start m.base x.lent.areas.now m.declared c.new-areas.result.order x.area x.marks.now c.none-seeking.result
    (ap (λ (t : Seeking). t.ordinary.from.0) w) (ap (λ (t : Seeking). t.ordinary.end.0) w) (ap (λ (t : Seeking). t.ordinary.next) w) (ap (λ (t : Seeking). t.others.from.0) w) (ap (λ (t : Seeking). t.others.next) w))

pub loop-at-smaller : goal.loop-at-smaller
loop-at-smaller c = omega (arith, c.loop-at-test.true, not_before _ _ _ c.next_movable-at-in-loop-at.ensures)

pub loop-at-preserved : goal.loop-at-preserved
loop-at-preserved c =
    let x = c.args in
    let m = x.lent.memory in
    let order = c.new-areas.result.order in
    let few : min m.declared most_areas ≡ m.declared = omega (arith, c.requires.0.few) in
    let ordered : Ordered x.lent.areas.now (in_use x.lent.areas.now m.declared) order =
    subst (λ (n : ℕ). Ordered x.lent.areas.now (in_use x.lent.areas.now n) order) few c.new-areas.ensures.ordered
    in
    let lent = ap (λ r. r.now) c.new-areas.ensures.areas in
    let target : NextTarget c.loop-at.marks m.base x.lent.areas.now order x.area c.loop-at.seeking c.next_target-seeking.result =
    rw (← c.new-areas.ensures.base, ← lent) c.next_target-seeking.ensures
    in
    let v = c.loop-at.invariant in
    let l = c.loop-at-test.true in
    let held = c.requires.0.held c.loop-at.at.0 (omega (arith, v.begun, not_before _ _ _ c.next_movable-at.ensures)) l in
    moving_turn (record_in x.lent) x.area order (tables x.marks.now x.words.now [] []) _ _ c.requires.0 c.requires.1 ordered v l held c.place.ensures target c.move_page.ensures c.next_movable-at-in-loop-at.ensures

pub returns : goal.returns
returns c =
    moving_end (record_in c.args.lent) c.args.area c.new-areas.result.order (tables c.args.marks.now c.args.words.now [] []) _ _ c.args.page c.args.count c.loop-at.invariant c.loop-at-test.false refl c.next_movable-at.ensures
