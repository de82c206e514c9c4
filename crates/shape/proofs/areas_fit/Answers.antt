-- `shape::areas_fit` meets its contract: the loop has found that each area below i fits, and keeps a room that is free of them.
-- Assumes nothing.
use native.Mathlib.Omega.{arith}
use Prim.Native.Nat.{ℕ, ◌≤◌}
use mathlib.Core.Path.{◌≡◌, sym, ◌∙◌}
use mathlib.Core.Bool.{true, false}
use Rattle.search.specs.Search.{every}
use Rattle.search.proofs.Bools.{and_both, and_left_false, and_right_false}
use Rattle.search.proofs.Ranges.{every_none, every_up, every_stops}
use Rattle.frames.specs.Areas.{area_in, end_of, are_disjoint}
use Rattle.rules.specs.declared.Record.{Record}
use Rattle.rules.specs.Record.{area_at}
use Rattle.rules.specs.Limits.{most_end}
use Rattle.rules.specs.Shape.{area_right, area_fits}
use Rattle.rules.specs.Does.{record_in}
use Rattle.rules.proofs.Shapes.{memory_known}
use Rattle.rules.proofs.AreaRight.{right_facts}
use Rattle.shape.proofs.Rooms.{does_lie}
use Rattle.shape.proofs.areas_fit.Goals as goal

not_apart : (m : Record) (i : ℕ) → every (λ k. are_disjoint (area_at m k) (area_at m i)) 0 i ≡ false → area_fits m i ≡ false
unfolding area_fits
not_apart m i e = and_right_false (area_right m.memory (area_at m i)) _ e

pub overflow_add-all : goal.overflow_add-all
overflow_add-all c = omega (arith, (memory_known _ _ _ c.requires).end_high)

pub loop-i-init : goal.loop-i-init
loop-i-init c = (every_none _ 0, λ k l. absurd (omega arith))

pub returns-then-not-area_right : goal.returns-then-not-area_right
unfolding area_fits
returns-then-not-area_right c =
    let found = rw c.area_at-a.ensures at c.area_right.ensures in
    sym (every_stops _ c.loop-i.i _ c.loop-i-test.true (and_left_false _ _ (sym found ∙ c.if-not-area_right.true)))

-- what is known of area i once it is right
is_right : (c : goal.After-room_left-arg-1) → area_right c.args.lent.memory (area_in c.args.lent.areas.now c.loop-i.i) ≡ true
is_right c = sym (rw c.area_at-a.ensures at c.area_right.ensures) ∙ c.if-not-area_right.false

pub room_left-requires-clause-a_value : goal.room_left-requires-clause-a_value
room_left-requires-clause-a_value c =
    let area = area_in c.args.lent.areas.now c.loop-i.i in
    let facts = right_facts (record_in c.args.lent) area (is_right c) in
    let low : end_of area ≤ most_end = omega (arith, facts.high, (memory_known _ _ _ c.requires).end_high) in
    (c.area_at-a.ensures, rw c.area_at-a.ensures low)

pub room_left-requires-clause-all_value : goal.room_left-requires-clause-all_value
room_left-requires-clause-all_value c =
    let area = area_in c.args.lent.areas.now c.loop-i.i in
    let facts = right_facts (record_in c.args.lent) area (is_right c) in
    rw c.area_at-a.ensures (does_lie area _ facts.low facts.high, facts.some)

pub returns-in_default : goal.returns-in_default
returns-in_default c = sym (every_stops _ c.loop-i.i _ c.loop-i-test.true (not_apart _ _ (sym c.in_default.ensures.apart)))

pub loop-i-preserved : goal.loop-i-preserved
unfolding area_fits
loop-i-preserved c =
    let is_right : area_right c.args.lent.memory (area_in c.args.lent.areas.now c.loop-i.i) ≡ true = sym (rw c.area_at-a.ensures at c.area_right.ensures) ∙ c.if-not-area_right.false in
    (every_up _ c.loop-i.i c.loop-i.invariant.0 (and_both _ _ is_right (sym c.in-Some.ensures.apart)), c.in-Some.ensures.room)
