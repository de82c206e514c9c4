-- `device_calls::take_run` meets its contract: what its steps leave is what the definition does. Assumes nothing.
use Prim.Native.Nat.{ℕ}
use native.Mathlib.Omega.{arith}
use mathlib.Core.Path.{sym, ap, subst, ◌∙◌}
use Rattle.frames.specs.declared.Area.{Area}
use Rattle.frames.specs.declared.Place.{Place}
use Rattle.frames.specs.Areas.{bits_for}
use Rattle.frames.specs.Lent.{tables_in}
use Rattle.rules.specs.Does.{record_in}
use Rattle.device_calls.specs.Steps.DeviceSteps.{LeavesArea}
use Rattle.device_calls.proofs.GrantOutcomes.{taken, run_known, run_placed}
use Rattle.device_calls.proofs.take_run.Goals as goal

pub bitmap_start-start-requires : goal.bitmap_start-start-requires
bitmap_start-start-requires c =
    let r = c.args.request in
    (run_known (record_in c.args.lent) (tables_in c.args.tables.now) r.area r.count c.args.run c.requires.run).words_high

pub frame_of_bit-requires : goal.frame_of_bit-requires
frame_of_bit-requires c =
    let r = c.args.request in
    let k = run_known (record_in c.args.lent) (tables_in c.args.tables.now) r.area r.count c.args.run c.requires.run in
    let e = c.area_at-a.ensures in
    (rw e (omega (arith, k.order)), rw e k.frame_high)

pub move_out-requires : goal.move_out-requires
move_out-requires c =
    let m = record_in c.args.lent in
    let r = c.args.request in
    let k = run_known m (tables_in c.args.tables.now) r.area r.count c.args.run c.requires.run in
    let n = ap (λ (q : Place). q.0) (run_placed m (tables_in c.args.tables.now) r.area r.count c.args.run c.area_at-a.ensures c.frame_of_bit.ensures c.place_of-page.ensures) in
    (subst (λ (q : ℕ). LeavesArea m r.area q r.count) (sym n) k.leaves, k.marks_length, k.words_length)

pub mark_run-requires : goal.mark_run-requires
mark_run-requires c =
    let m = record_in c.args.lent in
    let t = tables_in c.args.tables.now in
    let r = c.args.request in
    let k = run_known m t r.area r.count c.args.run c.requires.run in
    let n = ap (λ (q : Place). q.0) (run_placed m t r.area r.count c.args.run c.area_at-a.ensures c.frame_of_bit.ensures c.place_of-page.ensures) in
    let some = c.requires.run.positive in
    (some, k.count_high, omega (arith, n, some, k.leaves.room, k.marks_length), omega (arith, n, some, k.leaves.room, k.words_length))

pub returns-clause-taken : goal.returns-clause-taken
returns-clause-taken c =
    let r = c.args.request in
    let x = c.args in
    let m = record_in x.lent in
    let t = tables_in x.tables.now in
    let placed = run_placed m t r.area r.count x.run c.area_at-a.ensures c.frame_of_bit.ensures c.place_of-page.ensures in
    taken m t r.area r.count x.run r.device placed c.move_out.ensures c.mark_run.ensures
    c.bitmap_start-start.ensures (c.bits_for-bits.ensures ∙ ap (λ (a : Area). bits_for a r.count) c.area_at-a.ensures) c.put_run.ensures c.fill.ensures
