-- `device_calls::runs::find_run` meets its contract: at the loop's head the bit is aligned, none below it will do, and the bits from it on are
-- clear as far as is known. Assumes nothing.
use Prim.Native.Nat.{ℕ, ◌+◌, ◌-◌, ◌*◌, ◌/◌, ◌%◌, ◌^◌, ◌≤◌, ◌<◌}
use native.Mathlib.Omega.{arith}
use native.Mathlib.Nat.{div-le_self}
use mathlib.Core.Path.{◌≡◌, refl, ap, ◌∙◌}
use mathlib.Core.Bool.{true, not}
use mathlib.Core.List.{[]}
use lib.Dec.{eqb}
use Rattle.search.proofs.Bools.{below_or_not}
use Rattle.bitmap.specs.Bits.{bit_of, is_start}
use Rattle.frames.specs.Units.{bit}
use Rattle.frames.specs.declared.Area.{Area}
use Rattle.frames.specs.Areas.{per_bit, ceiling, bit_count}
use Rattle.frames.specs.Tables.{tables}
use Rattle.rules.specs.Limits.{most_frames, most_align_order}
use Rattle.rules.specs.declared.Record.{Record}
use Rattle.rules.specs.Record.{area_at}
use Rattle.rules.specs.Does.{record_in}
use Rattle.rules.proofs.Divisions.{up_low}
use Rattle.device_calls.specs.Steps.DeviceSteps.{SearchFits, FirstAligned, Starts, is_aligned}
use Rattle.device_calls.proofs.Alignment.{Steps, steps_known, aligned_is}
use Rattle.device_calls.proofs.Tries.{clear_on}
use Rattle.device_calls.proofs.GrantSearch.{some_bits, look_none, look_hit, look_skip, look_end, run_found, run_none}
use Rattle.device_calls.proofs.runs.find_run.Goals as goal

-- what the search of an area asks, and what it steps by, of the area that the code has read
module _ {m : Record} {i count align : ℕ} (f : SearchFits m i count align) {a : Area} (e : a ≡ area_at m i) where
  bits_high : bit_count a ≤ most_frames
  bits_high =
      let count-high : a.count ≤ most_frames = rw e f.count_high in
      omega (arith, count-high, div-le_self a.count (per_bit a))

  order_high : {order : ℕ} → order ≡ align - a.order_per_bit → order ≤ most_align_order
  order_high o = omega (arith, o, f.align_high)

stepped : (a : Area) (align order : ℕ) → order ≡ align - a.order_per_bit → Steps a align (2 ^ order)
stepped a align order e = steps_known a align (2 ^ order) (ap (λ (k : ℕ). 2 ^ k) e)

further : (a : Area) (align order j passed : ℕ) {next : ℕ} → order ≡ align - a.order_per_bit → next ≡ j + ceiling passed (2 ^ order) * 2 ^ order → j + passed ≤ next
further a align order j passed e n = omega (arith, n, up_low passed (2 ^ order) (stepped a align order e).positive)

-- an aligned bit is one at which a run may begin
may_begin : (a : Area) (align order first starts : ℕ) → order ≡ align - a.order_per_bit → FirstAligned a align first → Starts first order starts → (k : ℕ) → is_aligned a align k ≡ true → is_start starts k ≡ true
unfolding is_start
may_begin a align order first starts e f st k al =
    let step = 2 ^ order in
    let here : k ≡ first + (k - first) / step * step = aligned_is a align step first k (stepped a align order e) f al in
    ap (λ (x : ℕ). not (eqb (bit_of starts (x % 64)) 0)) here ∙ ap (λ (x : ℕ). not (eqb x 0)) (st ((k - first) / step))

pub returns-in_err-last : goal.returns-in_err-last
returns-in_err-last c =
    let m = record_in c.args.lent in
    let t = tables c.args.marks.now [] c.args.bitmap.now [] in
    let r = c.args.request in
    let short : c.bits.result < c.bits_for-bits.result = below_or_not c.bits.result c.bits_for-bits.result (λ h. h) (λ h. absurd (c.in_err-last.ensures h)) in
    c.from_residual.ensures ∙
    run_none m t r.area r.count r.align c.area_at-area.ensures refl
    (ap bit c.bits.ensures ∙ look_none t.marks t.bitmap m.memory.base c.area_at-area.result _ r.count r.align (omega (arith, c.bits.ensures, c.bits_for-bits.ensures, short)))
    (omega (arith, c.bits.ensures))

pub returns-in_default : goal.returns-in_default
returns-in_default c =
    let m = record_in c.args.lent in
    let t = tables c.args.marks.now [] c.args.bitmap.now [] in
    let r = c.args.request in
    let some = some_bits c.area_at-area.result r.count c.requires.positive in
    let room : c.loop-j.j + c.bits_for-bits.result ≤ bit_count c.area_at-area.result = omega (arith, c.loop-j-test.true, c.bits.ensures, c.in_ok-last.ensures.0, c.in_ok-last.ensures.1) in
    run_found m t r.area r.count r.align c.area_at-area.ensures c.bitmap_start.ensures
    (look_hit t.marks t.bitmap m.memory.base c.area_at-area.result c.bitmap_start.result r.count r.align c.bits_for-bits.result c.bits_for-bits.ensures c.loop-j.j c.requires.positive c.loop-j.invariant.0 room c.in_default.ensures)
    (omega (arith, room, c.bits_for-bits.ensures, some))

pub loop-j-preserved : goal.loop-j-preserved
loop-j-preserved c =
    let t = tables c.args.marks.now [] c.args.bitmap.now [] in
    let r = c.args.request in
    let a = c.area_at-area.result in
    let order = c.saturating_sub-order.result in
    let e = c.saturating_sub-order.ensures in
    let passed = c.in-Some.tried.passed in
    let ruled = c.in-Some.ensures in
    let j = c.loop-j.j in (
      rw c.steps_on-j.ensures
          (look_skip t.marks t.bitmap c.args.lent.memory.base a c.bitmap_start.result r.count r.align c.bits_for-bits.result c.bits_for-bits.ensures (2 ^ order) j passed (stepped a r.align order e) c.loop-j.invariant.0 ruled.some
          (λ k low high al. ruled.ruled_out k low high (may_begin a r.align order c.first_aligned-first.result.0 c.starts.result e c.first_aligned-first.ensures.1 c.starts.ensures k al))),
      clear_on _ (j + passed) c.in-Some.tried.clear_to c.steps_on-j.result (further a r.align order j passed e c.steps_on-j.ensures) ruled.clear,
    )

pub returns : goal.returns
returns c =
    let m = record_in c.args.lent in
    let t = tables c.args.marks.now [] c.args.bitmap.now [] in
    let r = c.args.request in
    run_none m t r.area r.count r.align c.area_at-area.ensures c.bitmap_start.ensures
    (ap bit c.bits.ensures ∙
    look_end t.marks t.bitmap m.memory.base c.area_at-area.result c.bitmap_start.result r.count r.align c.bits_for-bits.result c.bits_for-bits.ensures c.loop-j.j c.loop-j.invariant.0
    (omega (arith, c.loop-j-test.false, c.bits.ensures, c.in_ok-last.ensures.0, c.in_ok-last.ensures.1)))
    (omega (arith, c.bits.ensures))
