-- `frames::order::OrderedAreas::next_other` meets its contract: area after area, in their order, until one has a free place. Assumes nothing.
use Prim.Native.Nat.{ℕ, ◌<◌}
use native.Mathlib.Omega.{arith}
use mathlib.Core.Path.{◌≡◌, subst}
use mathlib.Core.Logic.{◌≢◌}
use lib.ListN.{length, get_or}
use Rattle.frames.specs.Areas.{area_in}
use Rattle.frames.specs.Orders.{in_use}
use Rattle.frames.specs.Targets.{NoneFreeIn}
use Rattle.frames.specs.Steps.Others.{FreeIn, FreeInOther}
use Rattle.frames.proofs.TargetFacts.{other_found, other_next, other_none, other_later}
use Rattle.frames.proofs.order.OrderedAreas.next_other.Goals as goal

pub returns-then-at-len : goal.returns-then-at-len
returns-then-at-len c n ord high few passed =
    let turn : let x = c.args in
    let i = get_or x.self.now.order.list c.loop-next.next 0 in FreeInOther x.marks.now x.self.now.base (area_in x.self.now.areas.now i) i x.held x.last.from.0 c.free_in_other-at.result.0 = let x = c.args in
    subst (λ (i : ℕ). FreeInOther x.marks.now x.self.now.base (area_in x.self.now.areas.now i) i x.held x.last.from.0 c.free_in_other-at.result.0) c.nth.ensures c.free_in_other-at.ensures in
    let x = c.args in
    let inv = c.loop-next.invariant n ord few passed in
    let next = c.loop-next.next in
    let t = turn in
    let room : next < in_use x.self.now.areas.now n = omega (arith, ord.count, c.loop-next-test.true) in
    let other : get_or x.self.now.order.list next 0 ≢ x.held = λ e. absurd (omega (arith, t.left_out e, c.if-at-len.true)) in
    let w = t.other other in (
      other_found x.marks.now x.self.now.base x.self.now.areas.now n x.self.now.order x.held ord x.last.from.0 next inv.1 c.free_in_other-at.result.0 room other w c.if-at-len.true,
      omega (arith, ord.count, c.loop-next-test.true),
      other_later x.marks.now x.self.now.base x.self.now.areas.now n x.self.now.order x.held ord x.last.from.0 next inv.1 c.free_in_other-at.result.0 (w.low c.if-at-len.true),
    )

pub loop-next-preserved : goal.loop-next-preserved
loop-next-preserved c n ord few passed =
    let turn : let x = c.args in
    let i = get_or x.self.now.order.list c.loop-next.next 0 in FreeInOther x.marks.now x.self.now.base (area_in x.self.now.areas.now i) i x.held x.last.from.0 c.free_in_other-at.result.0 = let x = c.args in
    subst (λ (i : ℕ). FreeInOther x.marks.now x.self.now.base (area_in x.self.now.areas.now i) i x.held x.last.from.0 c.free_in_other-at.result.0) c.nth.ensures c.free_in_other-at.ensures in
    let x = c.args in
    let inv = c.loop-next.invariant n ord few passed in
    let next = c.loop-next.next in
    let t = turn in (
      omega (arith, ord.count, c.loop-next-test.true),
      other_next x.marks.now x.self.now.base x.self.now.areas.now n x.self.now.order x.held ord x.last.from.0 next inv.1
          (λ other.
          let w = t.other other in
          let end : c.free_in_other-at.result.0 ≡ length x.marks.now = omega (arith, w.high, c.if-at-len.false) in
          subst (λ (r : ℕ). FreeIn x.marks.now x.self.now.base (area_in x.self.now.areas.now (get_or x.self.now.order.list next 0)) x.last.from.0 r) end w),
    )

pub returns : goal.returns
returns c n ord high few passed =
    let x = c.args in
    let inv = c.loop-next.invariant n ord few passed in
    let count = x.self.now.order.count in
    let last : c.loop-next.next ≡ count = omega (arith, ord.count, inv.0, c.loop-next-test.false) in
    let none = subst (NoneFreeIn x.marks.now x.self.now.base x.self.now.areas.now x.self.now.order x.held x.last.from.0) last inv.1 in (
      other_none x.marks.now x.self.now.base x.self.now.areas.now n x.self.now.order x.held ord x.last.from.0 count none high (omega (arith, ord.count)),
      omega (arith, ord.count),
      other_later x.marks.now x.self.now.base x.self.now.areas.now n x.self.now.order x.held ord x.last.from.0 count none (length x.marks.now) high,
    )
