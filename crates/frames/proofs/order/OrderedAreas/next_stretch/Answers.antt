-- `frames::order::OrderedAreas::next_stretch` meets its contract: area after area, in their order, until one begins after the place. Assumes nothing.
use Prim.Native.Nat.{ℕ, ◌-◌, min, max}
use native.Mathlib.Nat.{le_refl}
use native.Mathlib.Omega.{arith}
use mathlib.Core.Path.{refl, ap, ◌∙◌}
use Rattle.frames.specs.declared.Area.{Area}
use Rattle.frames.specs.declared.Place.{Place}
use Rattle.frames.specs.Areas.{end_of}
use Rattle.frames.proofs.Walks.{underway_start, underway_on, underway_stop, underway_end}
use Rattle.frames.proofs.order.OrderedAreas.next_stretch.Goals as goal

pub loop-next-init : goal.loop-next-init
loop-next-init c = let x = c.args in (omega arith, omega (arith, c.requires), λ n ord few passed. underway_start x.self.now.base x.self.now.areas.now n x.self.now.order x.end.0 ord x.at.0 x.k c.requires few passed)

pub returns-then-from-start : goal.returns-then-from-start
returns-then-from-start c =
    let x = c.args in
    let g = c.loop-next.invariant in
    let ends = c.min.ensures in
    let begins = ap (λ (p : Place). p.0) c.place_of-start.ensures ∙ ap (λ (a : Area). a.base.0 - x.self.now.base.0) c.area-area.ensures in record {
      within = record { low = g.0; ordered = omega (arith, g.1, c.if-from-start.true); more = omega (arith, g.0, g.1, c.if-from-start.true, c.requires); high = omega arith };
      walks_on = λ n ord few passed.
          underway_stop x.self.now.base x.self.now.areas.now n x.self.now.order x.end.0 ord x.at.0 (g.2 n ord few passed)
          (omega (arith, ord.count, c.loop-next-test.true)) (omega (arith, begins, c.if-from-start.true)) _ refl (ends ∙ ap (λ (s : ℕ). min s x.end.0) begins) refl;
    }

pub loop-next-preserved : goal.loop-next-preserved
loop-next-preserved c =
    let x = c.args in
    let g = c.loop-next.invariant in
    let begins = ap (λ (p : Place). p.0) c.place_of-start.ensures ∙ ap (λ (a : Area). a.base.0 - x.self.now.base.0) c.area-area.ensures in
    let ends = c.end_place.ensures ∙ ap (λ (a : Area). min (end_of a - x.self.now.base.0) x.end.0) c.area-area.ensures in (
      omega (arith, g.0, c.max.ensures),
      omega (arith, g.1, c.max.ensures, ends),
      λ n ord few passed.
          underway_on x.self.now.base x.self.now.areas.now n x.self.now.order x.end.0 ord x.at.0 (g.2 n ord few passed)
          (omega (arith, ord.count, c.loop-next-test.true)) (omega (arith, begins, c.if-from-start.false)) _ (c.max.ensures ∙ ap (max c.loop-next.from.0) ends),
    )

pub returns : goal.returns
returns c =
    let x = c.args in
    let g = c.loop-next.invariant in record {
      within = record { low = g.0; ordered = g.1; more = c.requires; high = le_refl _ };
      walks_on = λ n ord few passed.
          let u = g.2 n ord few passed in
          underway_end x.self.now.base x.self.now.areas.now n x.self.now.order x.end.0 ord x.at.0 u (omega (arith, ord.count, c.loop-next-test.false)) _ refl refl
          (omega (arith, ord.count, u.few, c.loop-next-test.false));
    }
