-- `frames::targets::free_in_area` meets its contract: the area's places from `from` on are a range. Assumes nothing.
use Prim.Native.Nat.{◌-◌, max}
use lib.ListN.{length}
use Rattle.std.specs.Prelude.{Option, Some, None}
use Rattle.std.specs.Option.{unwrap_or}
use Rattle.search.specs.Search.{lowest_from}
use Rattle.search.proofs.Bools.{below_or_not}
use Rattle.frames.specs.Units.{place, place_below}
use Rattle.frames.specs.Steps.Others.{FreeIn}
use Rattle.frames.proofs.PlaceFacts.{some_below, none_below}
use native.Mathlib.Omega.{arith}
use mathlib.Core.Path.{◌≡◌, sym, ap, subst, ◌∙◌}
use Rattle.search.proofs.Lowest.{Least, lowest_least}
use Rattle.frames.specs.declared.Place.{Place}
use Rattle.frames.specs.Marks.{has_kind, free}
use Rattle.frames.specs.Scans.{marked}
use Rattle.frames.proofs.TargetFacts.{area_none, area_found}
use Rattle.frames.proofs.targets.free_in_area.Goals as goal

pub returns-then-end-start : goal.returns-then-end-start
returns-then-end-start c =
    let begins : c.max.result ≡ max c.args.from.0 (c.args.area.base.0 - c.args.base.0) = c.max.ensures ∙ ap (λ (p : Place). max c.args.from.0 p.0) c.place_of.ensures in
    let x = c.args in
    area_none x.marks.now x.base x.area x.from.0 _ _ begins c.end_place-end.ensures (λ q a b. absurd (omega arith))

pub returns : goal.returns
returns c =
    let x = c.args in
    let marks = x.marks.now in
    let start = c.max.result in
    let end = c.end_place-end.result.0 in
    let begins : start ≡ max x.from.0 (x.area.base.0 - x.base.0) = c.max.ensures ∙ ap (λ (p : Place). max x.from.0 p.0) c.place_of.ensures in
    let at = lowest_from (marked (has_kind free) marks) start (end - start) in
    let l : Least (marked (has_kind free) marks) start (end - start) at = lowest_least (marked (has_kind free) marks) start (end - start) in
    let is : (o : Option Place) → place_below at end ≡ o → c.unwrap_or.result.0 ≡ (unwrap_or o (place (length marks))).0 =
    λ o e. ap (λ (p : Place). p.0) c.unwrap_or.ensures ∙ ap (λ (o : Option Place). (unwrap_or o (place (length marks))).0) (c.first_met.ensures ∙ e)
    in
    below_or_not at end
    (λ h.
    subst (FreeIn marks x.base x.area x.from.0) (sym (is (Some (place at)) (some_below at end h)))
    (area_found marks x.base x.area x.from.0 _ _ begins c.end_place-end.ensures at l.low h (l.hit (omega arith)) l.miss))
    (λ h.
    subst (FreeIn marks x.base x.area x.from.0) (sym (is None (none_below at end h)))
    (area_none marks x.base x.area x.from.0 _ _ begins c.end_place-end.ensures (λ q a b. l.miss q a (omega arith))))
