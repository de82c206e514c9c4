-- `frames::targets::has_free_outside` meets its contract: the places before the area, and those after it. Assumes nothing.
use Prim.Native.Nat.{ℕ, ◌-◌, min, max}
use native.Mathlib.Omega.{arith}
use mathlib.Core.Path.{◌≡◌, ap, ◌∙◌}
use lib.ListN.{length}
use Rattle.search.specs.Search.{how_many}
use Rattle.frames.specs.declared.Place.{Place}
use Rattle.frames.specs.Marks.{has_kind, free}
use Rattle.frames.specs.Scans.{marked}
use Rattle.frames.proofs.TargetFacts.{outside_count}
use Rattle.frames.proofs.targets.has_free_outside.Goals as goal

pub returns : goal.returns
returns c =
    let x = c.args in
    let len = length x.marks.now in
    let start = c.min in
    let end = c.max in
    let begins = start.ensures ∙ ap (λ (p : Place). min p.0 len) c.place_of.ensures in
    let ends = end.ensures ∙ ap (λ (k : ℕ). max start.result k) c.end_place.ensures in
    let whole : start.result - 0 ≡ start.result = omega arith in
    let low = c.less_free-left.ensures ∙ ap (λ (d : ℕ). x.least - how_many (marked (has_kind free) x.marks.now) 0 d) whole in
    outside_count x.marks.now x.base x.area start.result end.result begins ends x.least c.less_free-left.result c.less_free.result low c.less_free.ensures
