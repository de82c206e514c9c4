-- Two areas that share no frame. Assumes nothing.
--     ends_below, begins_above    the first ends at or below the second's first frame; it begins at or above the second's end
--     one_ends                    one of them ends at or below the other's first frame
use Prim.Native.Nat.{◌≤◌}
use mathlib.Core.Path.{◌≡◌}
use mathlib.Core.Bool.{true}
use mathlib.Core.Logic.{◌⊎◌, inl, inr}
use borrow.Author.Tests.{le-leb, leb-true}
use lib.Dec.{leb}
use Rattle.search.proofs.Bools.{by_cases}
use Rattle.frames.specs.declared.Area.{Area}
use Rattle.frames.specs.Areas.{end_of, are_disjoint}

pub ends_below : (a c : Area) → end_of a ≤ c.base.0 → are_disjoint a c ≡ true
ends_below a c h = simp (le-leb (end_of a) c.base.0 h)

pub begins_above : (a c : Area) → end_of c ≤ a.base.0 → are_disjoint a c ≡ true
begins_above a c h = by_cases (leb (end_of a) c.base.0) (λ t. simp t) (λ f. simp (f, le-leb (end_of c) a.base.0 h))

pub one_ends : (a c : Area) → are_disjoint a c ≡ true → (end_of a ≤ c.base.0) ⊎ (end_of c ≤ a.base.0)
one_ends a c e = by_cases (leb (end_of a) c.base.0) (λ t. inl (leb-true _ _ t)) (λ f. inr (leb-true _ _ (simp f at e)))
