-- A room that is free of the first areas. Assumes nothing.
--     lies, does_lie    what the test tells of an area in a room, and what it takes
--     in_free           an area in the room shares no frame with them
--     part_free         a part of the room beside one area more is free of that too
use Prim.Native.Nat.{ℕ, ◌+◌, ◌≤◌}
use mathlib.Core.Path.{◌≡◌}
use mathlib.Core.Bool.{true}
use mathlib.Core.Logic.{inl, inr, ⊎_elim}
use mathlib.Core.List.{List}
use native.Mathlib.Omega.{arith}
use borrow.Author.Count.{below_more}
use borrow.Author.Tests.{le-leb, leb-true}
use lib.Dec.{leb}
use Rattle.search.specs.Search.{every}
use Rattle.search.proofs.Bools.{and_left, and_right, and_both}
use Rattle.search.proofs.Ranges.{all_every}
use Rattle.frames.specs.declared.Area.{Area}
use Rattle.frames.specs.Areas.{area_in, end_of, are_disjoint}
use Rattle.shape.specs.declared.Room.{Room}
use Rattle.shape.specs.Steps.Rooms.{lies_in, IsBeside, IsFree, PartBeside}
use Rattle.shape.proofs.Disjoint.{ends_below, begins_above}

pub lies : (a : Area) (room : Room) → lies_in a room ≡ true → (room.from.0 ≤ a.base.0) × (end_of a ≤ room.end.0)
lies a room e = (leb-true _ _ (and_left _ _ e), leb-true _ _ (and_right (leb room.from.0 a.base.0) _ e))

pub does_lie : (a : Area) (room : Room) → room.from.0 ≤ a.base.0 → end_of a ≤ room.end.0 → lies_in a room ≡ true
does_lie a room low high = and_both _ _ (le-leb _ _ low) (le-leb _ _ high)

module _ (areas : List ℕ) (i : ℕ) where
  pub in_free : (room : Room) → IsFree areas i room → lies_in (area_in areas i) room ≡ true
      → every (λ k. are_disjoint (area_in areas k) (area_in areas i)) 0 i ≡ true
  in_free room free e =
      let inside = lies (area_in areas i) room e in
      all_every (λ k. are_disjoint (area_in areas k) (area_in areas i)) 0 i
      (λ k from to.
      ⊎_elim (λ h. ends_below (area_in areas k) (area_in areas i) (omega (arith, inside.0))) (λ h. begins_above (area_in areas k) (area_in areas i) (omega (arith, inside.1)))
      (free k (omega arith)))

  pub part_free : (room r : Room) → IsFree areas i room → PartBeside (area_in areas i) room r → IsFree areas (i + 1) r
  part_free room r free part =
      below_more (λ k. IsBeside (area_in areas k) r) i
      (λ k l. ⊎_elim (λ h. inl (omega (arith, part.low))) (λ h. inr (omega (arith, part.high))) (free k l))
      part.beside
