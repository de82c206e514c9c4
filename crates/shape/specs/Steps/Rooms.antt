-- What the check that areas are apart keeps of those that it has passed: a room between them.
use Rattle.std.specs.Prelude.{ℕ, ◌+◌, ◌≤◌, ◌<◌, ◌≡◌, Bool, true, ◌&&◌, ◌⊎◌, List, leb, Option, is_some, IfSome}
use Rattle.frames.specs.declared.Area.{Area}
use Rattle.search.specs.Search.{every}
use Rattle.frames.specs.Areas.{area_in, end_of, are_disjoint}
use Rattle.shape.specs.declared.Room.{Room}

-- the area lies in the room
abbrev pub lies_in : Area → Room → Bool
lies_in a room = leb room.from.0 a.base.0 && leb (end_of a) room.end.0

-- the area ends at or before the room's first frame, or begins at or after its end
abbrev pub IsBeside : Area → Room → Type 0
IsBeside a room = (end_of a ≤ room.from.0) ⊎ (room.end.0 ≤ a.base.0)

-- the room is free of the first i areas
abbrev pub IsFree : List ℕ → ℕ → Room → Type 0
IsFree areas i room = (k : ℕ) → k < i → IsBeside (area_in areas k) room

-- r is a part of the room, and the area lies beside it
pub record PartBeside (a : Area) (room r : Room) : Type 0 where
  pub low : room.from.0 ≤ r.from.0
  pub high : r.end.0 ≤ room.end.0
  pub beside : IsBeside a r

-- area i is apart from each area before it just where there is a room: one in which it lies, and that is free of them
pub record Surrounds (areas : List ℕ) (i : ℕ) (r : Option Room) : Type 0 where
  pub apart : is_some r ≡ every (λ k. are_disjoint (area_in areas k) (area_in areas i)) 0 i
  pub room : IfSome r (λ room. IsFree areas i room × (lies_in (area_in areas i) room ≡ true))

-- area i is apart from each area before it just where there is a room: one that is free of it too
pub record Tells (areas : List ℕ) (i : ℕ) (r : Option Room) : Type 0 where
  pub apart : is_some r ≡ every (λ k. are_disjoint (area_in areas k) (area_in areas i)) 0 i
  pub room : IfSome r (λ room. IsFree areas (i + 1) room)
