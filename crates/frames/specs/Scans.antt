-- The tests that a scan of the marks makes at each place.
use Rattle.std.specs.Prelude.{ℕ, ◌+◌, Bool, not, ◌&&◌, List, get_or}
use Rattle.frames.specs.declared.Frame.{Frame}
use Rattle.frames.specs.Units.{frame}
use Rattle.frames.specs.Marks.{has_kind, free}
use Rattle.frames.specs.Areas.{in_areas}

-- a test of the mark at a place; past the end a mark reads 0
abbrev pub marked : (ℕ → Bool) → List ℕ → ℕ → Bool
marked test marks i = test (get_or marks i 0)

-- the place is in one of the first n areas, where the table begins at physical frame `base`
abbrev pub in_areas_at : Frame → List ℕ → ℕ → ℕ → Bool
in_areas_at base areas n i = in_areas areas n (frame (base.0 + i))

-- a free frame, in none of the first n areas
unfoldable pub is_free_ordinary : List ℕ → Frame → List ℕ → ℕ → ℕ → Bool
is_free_ordinary marks base areas n i = marked (has_kind free) marks i && not (in_areas_at base areas n i)
