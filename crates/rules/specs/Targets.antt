-- Document 02, request (vi): the frames that the movable pages of a run of area i can go to, and which of them comes first. What a grant does to the
-- tables goes by these two alone.
use Rattle.std.specs.Prelude.{ℕ, Bool, not, ◌&&◌, if◌then◌else◌}
use Rattle.search.specs.Search.{how_many}
use Rattle.frames.specs.declared.Place.{Place}
use Rattle.frames.specs.Units.{place}
use Rattle.frames.specs.Areas.{holds_frame}
use Rattle.frames.specs.Tables.{Tables}
use Rattle.rules.specs.declared.Record.{Record}
use Rattle.rules.specs.Record.{area_at, frame_at}
use Rattle.rules.specs.PageCalls.{is_place, lowest_place, is_free, free_ordinary}

-- the frame is one of area i
abbrev pub in_area_at : Record → ℕ → Place → Bool
in_area_at m i p = holds_frame (area_at m i) (frame_at m p)

-- a free frame, ordinary or of another area: never of the area being granted
unfoldable pub is_target : Record → Tables → ℕ → Place → Bool
is_target m t i p = is_free t p && not (in_area_at m i p)

unfoldable pub targets : Record → Tables → ℕ → ℕ
targets m t i = how_many (λ q. is_target m t i (place q)) 0 m.memory.frames

-- where no ordinary frame is free, a free frame that is not of area i is one of another area
abbrev pub lowest_target : Record → Tables → ℕ → Place
lowest_target m t i = lowest_place m (is_target m t i)

-- first the free ordinary frames, ascending, then the free frames of the other areas, ascending
unfoldable pub first_target : Record → Tables → ℕ → Place
first_target m t i =
    let p = lowest_place m (free_ordinary m t) in
    if is_place m p then p else lowest_target m t i
