-- What a search for a place from the top knows of the areas: the last frames before some end that an area holds.
use Rattle.std.specs.Prelude.{ℕ, ◌+◌, ◌-◌, ◌≤◌, ◌<◌, true, false, List, Option, Some, None, ◌≡◌}
use Rattle.search.specs.Search.{every}
use Rattle.frames.specs.declared.Area.{Area}
use Rattle.frames.specs.declared.Frame.{Frame}
use Rattle.frames.specs.Units.{frame}
use Rattle.frames.specs.Areas.{area_in, in_areas}
use Rattle.frames.specs.Marks.{has_kind, free}
use Rattle.frames.specs.Scans.{marked, is_free_ordinary}
use Rattle.setup.specs.declared.place.Held.{Held}

-- the frames of h are in the first n areas, and those after it, up to `end`, are in none; h may pass `end`
pub record HeldBelow (areas : List ℕ) (n end : ℕ) (h : Held) : Type 0 where
  pub some : 0 < h.end.0 → h.from.0 < h.end.0
  pub held : (f : ℕ) → h.from.0 ≤ f → f < h.end.0 → in_areas areas n (frame f) ≡ true
  pub clear : (f : ℕ) → h.end.0 ≤ f → f < end → in_areas areas n (frame f) ≡ false

-- h does not pass `end`
pub record LastHeld (areas : List ℕ) (n end : ℕ) (h : Held) : Type 0 where
  pub within : h.end.0 ≤ end
  pub below : HeldBelow areas n end h

-- one more area is looked at
abbrev pub HeldLater : Area → ℕ → Held → Held → Type 0
HeldLater a end h r = (areas : List ℕ) (k : ℕ) → a ≡ area_in areas k → LastHeld areas k end h → LastHeld areas (k + 1) end r

-- the places from r up to `at` are not free
pub record UsedSince (marks : List ℕ) (at r : ℕ) : Type 0 where
  pub low : r ≤ at
  pub used : (q : ℕ) → r ≤ q → q < at → marked (has_kind free) marks q ≡ false

-- `count` frames from `first` on, in a table that begins at frame `base`, are not all free and ordinary: what is taken begins at `taken`, and no
-- such range is free that begins at or below `first` and ends above `taken`
pub record TakenFrom (base : Frame) (marks areas : List ℕ) (n first count taken : ℕ) : Type 0 where
  pub before : taken < first + count
  pub fails : (f : ℕ) → base.0 ≤ f → f ≤ first → taken < f + count → every (is_free_ordinary marks base areas n) (f - base.0) count ≡ false

-- a look at those frames: where nothing is found taken they are all free and ordinary
abbrev pub Scanned : Frame → List ℕ → List ℕ → ℕ → ℕ → ℕ → Option Frame → Type 0
Scanned base marks areas n first count None = every (is_free_ordinary marks base areas n) (first - base.0) count ≡ true
Scanned base marks areas n first count (Some taken) = TakenFrom base marks areas n first count taken.0

-- it goes by the last frames before the range's end that an area holds
abbrev pub Scans : Frame → List ℕ → Held → ℕ → ℕ → Option Frame → Type 0
Scans base marks h first count taken = (areas : List ℕ) (n : ℕ) → LastHeld areas n (first + count) h → Scanned base marks areas n first count taken
