-- A walk over the ordinary places, from one stretch of them to the next, in a table that begins at physical frame `base` and has `len` places.
use Rattle.std.specs.Prelude.{ℕ, ◌-◌, ◌≤◌, ◌<◌, min, false, List, ◌≡◌, length, get_or}
use Rattle.search.specs.Search.{lowest_from}
use Rattle.frames.specs.declared.Frame.{Frame}
use Rattle.frames.specs.declared.order.Order.{Order}
use Rattle.frames.specs.declared.walk.Stretch.{Stretch}
use Rattle.frames.specs.Areas.{end_of, area_in}
use Rattle.frames.specs.Orders.{in_use, Ordered}
use Rattle.frames.specs.Scans.{in_areas_at, is_free_ordinary}

-- the first k areas in an order hold no place from `at` on
abbrev pub Behind : Frame → List ℕ → Order → ℕ → ℕ → ℕ → Type 0
Behind base areas o len at k = (p : ℕ) → p < k → min (end_of (area_in areas (get_or o.list p 0)) - base.0) len ≤ at

-- the places of a stretch are ordinary, and the walk can go on after it
pub record Walks (base : Frame) (areas : List ℕ) (n len : ℕ) (o : Order) (r : Stretch) : Type 0 where
  pub ordinary : (k : ℕ) → r.from.0 ≤ k → k < r.end.0 → in_areas_at base areas n k ≡ false
  pub next : r.next ≤ in_use areas n
  pub passed : Behind base areas o len r.end.0 r.next

-- a stretch begins with the lowest free ordinary place from `at` on
pub record FreeStretch (marks : List ℕ) (base : Frame) (areas : List ℕ) (n : ℕ) (o : Order) (at : ℕ) (r : Stretch) : Type 0 where
  pub found : r.from.0 ≡ lowest_from (is_free_ordinary marks base areas n) at (length marks - at)
  pub walks : Walks base areas n (length marks) o r

-- it does so from the first place of a stretch of the walk
abbrev pub NextFree : List ℕ → Frame → List ℕ → Order → Stretch → Stretch → Type 0
NextFree marks base areas o stretch r =
    (n : ℕ) → Ordered areas (in_use areas n) o → Walks base areas n (length marks) o stretch → FreeStretch marks base areas n o stretch.from.0 r
