-- What the steps of a walk over the ordinary places find.
use Rattle.std.specs.Prelude.{ℕ, ◌≤◌, ◌<◌, true, false, List, ◌≡◌, length}
use Rattle.frames.specs.declared.Frame.{Frame}
use Rattle.frames.specs.declared.order.Order.{Order}
use Rattle.frames.specs.declared.walk.Stretch.{Stretch}
use Rattle.frames.specs.Orders.{in_use, Ordered}
use Rattle.frames.specs.Scans.{in_areas_at}
use Rattle.frames.specs.Walk.{Behind, FreeStretch}

-- the places from `from` up to `end` lie from `at` on, in the table, and go on at least to the place after `at`
pub record Within (at len from end : ℕ) : Type 0 where
  pub low : at ≤ from
  pub ordered : from ≤ end
  pub more : at < end
  pub high : end ≤ len

-- the places from `at` up to `from` are in areas, and those from there up to `end` are ordinary
pub record OrdinaryStretch (base : Frame) (areas : List ℕ) (n at from end : ℕ) : Type 0 where
  pub held : (k : ℕ) → at ≤ k → k < from → in_areas_at base areas n k ≡ true
  pub clear : (k : ℕ) → from ≤ k → k < end → in_areas_at base areas n k ≡ false

-- a stretch of the walk over the areas of an order, from `at` on
pub record NextStretch (base : Frame) (areas : List ℕ) (n : ℕ) (o : Order) (at len : ℕ) (r : Stretch) : Type 0 where
  pub stretch : OrdinaryStretch base areas n at r.from.0 r.end.0
  pub next : r.next ≤ in_use areas n
  pub passed : Behind base areas o len r.end.0 r.next

abbrev pub WalksOn : Frame → List ℕ → Order → ℕ → ℕ → ℕ → Stretch → Type 0
WalksOn base areas o at k len r = (n : ℕ) → Ordered areas (in_use areas n) o → k ≤ in_use areas n → Behind base areas o len at k → NextStretch base areas n o at len r

-- a stretch begins with the lowest free ordinary place from `at` on, where the areas before k end before `at`
abbrev pub FindsFree : List ℕ → Frame → List ℕ → Order → ℕ → ℕ → Stretch → Type 0
FindsFree marks base areas o at k r =
    (n : ℕ) → Ordered areas (in_use areas n) o → k ≤ in_use areas n → Behind base areas o (length marks) at k → FreeStretch marks base areas n o at r
