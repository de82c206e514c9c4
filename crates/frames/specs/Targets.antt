-- Where the movable pages of a run of one area, `held`, can go, in a table that begins at physical frame `base`: first the free ordinary places,
-- ascending, then the free places of the other areas, ascending.
use Rattle.std.specs.Prelude.{ℕ, ◌+◌, ◌≤◌, ◌<◌, Bool, true, false, not, ◌&&◌, List, ◌≢◌, ◌≡◌, ltb, eqb, length, get_or, if◌then◌else◌}
use Rattle.search.specs.Search.{lowest, some}
use Rattle.frames.specs.declared.Area.{Area}
use Rattle.frames.specs.declared.Frame.{Frame}
use Rattle.frames.specs.declared.order.Order.{Order}
use Rattle.frames.specs.declared.targets.Seeking.{Seeking}
use Rattle.frames.specs.Units.{frame}
use Rattle.frames.specs.Marks.{has_kind, free}
use Rattle.frames.specs.Areas.{holds_frame, area_in}
use Rattle.frames.specs.Scans.{marked, is_free_ordinary}
use Rattle.frames.specs.Orders.{in_use, Ordered}
use Rattle.frames.specs.Walk.{Walks}

-- a free place that is not in the area given
unfoldable pub is_free_outside : List ℕ → Frame → Area → ℕ → Bool
is_free_outside marks base a k = marked (has_kind free) marks k && not (holds_frame a (frame (base.0 + k)))

-- a place of one of the first n areas, but `held`; one that is free
abbrev pub in_others_at : Frame → List ℕ → ℕ → ℕ → ℕ → Bool
in_others_at base areas n held k = some (λ i. not (eqb i held) && holds_frame (area_in areas i) (frame (base.0 + k))) 0 n

unfoldable pub is_free_elsewhere : List ℕ → Frame → List ℕ → ℕ → ℕ → ℕ → Bool
is_free_elsewhere marks base areas n held k = marked (has_kind free) marks k && in_others_at base areas n held k

-- the lowest free ordinary place; where there is none, the lowest free place of another area
unfoldable pub first_free : List ℕ → Frame → List ℕ → ℕ → ℕ → ℕ
first_free marks base areas n held =
    let p = lowest (is_free_ordinary marks base areas n) (length marks) in
    if ltb p (length marks) then p else lowest (is_free_elsewhere marks base areas n held) (length marks)

-- of the first k areas in an order each, but `held`, has no free place from `from` on
abbrev pub NoneFreeIn : List ℕ → Frame → List ℕ → Order → ℕ → ℕ → ℕ → Type 0
NoneFreeIn marks base areas o held from k =
    (p : ℕ) →
    p < k →
    get_or o.list p 0 ≢ held →
    (q : ℕ) →
    from ≤ q →
    q < length marks → holds_frame (area_in areas (get_or o.list p 0)) (frame (base.0 + q)) ≡ true → marked (has_kind free) marks q ≡ false

-- what is known between two moves: no ordinary place below the stretch's first is free, and the walk can go on there; nor is a place of the other
-- areas below the last one found
pub record Seeks (marks : List ℕ) (base : Frame) (areas : List ℕ) (n : ℕ) (o : Order) (held : ℕ) (w : Seeking) : Type 0 where
  pub ordinary_high : w.ordinary.from.0 ≤ length marks
  pub ordinary : (k : ℕ) → k < w.ordinary.from.0 → is_free_ordinary marks base areas n k ≡ false
  pub walks : Walks base areas n (length marks) o w.ordinary
  pub others_high : w.others.from.0 ≤ length marks
  pub others : (k : ℕ) → k < w.others.from.0 → is_free_elsewhere marks base areas n held k ≡ false
  pub few : w.others.next ≤ in_use areas n
  pub passed : NoneFreeIn marks base areas o held w.others.from.0 w.others.next

-- the next target is the first that is free, and the search can go on from there
abbrev pub NextTarget : List ℕ → Frame → List ℕ → Order → ℕ → Seeking → Seeking → Type 0
NextTarget marks base areas o held last r =
    (n : ℕ) →
    Ordered areas (in_use areas n) o →
    Seeks marks base areas n o held last → (r.to.0 ≡ first_free marks base areas n held) × Seeks marks base areas n o held r
