-- What the steps of a walk over the areas but one find.
use Rattle.std.specs.Prelude.{ℕ, ◌+◌, ◌-◌, ◌≤◌, ◌<◌, true, false, List, ◌≢◌, ◌≡◌, length}
use Rattle.search.specs.Search.{lowest_from}
use Rattle.frames.specs.declared.Area.{Area}
use Rattle.frames.specs.declared.Frame.{Frame}
use Rattle.frames.specs.declared.order.Order.{Order}
use Rattle.frames.specs.declared.targets.Others.{Others}
use Rattle.frames.specs.Units.{frame}
use Rattle.frames.specs.Marks.{has_kind, free}
use Rattle.frames.specs.Areas.{holds_frame}
use Rattle.frames.specs.Scans.{marked}
use Rattle.frames.specs.Orders.{in_use, Ordered}
use Rattle.frames.specs.Targets.{is_free_elsewhere, NoneFreeIn}

-- r is the lowest free place of an area from `from` on, or the place after the last
pub record FreeIn (marks : List ℕ) (base : Frame) (a : Area) (from r : ℕ) : Type 0 where
  pub high : r ≤ length marks
  pub low : r < length marks → from ≤ r
  pub is_free : r < length marks → marked (has_kind free) marks r ≡ true
  pub held : r < length marks → holds_frame a (frame (base.0 + r)) ≡ true
  pub none : (q : ℕ) → from ≤ q → q < r → holds_frame a (frame (base.0 + q)) ≡ true → marked (has_kind free) marks q ≡ false

-- it is, of any area but `held`; of that it is the place after the last
pub record FreeInOther (marks : List ℕ) (base : Frame) (a : Area) (i held from r : ℕ) : Type 0 where
  pub other : i ≢ held → FreeIn marks base a from r
  pub left_out : i ≡ held → r ≡ length marks

-- the lowest free place of an area but `held` from the last one's place on, where the areas before its number, in their order, have none
abbrev pub NextOther : List ℕ → Frame → List ℕ → Order → ℕ → Others → Others → Type 0
NextOther marks base areas o held last r =
    (n : ℕ) →
    Ordered areas (in_use areas n) o →
    last.from.0 ≤ length marks →
    last.next ≤ in_use areas n →
    NoneFreeIn marks base areas o held last.from.0 last.next →
    (r.from.0 ≡ lowest_from (is_free_elsewhere marks base areas n held) last.from.0 (length marks - last.from.0)) ×
    (r.next ≤ in_use areas n) ×
    NoneFreeIn marks base areas o held r.from.0 r.next
