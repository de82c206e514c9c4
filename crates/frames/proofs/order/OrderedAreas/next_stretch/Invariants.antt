-- `frames::order::OrderedAreas::next_stretch` meets its contract: area after area, in their order, until one begins after the place. Assumes nothing.
use Prim.Native.Nat.{ℕ, ◌≤◌}
use Rattle.frames.specs.Orders.{in_use, Ordered}
use Rattle.frames.specs.Walk.{Behind}
use Rattle.frames.proofs.Walks.{Underway}
use Rattle.frames.proofs.order.OrderedAreas.next_stretch.Given as goal

abbrev pub invariant-loop-next : goal.invariant-loop-next
invariant-loop-next l =
    (l.initial.from.0 ≤ l.from.0) × (l.from.0 ≤ l.end.0) ×
    ((n : ℕ) (ord : Ordered l.self.areas.now (in_use l.self.areas.now n) l.self.order) → l.k ≤ in_use l.self.areas.now n → Behind l.self.base l.self.areas.now l.self.order l.end.0 l.initial.from.0 l.k
    → Underway l.self.base l.self.areas.now n l.self.order l.end.0 ord l.initial.from.0 l.from.0 l.next)
