-- `frames::order::OrderedAreas::next_other` meets its contract: area after area, in their order, until one has a free place. Assumes nothing.
use Prim.Native.Nat.{ℕ, ◌≤◌}
use Rattle.frames.specs.Orders.{in_use, Ordered}
use Rattle.frames.specs.Targets.{NoneFreeIn}
use Rattle.frames.proofs.order.OrderedAreas.next_other.Given as goal

abbrev pub invariant-loop-next : goal.invariant-loop-next
invariant-loop-next l =
    (n : ℕ) → Ordered l.self.areas.now (in_use l.self.areas.now n) l.self.order → l.initial.next ≤ in_use l.self.areas.now n → NoneFreeIn l.marks l.self.base l.self.areas.now l.self.order l.held l.from.0 l.initial.next →
    (l.next ≤ in_use l.self.areas.now n) × NoneFreeIn l.marks l.self.base l.self.areas.now l.self.order l.held l.from.0 l.next
