-- `frames::order::OrderedAreas::free_stretch` meets its contract: stretch by stretch of the ordinary places. Assumes nothing.
use Prim.Native.Nat.{ℕ, ◌-◌, ◌≤◌}
use Rattle.frames.specs.Scans.{is_free_ordinary}
use Rattle.frames.specs.Orders.{in_use, Ordered}
use Rattle.frames.specs.Walk.{Behind}
use Rattle.frames.proofs.ScanFacts.{Seeking}
use Rattle.frames.proofs.order.OrderedAreas.free_stretch.Given as goal

abbrev pub invariant-loop-i : goal.invariant-loop-i
invariant-loop-i l =
    (n : ℕ) → Ordered l.self.areas.now (in_use l.self.areas.now n) l.self.order → l.k ≤ in_use l.self.areas.now n → Behind l.self.base l.self.areas.now l.self.order l.len l.initial.i l.k
    → Seeking (is_free_ordinary l.marks l.self.base l.self.areas.now n) l.initial.i l.len l.i × (l.next ≤ in_use l.self.areas.now n) × Behind l.self.base l.self.areas.now l.self.order l.len l.i l.next

abbrev pub decreases-loop-i : goal.decreases-loop-i
decreases-loop-i l = l.len - l.i
