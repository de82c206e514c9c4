-- `frames::marks::less_free` meets its contract: what is left of the number after the rest of the range. Assumes nothing.
use Prim.Native.Nat.{◌-◌, ◌≤◌}
use Rattle.frames.specs.Marks.{has_kind, free}
use Rattle.frames.specs.Scans.{marked}
use Rattle.frames.proofs.ScanFacts.{Taking}
use Rattle.frames.proofs.marks.less_free.Given as goal

abbrev pub invariant-loop-i : goal.invariant-loop-i
invariant-loop-i l = (l.i ≤ l.end.0) × Taking (marked (has_kind free) l.marks) l.initial.i l.end.0 l.least l.left l.i

abbrev pub decreases-loop-i : goal.decreases-loop-i
decreases-loop-i l = l.end.0 - l.i
