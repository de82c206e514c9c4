-- `frames::scans::first_met` meets its contract: what is left to search is the range from `i` on, block by block. Assumes nothing.
use Prim.Native.Nat.{◌-◌, ◌≤◌}
use Rattle.frames.specs.Scans.{marked}
use Rattle.frames.proofs.ScanFacts.{Seeking}
use Rattle.frames.proofs.scans.first_met.Given as goal

abbrev pub invariant-loop-i : goal.invariant-loop-i
invariant-loop-i g l = (l.i ≤ l.end.0) × Seeking (marked (g.T.MarkTest.test l.test) l.marks) l.initial.i l.end.0 l.i

abbrev pub decreases-loop-i : goal.decreases-loop-i
decreases-loop-i g l = l.end.0 - l.i
