-- `frames::scans::count_met` meets its contract: the count of the places passed, and a mark past the end reads 0, which does not pass. Assumes
-- nothing.
use Prim.Native.Nat.{◌≤◌, ◌+◌}
use Rattle.frames.specs.Scans.{marked}
use Rattle.frames.proofs.ScanFacts.{Counting}
use Rattle.frames.proofs.scans.count_met.Given as goal

abbrev pub invariant-loop-i : goal.invariant-loop-i
invariant-loop-i g l = (l.i ≤ l.initial.i + l.count) × Counting (marked (g.T.MarkTest.test l.test) l.marks) l.initial.i l.found l.i
