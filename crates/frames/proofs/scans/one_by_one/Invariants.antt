-- `frames::scans::one_by_one` meets its contract: what is left to search is the range from `i` on. Assumes nothing.
use Rattle.frames.specs.Scans.{marked}
use Rattle.frames.proofs.ScanFacts.{Seeking}
use Rattle.frames.proofs.scans.one_by_one.Given as goal

abbrev pub invariant-loop-i : goal.invariant-loop-i
invariant-loop-i g l = Seeking (marked (g.T.MarkTest.test l.test) l.marks) l.initial.i l.i-end l.i
