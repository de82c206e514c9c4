-- `frames::scans::is_block_hinted` meets its contract: each turn asks one mark more. Assumes nothing.
use Rattle.frames.specs.Scans.{marked}
use Rattle.frames.proofs.ScanFacts.{Asking}
use Rattle.frames.proofs.scans.is_block_hinted.Given as goal

abbrev pub invariant-loop-j : goal.invariant-loop-j
invariant-loop-j g l = Asking (marked (g.T.MarkTest.test l.test) l.marks) l.first l.hit l.j
