-- `device_calls::moves::next_movable` meets its contract: what is left to search is the range from `i` on. Assumes nothing.
use Rattle.frames.specs.Marks.{has_kind, movable}
use Rattle.frames.specs.Scans.{marked}
use Rattle.frames.proofs.ScanFacts.{Seeking}
use Rattle.device_calls.proofs.moves.next_movable.Given as goal

abbrev pub invariant-loop-i : goal.invariant-loop-i
invariant-loop-i l = Seeking (marked (has_kind movable) l.marks) l.initial.i l.end.0 l.i
