-- `setup::place::first_used` meets its contract: what is left to search is the range from `i` on. Assumes nothing.
use Rattle.frames.proofs.ScanFacts.{Seeking}
use Rattle.frames.specs.Scans.{marked}
use Rattle.frames.specs.Marks.{has_kind, free}
use mathlib.Core.Bool.{not}
use Rattle.setup.proofs.place.first_used.Given as goal

abbrev pub invariant-loop-i : goal.invariant-loop-i
invariant-loop-i l = Seeking (λ q. not (marked (has_kind free) l.marks q)) l.fn.from.0 l.fn.end.0 l.i
