-- `bitmap::looks::Bitmap::passed` meets its contract. The loop's invariant: what is left of the search, and that as many looks are counted as words
-- were passed. Assumes nothing.
use Rattle.bitmap.specs.Steps.Looks.{run_of, starts_of}
use Rattle.bitmap.proofs.Finds.{Passing}
use Rattle.bitmap.proofs.looks.Bitmap.passed.Given as goal

abbrev pub invariant-loop-at : goal.invariant-loop-at
invariant-loop-at l = Passing (run_of l.sought) (starts_of l.sought) l.self.words.now l.self.start l.from l.count l.at l.low l.left l.looks
