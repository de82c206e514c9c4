-- `bitmap::looks::Bitmap::longest_clear` meets its contract. The loop's invariant: a row of that many clear bits was found, and none that begins
-- before `from` is longer. The measure is the number of bits left. Assumes nothing.
use Prim.Native.Nat.{◌-◌}
use Rattle.bitmap.proofs.Rows.{Rows}
use Rattle.bitmap.proofs.looks.Bitmap.longest_clear.Given as goal

abbrev pub invariant-loop-found : goal.invariant-loop-found
invariant-loop-found l = Rows l.self.words.now l.self.start l.count l.found l.from

abbrev pub decreases-loop-found : goal.decreases-loop-found
decreases-loop-found l = l.count - l.from
