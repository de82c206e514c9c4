-- `bitmap::put_run` meets its contract. The loop's invariant: what is left to do to the words as they are is the whole answer. Assumes nothing.
use Prim.Native.Nat.{◌<◌}
use mathlib.Core.Path.{◌≡◌}
use Rattle.bitmap.specs.Bits.{change_bits}
use Rattle.bitmap.specs.Steps.Words.{put_in}
use Rattle.bitmap.proofs.put_run.Given as goal

abbrev pub invariant-loop-at : goal.invariant-loop-at
invariant-loop-at l =
    (l.low < 64) × (change_bits (put_in l.bit) l.initial.words l.start l.from l.count ≡ change_bits (put_in l.bit) l.words l.at l.low l.left)
