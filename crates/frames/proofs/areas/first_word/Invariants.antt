-- `frames::areas::first_word` meets its contract: the words of the areas passed, up to the largest number. Assumes nothing.
use Prim.Native.Nat.{min}
use mathlib.Core.Path.{◌≡◌}
use Rattle.frames.specs.Units.{most_number}
use Rattle.frames.specs.Areas.{first_word}
use Rattle.frames.proofs.areas.first_word.Given as goal

abbrev pub invariant-loop-before : goal.invariant-loop-before
invariant-loop-before l = l.word ≡ min (first_word l.areas l.before) most_number
