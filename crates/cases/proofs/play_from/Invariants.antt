-- What is written ends within the buffer after each turn, and the tables keep their slices.
use Rattle.frames.specs.Lent.{SameSlices}
use Rattle.cases.specs.Steps.Texts.{Writes}
use Rattle.cases.proofs.play_from.Given as goal

abbrev pub invariant-loop-n : goal.invariant-loop-n
invariant-loop-n l = Writes l.initial.out l.out × SameSlices l.initial.tables l.tables
