-- What is written ends within the buffer after each text, and the tables keep their slices.
use Rattle.std.proofs.Common.{length}
use Rattle.frames.specs.Lent.{SameSlices}
use Rattle.cases.specs.Steps.Texts.{Writes}
use Rattle.cases.proofs.texts.answer_texts.Given as goal

abbrev pub invariant-loop-text : goal.invariant-loop-text
invariant-loop-text l = Writes l.initial.out l.out × SameSlices l.initial.tables l.tables

abbrev pub decreases-loop-text : goal.decreases-loop-text
decreases-loop-text l = length l.rest
