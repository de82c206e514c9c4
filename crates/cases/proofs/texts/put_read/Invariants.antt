-- What is written ends within the buffer after each region.
use Rattle.cases.specs.Steps.Texts.{Writes}
use Rattle.cases.proofs.texts.put_read.Given as goal

abbrev pub invariant-loop-region : goal.invariant-loop-region
invariant-loop-region l = Writes l.initial.out l.out
