-- What is written ends within the buffer after each number.
use Rattle.cases.specs.Steps.Texts.{Writes}
use Rattle.cases.proofs.texts.put_three.Given as goal

abbrev pub invariant-loop-number : goal.invariant-loop-number
invariant-loop-number l = Writes l.initial.out l.out
