-- What is written ends within the buffer after each area.
use Rattle.cases.specs.Steps.Texts.{Writes}
use Rattle.cases.proofs.texts.put_areas.Given as goal

abbrev pub invariant-loop-i : goal.invariant-loop-i
invariant-loop-i l = Writes l.initial.out l.out
