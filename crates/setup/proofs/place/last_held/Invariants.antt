-- `setup::place::last_held` meets its contract: `held` is the last before `end` of the first k areas. Assumes nothing.
use Rattle.setup.specs.Steps.Held.{LastHeld}
use Rattle.setup.proofs.place.last_held.Given as goal

abbrev pub invariant-loop-k : goal.invariant-loop-k
invariant-loop-k l = LastHeld l.lent.areas.now l.k l.end.0 l.held
