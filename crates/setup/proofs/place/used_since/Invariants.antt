-- `setup::place::used_since` meets its contract: the places from i up to `at` are not free. Assumes nothing.
use Rattle.setup.specs.Steps.Held.{UsedSince}
use Rattle.setup.proofs.place.used_since.Given as goal

abbrev pub invariant-loop-i : goal.invariant-loop-i
invariant-loop-i l = UsedSince l.marks l.fn.at.0 l.i
