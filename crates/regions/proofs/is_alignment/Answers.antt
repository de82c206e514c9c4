-- `regions::is_alignment` meets its contract: a power of two has one binary digit that is 1. Assumes nothing.
use native.Mathlib.Omega.{arith}
use mathlib.Core.Path.{◌∙◌}
use borrow.Author.Tests.{ne_eqb}
use Rattle.regions.proofs.Powers.{power_of_ones}
use Rattle.regions.proofs.is_alignment.Goals as goal

pub returns-else-x-eq0 : goal.returns-else-x-eq0
returns-else-x-eq0 c = rw (ne_eqb c.args.x 0 c.if-x-eq0.false) (c.is_power_of_two.ensures ∙ power_of_ones c.args.x (omega arith))
