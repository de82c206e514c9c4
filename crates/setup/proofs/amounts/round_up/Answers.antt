-- `setup::amounts::round_up` meets its contract: what is rounded up stays below the sum. Assumes nothing.
use Rattle.setup.proofs.Plans.{next_is}
use mathlib.Core.Path.{◌∙◌}
use Rattle.setup.proofs.amounts.round_up.Goals as goal

pub returns : goal.returns
returns c = let x = c.args in c.next_multiple_of.ensures.value ∙ next_is x.x x.d c.requires.0
