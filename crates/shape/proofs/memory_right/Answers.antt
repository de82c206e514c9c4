-- `shape::memory_right` meets its contract: each test is one of the definition's. Assumes nothing.
use Rattle.std.proofs.Common.{rules}
use Rattle.rules.specs.Shape.{memory_right}
use Rattle.shape.proofs.memory_right.Goals as goal

pub returns-then-saturating_add-le-MOST_END : goal.returns-then-saturating_add-le-MOST_END
unfolding memory_right
returns-then-saturating_add-le-MOST_END c = search rules

pub returns-else-saturating_add-le-MOST_END : goal.returns-else-saturating_add-le-MOST_END
unfolding memory_right
returns-else-saturating_add-le-MOST_END c = search rules
