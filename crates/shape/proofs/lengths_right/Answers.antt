-- `shape::lengths_right` meets its contract: each test is one of the definition's. Assumes nothing.
use Rattle.std.proofs.Common.{rules}
use Rattle.rules.specs.Shape.{lengths_right}
use Rattle.shape.proofs.lengths_right.Goals as goal

pub returns-then-tables-frames-2 : goal.returns-then-tables-frames-2
unfolding lengths_right
returns-then-tables-frames-2 c = search rules

pub returns-else-tables-frames-2 : goal.returns-else-tables-frames-2
unfolding lengths_right
returns-else-tables-frames-2 c = search rules
