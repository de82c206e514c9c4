-- `shape::area_right` meets its contract: each test is one of the definition's. Assumes nothing.
use Rattle.std.proofs.Common.{rules}
use native.Mathlib.Omega.{arith}
use Rattle.rules.specs.Shape.{area_right}
use Rattle.rules.proofs.Shapes.{memory_known}
use Rattle.shape.proofs.area_right.Goals as goal

pub is_whole_blocks-requires : goal.is_whole_blocks-requires
is_whole_blocks-requires c = (memory_known _ _ _ c.requires).order_high

pub is_whole_blocks-requires-then-is_whole_blocks : goal.is_whole_blocks-requires-then-is_whole_blocks
is_whole_blocks-requires-then-is_whole_blocks c = (memory_known _ _ _ c.requires).order_high

pub overflow_add-result : goal.overflow_add-result
overflow_add-result c = omega (arith, (memory_known _ _ _ c.requires).end_high)

pub returns-then-memory-a : goal.returns-then-memory-a
unfolding area_right
returns-then-memory-a c = let high = (memory_known _ _ _ c.requires).end_high in search rules

pub returns-else-memory-a : goal.returns-else-memory-a
unfolding area_right
returns-else-memory-a c = search rules
