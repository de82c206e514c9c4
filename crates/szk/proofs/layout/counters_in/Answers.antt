-- `szk::layout::counters_in` meets its contract: each half of a number of 64 bits is a number of 32 bits. Assumes nothing.
use native.Mathlib.Omega.{arith}
use Rattle.szk.proofs.layout.counters_in.Goals as goal

-- the upper half
pub overflow_cast-result-2 : goal.overflow_cast-result-2
overflow_cast-result-2 c = omega arith
