-- `bitmap::looks::clear_in` meets its contract: the zeros below the lowest set bit, but no more than asked. Assumes nothing.
use native.Mathlib.Omega.{arith}
use mathlib.Core.Path.{◌∙◌}
use Rattle.bitmap.proofs.Zeros.{zeros_low}
use Rattle.bitmap.proofs.looks.clear_in.Goals as goal

pub returns-then-left-eq0 : goal.returns-then-left-eq0
returns-then-left-eq0 c = let a = c.args in omega (arith, zeros_low a.w a.low a.left (omega arith))

pub returns : goal.returns
returns c = let a = c.args in c.min.ensures ∙ zeros_low a.w a.low a.left (omega arith)
