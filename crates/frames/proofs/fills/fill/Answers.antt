-- `frames::fills::fill` meets its contract: what is left to fill falls by one place a turn. Assumes nothing.
use native.Mathlib.Omega.{arith}
use Rattle.frames.proofs.FillFacts.{filling_turn, filling_end}
use Rattle.frames.proofs.fills.fill.Goals as goal

pub loop-i-preserved : goal.loop-i-preserved
loop-i-preserved g c = filling_turn c.loop-i.invariant (omega arith)

pub returns : goal.returns
returns g c = filling_end c.loop-i.invariant (omega arith)
