-- `setup::place::later_held` meets its contract: the area's ends say whether it has a frame after those of `held`. Assumes nothing.
use Rattle.setup.proofs.Taken.{held_stays, held_moves}
use native.Mathlib.Omega.{arith}
use Rattle.setup.proofs.place.later_held.Goals as goal

pub returns-then-past-max : goal.returns-then-past-max
returns-then-past-max c = λ areas k same s. held_stays same s _ c.end_before-past.ensures (omega (arith, c.max.ensures))

pub returns : goal.returns
returns c = λ areas k same s. held_moves same s _ c.end_before-past.ensures (omega (arith, c.max.ensures)) (omega (arith, c.max.ensures))
