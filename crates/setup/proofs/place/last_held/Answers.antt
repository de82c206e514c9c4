-- `setup::place::last_held` meets its contract: `held` is the last before `end` of the first k areas. Assumes nothing.
use Rattle.setup.proofs.Taken.{held_start}
use Rattle.setup.proofs.place.last_held.Goals as goal

pub loop-k-init : goal.loop-k-init
loop-k-init c = held_start
