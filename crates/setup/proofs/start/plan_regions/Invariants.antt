-- `setup::start::plan_regions` meets its contract: what is left to declare is the regions from `i` on. Assumes nothing.
use Rattle.setup.proofs.Starts.{Planning}
use lib.ListN.{length}
use Rattle.regions.specs.Steps.Progress.{held}
use Rattle.rules.specs.Does.{record_with}
use Rattle.setup.proofs.start.plan_regions.Given as goal

abbrev pub invariant-loop-i : goal.invariant-loop-i
invariant-loop-i l = Planning l.fn.bare.frames (length l.bitmap) (held l.fn.regions) (record_with l.fn.bare l.initial.areas) l.i (record_with l.memory l.areas)
