-- The tables keep their slices, and each turn leaves fewer turns.
use Rattle.frames.specs.Lent.{SameSlices}
use Rattle.replay.specs.Steps.Bounds.{turns_from}
use Rattle.replay.proofs.main.Given as goal

abbrev pub invariant-loop-going : goal.invariant-loop-going
invariant-loop-going l = SameSlices l.initial.tables l.tables

abbrev pub decreases-loop-going : goal.decreases-loop-going
decreases-loop-going l = turns_from l.going
