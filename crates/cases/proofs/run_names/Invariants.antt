-- There are no more cases than bytes that are read.
use Rattle.std.proofs.Common.{length, ◌+◌, ◌≤◌}
use Rattle.cases.specs.Steps.Tallies.{most_file}
use Rattle.cases.proofs.run_names.Given as goal

abbrev pub invariant-loop-name : goal.invariant-loop-name
invariant-loop-name g l = (l.t.cases + length l.rest ≤ most_file) × (l.t.failed ≤ l.t.cases)

abbrev pub decreases-loop-name : goal.decreases-loop-name
decreases-loop-name g l = length l.rest
