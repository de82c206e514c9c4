-- `setup::amounts::AllowedRequest::plan_highest` meets its contract: what does not end at or below `high` does not fit, the place tried is the
-- highest that does, and of the frames below `high` those from the end of `held` on are in no area. Assumes nothing.
use Rattle.setup.proofs.Plans.{Searching}
use Rattle.setup.specs.Steps.Held.{HeldBelow}
use Rattle.setup.specs.Steps.Plan.{plan_tables}
use Rattle.rules.specs.Does.{record_in}
use Rattle.rules.specs.Limits.{page_bytes}
use mathlib.Core.List.{[]}
use Prim.Native.Nat.{◌/◌}
use Rattle.setup.proofs.amounts.AllowedRequest.plan_highest.Given as goal

abbrev pub invariant-loop-high : goal.invariant-loop-high
invariant-loop-high l =
    Searching (record_in l.fn.self.lent) l.fn.self.request (plan_tables l.marks []) l.high × HeldBelow l.fn.self.lent.areas.now l.fn.self.lent.memory.declared (l.high / page_bytes) l.held

abbrev pub decreases-loop-high : goal.decreases-loop-high
decreases-loop-high l = l.high
