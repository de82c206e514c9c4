-- `setup::amounts::limit_vanishes` meets its contract: just what is less than the alignment rounds down to 0. Assumes nothing.
use Rattle.rules.proofs.Divisions.{rounds_to_none}
use borrow.Author.Tests.{ne_eqb}
use Rattle.setup.proofs.amounts.limit_vanishes.Goals as goal

pub returns-then-limit-ne0 : goal.returns-then-limit-ne0
returns-then-limit-ne0 c = simp (ne_eqb _ _ c.if-limit-ne0.true, rounds_to_none c.args.limit c.args.alignment c.requires)
