-- `device_calls::checks::check_grant` meets its contract: its tests are the definition's, in the definition's order. Assumes nothing.
use mathlib.Core.Path.{sym, ap, ◌∙◌}
use mathlib.Core.Bool.{not}
use Rattle.rules.specs.Outcomes.{here, there}
use Rattle.device_calls.proofs.checks.check_grant.Goals as goal

pub returns-then-not-shape_right : goal.returns-then-not-shape_right
returns-then-not-shape_right c = here (sym (ap not c.shape_right.ensures) ∙ ap not c.if-not-shape_right.true)

pub returns-then-is_bad_grant : goal.returns-then-is_bad_grant
returns-then-is_bad_grant c = there (sym (ap not c.shape_right.ensures) ∙ ap not c.if-not-shape_right.false) (here (sym c.is_bad_grant.ensures ∙ c.if-is_bad_grant.true))
