-- `setup::plan::plan_area` meets its contract: each test is one of the definition's. Assumes nothing.
use Rattle.setup.proofs.Plans.{plan_full, plan_bad, plan_order, plan_on}
use Rattle.setup.specs.Steps.Plan.{plan_tables, plan_after}
use Rattle.rules.specs.Does.{record_in}
use mathlib.Core.Path.{ap₂, ◌∙◌}
use Rattle.setup.proofs.plan.plan_area.Goals as goal

pub returns-then-lent-ge-MOST_AREAS : goal.returns-then-lent-ge-MOST_AREAS
returns-then-lent-ge-MOST_AREAS c = let x = c.args in plan_full (record_in x.lent) x.request (plan_tables x.marks.now x.bitmap.now) c.if-lent-ge-MOST_AREAS.true

pub returns-then-is_bad_request : goal.returns-then-is_bad_request
returns-then-is_bad_request c = let x = c.args in plan_bad (record_in x.lent) x.request (plan_tables x.marks.now x.bitmap.now) c.if-lent-ge-MOST_AREAS.false c.is_bad_request.ensures c.if-is_bad_request.true

pub returns-then-lent-request : goal.returns-then-lent-request
returns-then-lent-request c = let x = c.args in plan_order (record_in x.lent) x.request (plan_tables x.marks.now x.bitmap.now) c.if-lent-ge-MOST_AREAS.false c.is_bad_request.ensures c.if-is_bad_request.false c.if-lent-request.true

pub returns : goal.returns
returns c =
    let x = c.args in
    let t = plan_tables x.marks.now x.bitmap.now in
    plan_on (record_in x.lent) x.request t c.if-lent-ge-MOST_AREAS.false c.is_bad_request.ensures c.if-is_bad_request.false c.if-lent-request.false
    (c.plan.ensures ∙ ap₂ (λ l q. plan_after 4 (record_in l) q t) c.new.ensures.0 c.new.ensures.1)
