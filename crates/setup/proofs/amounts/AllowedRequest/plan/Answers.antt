-- `setup::amounts::AllowedRequest::plan` meets its contract: each test is one of the definition's, on the rounded amounts. Assumes nothing.
use Rattle.setup.proofs.Plans.{rounded_some, rounded_fits, plan_small, plan_above, plan_short, plan_roomy}
use Rattle.setup.specs.Steps.Plan.{plan_tables}
use Rattle.rules.proofs.Rounding.{asked}
use native.Mathlib.Omega.{arith}
use Rattle.setup.proofs.amounts.AllowedRequest.plan.Goals.{then-vanishes-via-then-vanishes, then-vanishes-via-else-vanishes+then-above}
use Rattle.setup.proofs.amounts.AllowedRequest.plan.Goals as goal

-- the sum of base and size does not wrap, as given or rounded
pub overflow_add-end : goal.overflow_add-end
overflow_add-end c =
    let given = asked c.args.self.request c.args.self.request_value in
    let fits = rounded_fits c.args.self in
    omega (arith, fits.base_high, fits.size_high, given.base_high, given.size_high)

pub limit_vanishes-vanishes-requires : goal.limit_vanishes-vanishes-requires
limit_vanishes-vanishes-requires c = rounded_some c.args.self

pub returns-then-vanishes : goal.returns-then-vanishes
returns-then-vanishes c =
    let t = plan_tables c.args.marks.now c.args.bitmap.now in
    elim c.then-vanishes.branch [
      | then-vanishes-via-then-vanishes w ↦ plan_small c.args.self t c.limit_vanishes-vanishes.ensures c.is_fixed-fixed.ensures c.is_above_limit-above.ensures c.lacks_room-short.ensures w.if-vanishes.true
      | then-vanishes-via-else-vanishes+then-above w ↦ plan_above c.args.self t c.limit_vanishes-vanishes.ensures c.is_fixed-fixed.ensures c.is_above_limit-above.ensures c.lacks_room-short.ensures w.if-vanishes.false w.if-above.true
    ]

pub returns-then-short : goal.returns-then-short
returns-then-short c = plan_short c.args.self (plan_tables c.args.marks.now c.args.bitmap.now) c.limit_vanishes-vanishes.ensures c.is_fixed-fixed.ensures c.is_above_limit-above.ensures c.lacks_room-short.ensures c.if-vanishes.false c.if-above.false c.if-short.true

pub returns-then-fixed : goal.returns-then-fixed
returns-then-fixed c = plan_roomy c.args.self (plan_tables c.args.marks.now c.args.bitmap.now) c.limit_vanishes-vanishes.ensures c.is_fixed-fixed.ensures c.is_above_limit-above.ensures c.lacks_room-short.ensures c.if-vanishes.false c.if-above.false c.if-short.false c.plan_fixed.ensures

pub returns : goal.returns
returns c = plan_roomy c.args.self (plan_tables c.args.marks.now c.args.bitmap.now) c.limit_vanishes-vanishes.ensures c.is_fixed-fixed.ensures c.is_above_limit-above.ensures c.lacks_room-short.ensures c.if-vanishes.false c.if-above.false c.if-short.false c.plan_highest.ensures
