-- `setup::start::plan_regions` meets its contract: what is left to declare is the regions from `i` on. Assumes nothing.
use Rattle.setup.proofs.Starts.{planning_start, memory_right_lem, planning_end, planning_stop, planning_few, planning_on}
use mathlib.Core.Path.{refl, ap, ◌∙◌}
use lib.ListN.{length, get_or}
use Rattle.answer.specs.Answers.{with_number}
use Rattle.regions.specs.Result.{no_region}
use Rattle.regions.specs.Steps.Progress.{held}
use Rattle.rules.specs.Boot.{request_of}
use native.Mathlib.Omega.{arith}
use Rattle.setup.proofs.start.plan_regions.Goals as goal

pub loop-i-init : goal.loop-i-init
loop-i-init c = let x = c.args in planning_start x.bare.base.0 x.bare.frames x.bare.block_order (length x.bitmap.now) c.requires.right (held x.regions) c.requires.bare

pub plan_area-requires : goal.plan_area-requires
plan_area-requires c = memory_right_lem (held c.args.regions) c.loop-i.invariant

pub returns-in-Err : goal.returns-in-Err
returns-in-Err c =
    let items = c.as_slice-region-items.ensures in
    planning_stop (held c.args.regions) c.loop-i.invariant (omega (arith, ap length items)) (c.request_of.ensures ∙ ap (λ l. request_of (get_or l c.loop-i.i no_region)) items) c.args.bitmap.now refl c.plan_area.ensures c.in-Err.refusal (ap with_number c.in-Err.is)

pub with_area-memory-requires : goal.with_area-memory-requires
with_area-memory-requires c =
    let items = c.as_slice-region-items.ensures in
    planning_few (held c.args.regions) c.loop-i.invariant (omega (arith, ap length items)) (c.request_of.ensures ∙ ap (λ l. request_of (get_or l c.loop-i.i no_region)) items) c.args.bitmap.now refl c.plan_area.ensures (ap with_number c.in-Ok.is)

pub loop-i-preserved : goal.loop-i-preserved
loop-i-preserved c =
    let items = c.as_slice-region-items.ensures in
    planning_on (held c.args.regions) c.loop-i.invariant (omega (arith, ap length items)) (c.request_of.ensures ∙ ap (λ l. request_of (get_or l c.loop-i.i no_region)) items) c.args.bitmap.now refl c.plan_area.ensures (ap with_number c.in-Ok.is) c.with_area-memory.ensures

pub returns : goal.returns
returns c = planning_end (held c.args.regions) c.loop-i.invariant (omega (arith, ap length c.as_slice-region-items.ensures))
