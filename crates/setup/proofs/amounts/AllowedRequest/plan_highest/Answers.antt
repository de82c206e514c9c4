-- `setup::amounts::AllowedRequest::plan_highest` meets its contract: what does not end at or below `high` does not fit, the place tried is the
-- highest that does, and of the frames below `high` those from the end of `held` on are in no area. Assumes nothing.
use Rattle.setup.proofs.Plans.{rounded_some, ScannedIn, rounded_fits, memory_ends, Searching, search_start, trying, tried_below, tried_inside, tried_taken, tried_made, tried_on, tried_all}
use Rattle.setup.proofs.Taken.{held_lower}
use Rattle.setup.specs.Steps.Plan.{plan_tables}
use Rattle.rules.specs.Does.{record_in}
use Rattle.frames.specs.declared.Frame.{Frame}
use mathlib.Core.List.{[]}
use mathlib.Core.Path.{ap, sym, subst}
use native.Mathlib.Omega.{arith}
use Rattle.setup.proofs.amounts.AllowedRequest.plan_highest.Goals as goal

pub lowest_end-lowest-requires : goal.lowest_end-lowest-requires
lowest_end-lowest-requires c = record { amounts_fit = rounded_fits c.args.self; first_le_most_end = omega (arith, memory_ends c.args.self) }

pub loop-high-init : goal.loop-high-init
loop-high-init c = (search_start c.args.self c.args.marks.now, held_lower _ c.last_held-held.ensures.below (omega (arith, ap (λ (v : Frame). v.0) c.frame_of_byte.ensures)))

pub nonzero_div-start : goal.nonzero_div-start
nonzero_div-start c = omega (arith, rounded_some c.args.self)

pub held_before-held-requires : goal.held_before-held-requires
held_before-held-requires c =
    let tried = trying c.args.self c.args.marks.now c.lowest_end-lowest.ensures (omega arith) (ap (λ (v : Frame). v.0) c.frame_of_byte-base.ensures) in
    held_lower _ c.loop-high.invariant.1 (tried_below c.args.self c.args.marks.now c.loop-high.invariant.0 tried)

pub first_taken-requires : goal.first_taken-requires
first_taken-requires c =
    let tried = trying c.args.self c.args.marks.now c.lowest_end-lowest.ensures (omega arith) (ap (λ (v : Frame). v.0) c.frame_of_byte-base.ensures) in
    (tried.in_memory, omega (arith, tried_inside c.args.self c.args.marks.now c.loop-high.invariant.0 tried))

pub returns-in_default : goal.returns-in_default
returns-in_default c =
    let tried = trying c.args.self c.args.marks.now c.lowest_end-lowest.ensures (omega arith) (ap (λ (v : Frame). v.0) c.frame_of_byte-base.ensures) in
    tried_made c.args.self c.args.marks.now c.loop-high.invariant.0 tried (subst (ScannedIn (record_in c.args.self.lent) (plan_tables c.args.marks.now []) _ _) c.in_default.is (c.first_taken.ensures _ _ c.held_before-held.ensures)) c.requires

pub byte_of_frame-high-requires : goal.byte_of_frame-high-requires
byte_of_frame-high-requires c =
    let tried = trying c.args.self c.args.marks.now c.lowest_end-lowest.ensures (omega arith) (ap (λ (v : Frame). v.0) c.frame_of_byte-base.ensures) in
    let taken = tried_taken c.args.self c.args.marks.now c.loop-high.invariant.0 tried (c.first_taken.ensures _ _ c.held_before-held.ensures) c.in-Some.is in
    omega (arith, tried_inside c.args.self c.args.marks.now c.loop-high.invariant.0 tried, taken.before)

pub loop-high-preserved : goal.loop-high-preserved
loop-high-preserved c =
    let tried = trying c.args.self c.args.marks.now c.lowest_end-lowest.ensures (omega arith) (ap (λ (v : Frame). v.0) c.frame_of_byte-base.ensures) in
    let taken = tried_taken c.args.self c.args.marks.now c.loop-high.invariant.0 tried (c.first_taken.ensures _ _ c.held_before-held.ensures) c.in-Some.is in (
      subst (Searching (record_in c.args.self.lent) c.args.self.request (plan_tables c.args.marks.now [])) (sym c.byte_of_frame-high.ensures)
          (tried_on c.args.self c.args.marks.now c.loop-high.invariant.0 tried taken),
      held_lower _ c.held_before-held.ensures.below (omega (arith, c.byte_of_frame-high.ensures, taken.before)),
    )

pub returns : goal.returns
returns c = tried_all c.args.self c.args.marks.now c.requires c.lowest_end-lowest.ensures c.loop-high.invariant.0 (omega arith)
