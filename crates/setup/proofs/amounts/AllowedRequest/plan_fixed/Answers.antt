-- `setup::amounts::AllowedRequest::plan_fixed` meets its contract: each test is one of the definition's. Assumes nothing.
use Rattle.setup.proofs.Plans.{rounded_fits, memory_ends, fixed_outside, fixed_full, fixed_there}
use Rattle.frames.specs.declared.Frame.{Frame}
use mathlib.Core.Path.{ap}
use native.Mathlib.Omega.{arith}
use Rattle.setup.proofs.amounts.AllowedRequest.plan_fixed.Goals as goal

pub byte_of_frame-start-requires : goal.byte_of_frame-start-requires
byte_of_frame-start-requires c = omega (arith, memory_ends c.args.self)

pub overflow_add-memory : goal.overflow_add-memory
overflow_add-memory c = omega (arith, memory_ends c.args.self)

pub byte_of_frame-end-requires : goal.byte_of_frame-end-requires
byte_of_frame-end-requires c = memory_ends c.args.self

pub is_outside-requires : goal.is_outside-requires
is_outside-requires c = rounded_fits c.args.self

pub returns-then-is_outside : goal.returns-then-is_outside
returns-then-is_outside c = fixed_outside c.args.self c.args.marks.now c.requires c.byte_of_frame-start.ensures c.byte_of_frame-end.ensures c.is_outside.ensures c.if-is_outside.true

pub returns-then-is_some : goal.returns-then-is_some
returns-then-is_some c = fixed_full c.args.self c.args.marks.now c.requires c.byte_of_frame-start.ensures c.byte_of_frame-end.ensures c.is_outside.ensures c.if-is_outside.false (ap (λ (v : Frame). v.0) c.frame_of_byte-base.ensures) _ c.if-is_some.ensures (c.first_taken.ensures _ _ c.last_held-held.ensures)

pub returns : goal.returns
returns c = fixed_there c.args.self c.args.marks.now c.requires c.byte_of_frame-start.ensures c.byte_of_frame-end.ensures c.is_outside.ensures c.if-is_outside.false (ap (λ (v : Frame). v.0) c.frame_of_byte-base.ensures) _ c.if-is_some.ensures (c.first_taken.ensures _ _ c.last_held-held.ensures)
