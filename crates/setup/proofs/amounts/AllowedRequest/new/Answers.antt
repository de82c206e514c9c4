-- `setup::amounts::AllowedRequest::new` meets its contract: each amount is rounded as the definition says. Assumes nothing.
use Rattle.setup.proofs.Plans.{aligned}
use Rattle.rules.proofs.Rounding.{asked}
use Rattle.rules.proofs.Shapes.{memory_known}
use Rattle.rules.specs.Declare.{alignment_for, base_for, size_for, limit_for}
use Rattle.rules.specs.Does.{record_in}
use native.Mathlib.Omega.{arith}
use Rattle.setup.proofs.amounts.AllowedRequest.new.Goals as goal

pub alignment_for-alignment-requires : goal.alignment_for-alignment-requires
alignment_for-alignment-requires c = (memory_known _ _ _ c.requires.memory_value).order_high

pub overflow_add-memory : goal.overflow_add-memory
overflow_add-memory c = omega (arith, (memory_known _ _ _ c.requires.memory_value).end_high)

pub byte_of_frame-end-requires : goal.byte_of_frame-end-requires
byte_of_frame-end-requires c = (memory_known _ _ _ c.requires.memory_value).end_high

pub round_up-requires : goal.round_up-requires
round_up-requires c =
    let x = c.args in
    let a = aligned (record_in x.lent) x.request c.requires.memory_value c.requires.request_value c.alignment_for-alignment.ensures in
    (a.0, omega (arith, (asked x.request c.requires.request_value).base_high), a.1)

pub round_up-requires-2 : goal.round_up-requires-2
round_up-requires-2 c =
    let x = c.args in
    let a = aligned (record_in x.lent) x.request c.requires.memory_value c.requires.request_value c.alignment_for-alignment.ensures in
    (a.0, omega (arith, (asked x.request c.requires.request_value).size_high), a.1)

pub invariant_of-result : goal.invariant_of-result
unfolding alignment_for base_for size_for limit_for
invariant_of-result c =
    record {
      memory_value = c.requires.memory_value;
      request_value = c.requires.request_value;
      rounds = rw (← c.alignment_for-alignment.ensures) (simp (c.byte_of_frame-end.ensures, c.round_up.ensures, c.round_up-2.ensures, c.limit_within.ensures));
    }
