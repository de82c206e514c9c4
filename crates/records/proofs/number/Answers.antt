-- `records::number` meets its contract: from the highest byte down, `value` is the number in the bytes passed. Assumes nothing.
use native.Mathlib.Omega.{arith}
use mathlib.Core.Path.{◌∙◌, ap}
use Rattle.std.specs.Iterator.Adapters.{rev_source}
use Rattle.std.specs.Slice.Iter.{iter_rest}
use Rattle.records.proofs.Little.{passed_none, passed_more, passed_fits, passed_all}
use Rattle.records.proofs.number.Goals as goal

pub loop-byte-init : goal.loop-byte-init
loop-byte-init c =
    let whole = ap (λ r. iter_rest (rev_source r)) c.into_iter-byte-iterator.ensures.into_iter_gives
    ∙ ap iter_rest c.rev-byte-items.ensures.source ∙ c.iter.ensures.rest in
    passed_none c.args.bytes.now c.args.at c.args.width c.requires.0 whole

pub overflow_mul-value : goal.overflow_mul-value
overflow_mul-value c =
    omega (arith, passed_fits (λ k. omega (arith, c.type_inv.bytes k)) c.requires.1 (passed_more c.in-Some.byte.now c.in-Some.ensures.steps c.loop-byte.invariant))

pub overflow_add-value : goal.overflow_add-value
overflow_add-value c =
    omega (arith, c.from.ensures, passed_fits (λ k. omega (arith, c.type_inv.bytes k)) c.requires.1 (passed_more c.in-Some.byte.now c.in-Some.ensures.steps c.loop-byte.invariant))

pub loop-byte-preserved : goal.loop-byte-preserved
loop-byte-preserved c = rw c.from.ensures (passed_more c.in-Some.byte.now c.in-Some.ensures.steps c.loop-byte.invariant)

pub returns : goal.returns
returns c = passed_all c.in-None.ensures.steps.0 c.loop-byte.invariant
