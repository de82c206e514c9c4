-- `bitmap::changed` meets its contract: a mask of ones joined in, or taken away. Assumes nothing.
use native.Mathlib.Omega.{arith}
use Rattle.bitmap.proofs.Word.{set_run_in, clear_run_in}
use Rattle.bitmap.proofs.changed.Goals as goal

pub returns-then-bit : goal.returns-then-bit
returns-then-bit c =
    let a = c.args in
    rw (c.if-bit.true, c.mask.ensures) (set_run_in a.w a.low a.count)

pub returns : goal.returns
returns c =
    let a = c.args in
    rw c.if-bit.false (clear_run_in a.w a.low a.count c.mask-2.result (omega arith) (omega arith) c.mask-2.ensures)
