-- `bitmap::looks::Bitmap::longest_clear` meets its contract: the bits that a turn passes are among those left, and it goes on by a bit at least.
-- Assumes nothing.
use native.Mathlib.Omega.{arith}
use Rattle.bitmap.proofs.Rows.{rows_turn, rows_end, gap_high}
use Rattle.bitmap.proofs.looks.Bitmap.longest_clear.Goals as goal

pub overflow_add-from : goal.overflow_add-from
overflow_add-from c = omega (arith, gap_high _ _ _ _ _ _ c.next_open-open.ensures.0)

pub overflow_sub-count-in-loop-found-2 : goal.overflow_sub-count-in-loop-found-2
overflow_sub-count-in-loop-found-2 c = omega (arith, gap_high _ _ _ _ _ _ c.next_open-open.ensures.0)

pub overflow_add-from-in-loop-found : goal.overflow_add-from-in-loop-found
overflow_add-from-in-loop-found c =
    let l = c.loop-found in
    let turn = rows_turn _ _ _ _ _ _ c.next_open-open.ensures.0 _ c.clear_bits-clear.ensures.0 (omega arith) l.invariant in
    omega (arith, turn.rows.high)

pub loop-found-smaller : goal.loop-found-smaller
loop-found-smaller c =
    let l = c.loop-found in
    let turn = rows_turn _ _ _ _ _ _ c.next_open-open.ensures.0 _ c.clear_bits-clear.ensures.0 (omega arith) l.invariant in
    omega (arith, turn.on)

pub loop-found-preserved : goal.loop-found-preserved
loop-found-preserved c =
    let l = c.loop-found in
    let turn = rows_turn _ _ _ _ _ _ c.next_open-open.ensures.0 _ c.clear_bits-clear.ensures.0 (omega arith) l.invariant in
    rw c.max-found.ensures turn.rows

pub returns : goal.returns
returns c = rows_end _ _ _ _ _ c.loop-found.invariant c.loop-found-test.false
