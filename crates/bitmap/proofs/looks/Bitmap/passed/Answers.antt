-- `bitmap::looks::Bitmap::passed` meets its contract: word by word from that on that holds the first bit, or past the words' end. Assumes nothing.
use Prim.Native.Nat.{◌≤◌}
use native.Mathlib.Omega.{arith}
use mathlib.Core.Path.{refl}
use Rattle.search.proofs.Lowest.{lowest_le}
use Rattle.bitmap.proofs.Finds.{pass_start, pass_out, pass_found, pass_turn, pass_end}
use Rattle.bitmap.proofs.looks.Bitmap.passed.Goals as goal

pub loop-at-init : goal.loop-at-init
loop-at-init c = pass_start _ _ _ _ _ _ _ _ c.saturating_add-at.ensures (omega arith)

pub returns-then-left-eq0 : goal.returns-then-left-eq0
returns-then-left-eq0 c = pass_end _ _ _ _ _ _ _ _ _ _ c.loop-at.invariant _ c.if-left-eq0.true refl refl

pub returns-then-near-part : goal.returns-then-near-part
returns-then-near-part c =
    pass_found _ _ _ _ _ _ _ _ _ _ c.loop-at.invariant (omega arith) c.loop-at-test.true
    _ c.hits.result _ c.clear_in-near.result c.look-seen.ensures.0 c.hits.ensures c.min-part.ensures c.clear_in-near.ensures
    _ c.if-near-part.true refl c.look-seen.ensures.1

pub loop-at-preserved : goal.loop-at-preserved
loop-at-preserved c =
    pass_turn _ _ _ _ _ _ _ _ _ _ c.loop-at.invariant (omega arith) c.loop-at-test.true
    _ c.hits.result _ c.clear_in-near.result c.look-seen.ensures.0 c.hits.ensures c.min-part.ensures c.clear_in-near.ensures
    _ c.if-near-part.false c.look-seen.ensures.1

pub overflow_add-result-2 : goal.overflow_add-result-2
overflow_add-result-2 c =
    let less : c.past_end.result ≤ c.loop-at.left = rw c.past_end.ensures (lowest_le _ _) in
    omega (arith, c.loop-at.invariant.high)

pub returns : goal.returns
returns c = pass_out _ _ _ _ _ _ _ _ _ _ c.loop-at.invariant _ c.past_end.result c.loop-at-test.false c.past_end.ensures refl refl
