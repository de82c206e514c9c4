-- `bitmap::put_run` meets its contract: a run goes from the word on that holds its first bit, word by word; past the words' end nothing changes.
-- Assumes nothing.
use Prim.Native.Nat.{ℕ, ◌+◌, ◌-◌}
use native.Mathlib.Omega.{arith}
use mathlib.Core.Path.{sym, ap, ◌∙◌}
use lib.ListN.{set}
use Rattle.bitmap.specs.Bits.{change_bits}
use Rattle.bitmap.specs.Steps.Words.{put_in}
use Rattle.bitmap.proofs.Runs.{change_none, change_out, change_at, change_turn}
use Rattle.bitmap.proofs.put_run.Goals as goal

pub loop-at-init : goal.loop-at-init
loop-at-init c =
    let a = c.args in
    (omega arith, change_at (put_in a.bit) a.words.now a.start a.from a.count _ _ c.saturating_add-at.ensures (omega arith))

pub loop-at-preserved : goal.loop-at-preserved
loop-at-preserved c =
    let l = c.loop-at in
    let f = put_in c.args.bit in (
      omega arith,
      l.invariant.1 ∙ change_turn f l.words l.at l.low l.left c.min-part.result (omega arith) l.invariant.0 c.min-part.ensures
          ∙ ap (λ (x : ℕ). change_bits f (set l.words l.at x) (l.at + 1) 0 (l.left - c.min-part.result)) (sym c.changed.ensures),
    )

pub returns-after-loop-at : goal.returns-after-loop-at
returns-after-loop-at c =
    let l = c.loop-at in
    sym (l.invariant.1 ∙ change_out (put_in c.args.bit) l.words l.at l.low l.left (omega arith))

pub returns-then-left-eq0 : goal.returns-then-left-eq0
returns-then-left-eq0 c =
    let l = c.loop-at in
    let f = put_in c.args.bit in
    sym (l.invariant.1 ∙ ap (change_bits f l.words l.at l.low) c.if-left-eq0.true ∙ change_none f l.words l.at l.low)
