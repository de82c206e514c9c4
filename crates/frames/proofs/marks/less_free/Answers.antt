-- `frames::marks::less_free` meets its contract: what is left of the number after the rest of the range. Assumes nothing.
use Prim.Native.Nat.{ℕ, ◌-◌}
use native.Mathlib.Omega.{arith}
use mathlib.Core.Path.{ap, ◌∙◌}
use Rattle.frames.proofs.ScanFacts.{take_part, take_rest}
use Rattle.frames.proofs.marks.less_free.Goals as goal

pub loop-i-preserved : goal.loop-i-preserved
loop-i-preserved c =
    let l = c.loop-i in
    (omega arith, rw (c.saturating_sub-left.ensures ∙ ap (λ (k : ℕ). l.left - k) c.count_met.ensures) (take_part l.invariant.1 64 (omega arith)))

pub returns : goal.returns
returns c =
    let l = c.loop-i in
    c.saturating_sub.ensures ∙ ap (λ (k : ℕ). l.left - k) c.count_met-2.ensures ∙ take_rest l.invariant.1
