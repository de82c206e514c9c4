-- `shape::is_whole_blocks` meets its contract: the bits below one shifted by the order are what is left of the number. Assumes nothing.
use Prim.Native.Nat.{ℕ, ◌-◌}
use native.Mathlib.Omega.{arith}
use native.Mathlib.Nat.{one-mul}
use lib.Bits.{bit_and, and_mask}
use lib.Dec.{eqb}
use lib.Pow.{shl_exact}
use mathlib.Core.Path.{ap, ◌∙◌}
use Rattle.shape.proofs.is_whole_blocks.Goals as goal

pub returns : goal.returns
returns c =
    let order = c.args.order in
    let block = shl_exact 1 order 64 (omega (arith, c.requires)) (omega (arith, c.requires)) ∙ one-mul _ in
    ap (λ (rest : ℕ). eqb rest 0) (ap (λ (b : ℕ). bit_and c.args.frames (b - 1)) block ∙ and_mask c.args.frames order)
