-- `bitmap::mask` meets its contract: all ones, shifted down to as many as are asked and up to their place. Assumes nothing.
use Prim.Native.Nat.{ℕ, ◌+◌, ◌-◌, ◌*◌, ◌/◌, ◌%◌, ◌^◌}
use native.Mathlib.Omega.{arith}
use mathlib.Core.Path.{◌≡◌, sym, ap, ◌∙◌}
use lib.Pow.{high, high_ones, ones_lt, ones_split, shl_exact}
use Rattle.bitmap.proofs.mask.Goals as goal

pub returns : goal.returns
returns c =
    let n = c.args.count in
    let s = c.args.low in
    let width : 64 ≡ n + (64 - n) = omega arith in
    let all : 2 ^ 64 - 1 ≡ (2 ^ n - 1) * 2 ^ (64 - n) + (2 ^ (64 - n) - 1) = ap (λ (x : ℕ). 2 ^ x - 1) width ∙ ones_split n (64 - n) in
    let ones : (2 ^ 64 - 1) / 2 ^ (64 - n) ≡ 2 ^ n - 1 = ap (λ (x : ℕ). x / 2 ^ (64 - n)) all ∙ high (2 ^ n - 1) (64 - n) (ones_lt (64 - n)) in
    ap (λ (x : ℕ). x * 2 ^ s % 2 ^ 64) ones ∙ shl_exact n s 64 (ones_lt n) (omega arith) ∙ sym (high_ones n s)
