-- `frames::Area::bits_for` meets its contract: 2^64 pages and more take every count. Assumes nothing.
use Prim.Native.Nat.{ℕ, ◌^◌}
use native.Mathlib.Omega.{arith}
use mathlib.Core.Path.{◌≡◌, ap, ◌∙◌}
use lib.Pow.{pow_pos, pow_mono}
use Rattle.search.proofs.Bools.{below_or_not}
use Rattle.frames.specs.Areas.{ceiling}
use Rattle.frames.proofs.AreaFacts.{ceiling_is, ceiling_one, ceiling_zero, one_shl}
use Rattle.frames.proofs.Area.bits_for.Goals as goal

pub returns-then-self-lt64 : goal.returns-then-self-lt64
returns-then-self-lt64 c =
    let a = c.args.self in
    let d = one_shl a.order_per_bit c.if-self-lt64.true in
    c.div_ceil.ensures ∙ rw d (ceiling_is c.args.count (2 ^ a.order_per_bit) (pow_pos a.order_per_bit))

pub returns : goal.returns
returns c =
    let d = 2 ^ c.args.self.order_per_bit in
    let count = c.args.count in
    below_or_not 0 count
    (λ h.
    let one = ceiling_one count d h (omega (arith, pow_mono c.if-self-lt64.false)) in
    omega (arith, one))
    (λ h.
    let none : count ≡ 0 = omega arith in
    omega (arith, ap (λ (k : ℕ). ceiling k d) none ∙ ceiling_zero d (pow_pos c.args.self.order_per_bit)))
