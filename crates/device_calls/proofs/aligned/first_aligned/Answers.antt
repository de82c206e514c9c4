-- `device_calls::aligned::first_aligned` meets its contract: the area begins on a multiple, or the distance up to the next is whole bits.
-- Assumes nothing.
use Prim.Native.Nat.{ℕ, ◌+◌, ◌-◌, ◌*◌, ◌/◌, ◌^◌, ◌≤◌, ◌<◌}
use native.Mathlib.Omega.{arith}
use mathlib.Core.Path.{◌≡◌, ap, ◌∙◌}
use lib.Pow.{pow_pos}
use Rattle.std.specs.Int.{div_ceil}
use Rattle.std.proofs.lemmas.Grind.{div_ceil_times}
use Rattle.frames.specs.declared.Bit.{Bit}
use Rattle.device_calls.proofs.Alignment.{first_aligned}
use Rattle.device_calls.proofs.aligned.first_aligned.Goals as goal

-- the lowest multiple that is not below a number, as the code comes to it
next_is : (base align : ℕ) {block n : ℕ} → block ≡ 2 ^ align → n ≡ div_ceil base block → n * block ≡ div_ceil base (2 ^ align) * 2 ^ align
next_is base align e f = rw (f, e)

next_near : (base align : ℕ) → (base ≤ div_ceil base (2 ^ align) * 2 ^ align) × (div_ceil base (2 ^ align) * 2 ^ align < base + 2 ^ align)
next_near base align = div_ceil_times base (2 ^ align) (pow_pos align)

pub bit_of_frame-requires : goal.bit_of_frame-requires
bit_of_frame-requires c =
    let x = c.args in
    (omega (arith, c.requires.1), omega (arith, next_is x.a.base.0 x.align c.block_of-block.ensures c.div_ceil.ensures, (next_near x.a.base.0 x.align).0))

pub returns : goal.returns
returns c =
    let x = c.args in
    first_aligned x.a x.align c.requires.0 c.requires.2 c.bit_of_frame.result.0
    (ap (λ (v : Bit). v.0) c.bit_of_frame.ensures ∙ ap (λ (n : ℕ). (n - x.a.base.0) / 2 ^ x.a.order_per_bit) (next_is x.a.base.0 x.align c.block_of-block.ensures c.div_ceil.ensures))
