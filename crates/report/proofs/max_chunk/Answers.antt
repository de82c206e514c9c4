-- `report::max_chunk` meets its contract: an area's longest stretch has fewer than 2^64 frames. Assumes nothing.
use Prim.Native.Nat.{ℕ, ◌*◌, ◌^◌, ◌%◌, ◌≤◌}
use native.Mathlib.Nat.{mul_comm, mul-le-mul, mod-eq_of_lt, div-le_self}
use native.Mathlib.Omega.{arith}
use mathlib.Core.Path.{◌≡◌, ◌∙◌}
use lib.Pow.{pow_mono}
use Rattle.search.proofs.Longest.{longest_is}
use Rattle.bitmap.specs.Bits.{is_clear}
use Rattle.frames.specs.Areas.{per_bit, bit_count}
use Rattle.report.proofs.max_chunk.Goals as goal

-- so many bits, of at most 2^10 frames each
in-frames : (bits order : ℕ) → bits ≤ 262144 → order ≤ 10 → (bits * 2 ^ order) % 18446744073709551616 ≡ 2 ^ order * bits
in-frames bits order few small =
    let most : bits * 2 ^ order ≤ 262144 * 2 ^ 10 = mul-le-mul few (pow_mono small) in
    mod-eq_of_lt (omega arith) ∙ mul_comm bits (2 ^ order)

pub returns : goal.returns
returns c =
    let area = c.args.area in
    let row = (longest_is (is_clear c.args.bitmap.words.now c.args.bitmap.start) 0 (bit_count area)).found in
    rw (c.longest_clear-bits.ensures, c.bits.ensures)
    (in-frames _ area.order_per_bit (omega (arith, row.high, row.low, div-le_self area.count (per_bit area), c.requires.0)) c.requires.1)
