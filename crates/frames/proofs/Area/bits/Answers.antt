-- `frames::Area::bits` meets its contract: a count below 2^64 has no bit of 2^64 pages. Assumes nothing.
use native.Mathlib.Omega.{arith}
use native.Mathlib.Nat.{div-eq_of_lt}
use mathlib.Core.Path.{sym}
use lib.Pow.{pow_mono}
use Rattle.frames.proofs.Area.bits.Goals as goal

pub returns-then-self-ge64 : goal.returns-then-self-ge64
returns-then-self-ge64 c = sym (div-eq_of_lt (omega (arith, pow_mono c.if-self-ge64.true)))
