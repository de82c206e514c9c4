-- `bitmap::looks::Bitmap::clear_bits` meets its contract: what is looked for is a set bit. Assumes nothing.
use native.Mathlib.Omega.{arith}
use Rattle.bitmap.proofs.Finds.{set_bits_lem}
use Rattle.bitmap.proofs.looks.Bitmap.clear_bits.Goals as goal

pub returns : goal.returns
returns c =
    let x = c.args in
    (set_bits_lem x.self.words.now x.self.start x.from x.count _ c.passed.ensures, omega (arith, c.passed.ensures.looks))
