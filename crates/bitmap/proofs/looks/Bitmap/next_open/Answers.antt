-- `bitmap::looks::Bitmap::next_open` meets its contract: what is looked for is where a run could begin. Assumes nothing.
use native.Mathlib.Omega.{arith}
use Rattle.bitmap.proofs.Finds.{open_bits}
use Rattle.bitmap.proofs.looks.Bitmap.next_open.Goals as goal

pub returns : goal.returns
returns c =
    let x = c.args in
    (open_bits x.run x.starts x.self.words.now x.self.start x.from x.count _ c.passed.ensures, omega (arith, c.passed.ensures.looks))
