-- `bitmap::looks::Sought::hits` meets its contract: the word's own bits, or of those that may be looked for where it is smeared clear. Assumes nothing.
use native.Mathlib.Omega.{arith}
use Rattle.bitmap.proofs.Smears.{hits_set, hits_open}
use Rattle.bitmap.proofs.looks.Sought.hits.Goals as goal

pub returns-in-Set : goal.returns-in-Set
returns-in-Set c = rw c.in-Set.is (hits_set c.args.w)

pub returns-then-run-lt64 : goal.returns-then-run-lt64
returns-then-run-lt64 c =
    let o = c.in-Open in
    rw o.is (hits_open o.run' o.starts _ c.args.w c.smeared.result (omega arith) (omega arith) (omega arith) c.smeared.ensures)

pub returns-else-run-lt64 : goal.returns-else-run-lt64
returns-else-run-lt64 c =
    let o = c.in-Open in
    rw o.is (hits_open o.run' o.starts 64 c.args.w c.smeared-in-Open.result (omega arith) (omega arith) (omega arith) c.smeared-in-Open.ensures)
