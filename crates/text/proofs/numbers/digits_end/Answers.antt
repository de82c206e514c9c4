-- `text::numbers::digits_end` meets its contract: the search of the definition goes on from i. Assumes nothing.
use lib.Dec.{ltb}
use Rattle.text.specs.Bytes.{byte_at, digit_of}
use Rattle.text.specs.Numbers.{digits_end}
use Rattle.search.proofs.Lowest.{lowest_here, lowest_next, lowest_end}
use lib.ListN.{length}
use mathlib.Core.Path.{◌≡◌, refl, sym, ap, ◌∙◌}
use mathlib.Core.Bool.{true, false, not}
use native.Mathlib.Omega.{arith}
use borrow.Author.Tests.{le-ltb, lt-ltb}
use Rattle.text.proofs.numbers.digits_end.Invariants.{ends}
use Rattle.text.proofs.numbers.digits_end.Goals as goal

pub loop-i-init : goal.loop-i-init
unfolding digits_end
loop-i-init c = (refl, omega arith)

pub returns-then-base-digit_of : goal.returns-then-base-digit_of
returns-then-base-digit_of c =
    let a = c.args in
    let l = c.loop-i in
    let stops : ltb (digit_of (byte_at a.text.now l.i)) a.base ≡ false = le-ltb (digit_of (byte_at a.text.now l.i)) a.base (omega arith) in
    sym (l.invariant.0 ∙ lowest_here (ends a.text.now a.base) l.i (length a.text.now) (omega arith) (ap not stops))

pub loop-i-preserved : goal.loop-i-preserved
loop-i-preserved c =
    let a = c.args in
    let l = c.loop-i in
    let goes : ltb (digit_of (byte_at a.text.now l.i)) a.base ≡ true = lt-ltb (digit_of (byte_at a.text.now l.i)) a.base (omega arith) in
    (l.invariant.0 ∙ lowest_next (ends a.text.now a.base) l.i (length a.text.now) (omega arith) (ap not goes), omega arith)

pub returns : goal.returns
returns c =
    let a = c.args in
    let l = c.loop-i in
    let end : l.i ≡ c.max.result = omega (arith, c.max.ensures) in
    sym (l.invariant.0 ∙ lowest_end (ends a.text.now a.base) l.i (length a.text.now) (omega arith) ∙ end)
