-- `text::names::same_bytes` meets its contract: each place of the range is tried. Assumes nothing.
use Prim.Native.Nat.{ℕ, ◌+◌}
use mathlib.Core.Bool.{Bool}
use lib.Dec.{eqb}
use mathlib.Core.Path.{sym, ◌∙◌}
use borrow.Author.Tests.{tests}
use Rattle.std.proofs.Common.{rules, arith}
use Rattle.std.proofs.lemmas.Iterator.{YieldsList-from_range}
use Rattle.std.proofs.lemmas.Iterator.Search.{all_from_yields_List}
use Rattle.text.proofs.Every.{every_list}
use Rattle.text.specs.Bytes.{byte_at}
use Rattle.text.specs.Names.{same_bytes}
use Rattle.text.proofs.names.same_bytes.Goals as goal

pub returns : goal.returns
unfolding same_bytes
returns c =
    let a = c.args in
    let s = a.text.now in
    let same : ℕ → Bool = λ i. eqb (byte_at s (a.at + i)) (byte_at s (a.other + i)) in
    all_from_yields_List same _ _ c.all.result c.all.ensures.ran (YieldsList-from_range 0 a.n a.n (cc) (omega arith)) (λ x b q k. search (rules, tests))
    ∙ sym (every_list same 0 a.n)
