-- `regions::names::is_named` meets its contract: each region of the list is tried. Assumes nothing.
use mathlib.Core.Bool.{Bool}
use mathlib.Core.Path.{sym, ◌∙◌}
use borrow.Author.Tests.{tests}
use Rattle.std.proofs.Common.{rules}
use Rattle.std.proofs.lemmas.Iterator.{YieldsList-from_slice}
use Rattle.std.proofs.lemmas.Iterator.Search.{any_from_yields_List}
use Rattle.regions.specs.declared.Region.{Region}
use Rattle.regions.specs.Steps.Parts.{same_name}
use Rattle.regions.proofs.Naming.{named_list}
use Rattle.regions.proofs.names.is_named.Goals as goal

pub returns : goal.returns
returns c =
    let a = c.args in
    let same : Region → Bool = λ r. same_name r a.text.now a.at a.n in
    any_from_yields_List same _ _ c.any.result c.any.ensures.ran (YieldsList-from_slice a.before.now (cc)) (λ x b q k. search (rules, tests))
    ∙ sym (named_list a.text.now a.at a.n a.before.now)
