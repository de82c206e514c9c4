-- `page_calls::find_named` meets its contract: its tests are the definition's, in the definition's order. Assumes nothing.
use Rattle.std.specs.Prelude.{Ok}
use Rattle.page_calls.specs.Steps.Look.{find_named}
use Rattle.page_calls.proofs.Looks.{named_scanned, named, named_passed}
use mathlib.Core.Path.{refl, sym, ap, ◌∙◌}
use Rattle.page_calls.proofs.find_named.Goals as goal

pub returns-then-not-shape_right-clause-found : goal.returns-then-not-shape_right-clause-found
unfolding find_named
returns-then-not-shape_right-clause-found c = rw (sym c.if-not-shape_right.ensures) refl

pub returns-then-is_bad_name-clause-found : goal.returns-then-is_bad_name-clause-found
unfolding find_named
returns-then-is_bad_name-clause-found c = rw (sym c.if-not-shape_right.ensures, sym c.if-is_bad_name.ensures) refl

pub returns-clause-found : goal.returns-clause-found
returns-clause-found c = ap Ok c.find_page.ensures ∙ named_scanned _ _ _ (sym c.if-not-shape_right.ensures) (sym c.if-is_bad_name.ensures)

pub returns-clause-passed : goal.returns-clause-passed
returns-clause-passed c = named_passed _ _ _ (named _ _ _ (returns-clause-found c))
