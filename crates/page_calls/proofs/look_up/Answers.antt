-- `page_calls::look_up` meets its contract: what the first checks gave says what it gives. Assumes nothing.
use Rattle.page_calls.proofs.Looks.{named, look_refused, look_found, looks_up, looked_inside}
use mathlib.Core.Path.{◌≡◌, ◌∙◌}
use Rattle.std.specs.Prelude.{Err}
use Rattle.std.proofs.Common.{rules}
use Rattle.page_calls.proofs.look_up.Goals as goal

pub returns-in_err-find_named-clause-found : goal.returns-in_err-find_named-clause-found
returns-in_err-find_named-clause-found c =
    let gives : c.from_residual.result ≡ Err c.in_err-find_named.field-0.0 = search rules in
    gives ∙ look_refused _ _ _ (named _ _ _ c.in_err-find_named.ensures.found)

pub returns-clause-found : goal.returns-clause-found
returns-clause-found c = c.ok_or.ensures.value ∙ look_found _ _ _ (named _ _ _ c.in_ok-find_named.ensures.found)

pub returns-clause-inside : goal.returns-clause-inside
returns-clause-inside c = looked_inside _ _ _ (looks_up _ _ _ (returns-clause-found c))
