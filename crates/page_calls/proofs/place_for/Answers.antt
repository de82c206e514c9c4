-- `page_calls::place_for` meets its contract: what the scans find is the place that the definition takes. Assumes nothing.
use Rattle.page_calls.proofs.Puts.{place_ordinary, place_movable, place_inside}
use mathlib.Core.Path.{◌∙◌}
use Rattle.std.proofs.Common.{rules}
use Rattle.page_calls.proofs.place_for.Goals as goal

pub returns-then-ne-clause-found : goal.returns-then-ne-clause-found
returns-then-ne-clause-found c = c.find_free_ordinary-ordinary.ensures ∙ place_ordinary _ _ c.requires c.args.kind (search rules)

pub returns-then-ne-clause-inside : goal.returns-then-ne-clause-inside
returns-then-ne-clause-inside c = place_inside _ _ c.requires _ (returns-then-ne-clause-found c)

pub returns-clause-found : goal.returns-clause-found
returns-clause-found c = place_movable _ _ c.requires _ (search rules) c.find_free_ordinary-ordinary.ensures (λ e. search rules) (λ p e. search rules)

pub returns-clause-inside : goal.returns-clause-inside
returns-clause-inside c = place_inside _ _ c.requires _ (returns-clause-found c)
