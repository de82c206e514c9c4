-- `shape::shape_right` meets its contract: each test is one of the definition's, and one that fails makes the whole false.
-- Assumes nothing.
use Rattle.std.proofs.Common.{rules}
use borrow.Author.Tests.{le-leb}
use native.Mathlib.Omega.{arith}
use mathlib.Core.Path.{sym, ◌∙◌}
use Rattle.search.proofs.Ranges.{every_all}
use Rattle.rules.specs.Limits.{most_areas}
use Rattle.rules.specs.Shape.{area_fits, shape_right}
use Rattle.rules.specs.Does.{record_in}
use Rattle.rules.proofs.FirstWords.{fitting_exact}
use Rattle.shape.proofs.shape_right.Goals as goal

pub returns-then-not-memory_right : goal.returns-then-not-memory_right
unfolding shape_right
returns-then-not-memory_right c = search rules

pub returns-then-memory-gt-MOST_AREAS : goal.returns-then-memory-gt-MOST_AREAS
unfolding shape_right
returns-then-memory-gt-MOST_AREAS c = search rules

pub returns-then-not-areas_fit : goal.returns-then-not-areas_fit
unfolding shape_right
returns-then-not-areas_fit c = search rules

pub returns : goal.returns
unfolding shape_right
returns c =
    let m = record_in c.args.lent in
    let declared = c.args.lent.memory.declared in
    let right = sym c.memory_right.ensures ∙ c.if-not-memory_right.false in
    let fit = sym c.areas_fit.ensures ∙ c.if-not-areas_fit.false in
    let few = c.if-memory-gt-MOST_AREAS.false in
    let exact = fitting_exact m right declared few (λ k h. every_all (area_fits m) 0 declared fit k (omega arith) (omega arith)) in
    simp (right, le-leb declared most_areas few, sym c.lengths_right.ensures ∙ c.if-not-lengths_right.false, fit, c.first_word.ensures ∙ exact)
