-- `text::numbers::digits` meets its contract: where the digits end, the unit that stands there, and the product. Assumes nothing.
use Rattle.text.proofs.Digits.{digits_read}
use Rattle.text.proofs.Classes.{unit_inside}
use mathlib.Core.Path.{sym, ◌∙◌}
use native.Mathlib.Omega.{arith}
use borrow.Author.Tests.{eq-eqb, ne_eqb}
use Rattle.text.proofs.numbers.digits.Goals as goal

pub returns-then-unit-eq1 : goal.returns-then-unit-eq1
returns-then-unit-eq1 c =
    let a = c.args in
    let read = digits_read a.base a.text.now a.at c.digits_end-end.result c.unit_of-unit.result c.digits_value.result c.saturating_mul.result c.capped-v.result
    (cc) (cc) (cc) (cc) (cc) in
    sym (read ∙ rw (eq-eqb c.unit_of-unit.result 1 c.if-unit-eq1.true))

pub overflow_add-result : goal.overflow_add-result
overflow_add-result c =
    let a = c.args in
    let end = c.digits_end-end.result in
    omega (arith, unit_inside a.text.now end (λ e. c.if-unit-eq1.false (cc)))

pub returns : goal.returns
returns c =
    let a = c.args in
    let read = digits_read a.base a.text.now a.at c.digits_end-end.result c.unit_of-unit.result c.digits_value.result c.saturating_mul.result c.capped-v.result
    (cc) (cc) (cc) (cc) (cc) in
    sym (read ∙ rw (ne_eqb c.unit_of-unit.result 1 c.if-unit-eq1.false))
