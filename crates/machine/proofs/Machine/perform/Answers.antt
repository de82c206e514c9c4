-- `machine::Machine::perform` meets its contract: each arm is the call that its variant names, and does what that call's method does.
-- Assumes nothing.
use native.Mathlib.Omega.{arith}
use mathlib.Core.Path.{refl, sym, ◌∙◌}
use Rattle.rules.specs.Does.{record_with}
use Rattle.setup.proofs.AllAreas.{asked, lacking}
use Rattle.machine.proofs.Counted.{shape_uncounted, buffer_kept, buffer_reported}
use Rattle.machine.proofs.Machine.perform.Goals as goal

pub returns-then-areas-ne-AREA_NUMBERS : goal.returns-then-areas-ne-AREA_NUMBERS
returns-then-areas-ne-AREA_NUMBERS c =
    let a = c.args in
    rw c.kept.ensures (record {
      does_with_all = (((refl, refl, refl, refl), lacking _ _ _ (omega (arith, c.if-areas-ne-AREA_NUMBERS.true))), sym (shape_uncounted a.call a.self.counters));
      buffer_after = sym (buffer_kept a.call a.buffer.now (record_with a.self.memory a.areas.now) _ (omega (arith, c.if-areas-ne-AREA_NUMBERS.true)));
    })

pub returns-in-Report : goal.returns-in-Report
returns-in-Report c =
    let made = c.report.ensures in
    let all = c.if-areas-ne-AREA_NUMBERS.false in
    rw c.in-Report.is (record {
      does_with_all = ((made.does.0.0, made.does.0.1 ∙ asked _ _ _ (omega (arith, all))), made.does.1);
      buffer_after = made.buffer_after ∙ sym (buffer_reported _ _ _ (omega (arith, all)));
    })
