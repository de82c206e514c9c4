-- `report::report` meets its contract. Assumes nothing.
use native.Mathlib.Omega.{arith}
use mathlib.Core.Path.{◌≡◌, sym, ◌∙◌}
use Rattle.std.specs.Prelude.{Some, None, Err}
use Rattle.answer.specs.declared.refusal.Refusal.TheVariants.{BufferTooShort}
use Rattle.report.proofs.Amounts.{bounded}
use Rattle.report.proofs.Ends.{wrong_shape, short, wrote}
use Rattle.report.proofs.report.Goals as goal

pub returns-then-not-shape_right : goal.returns-then-not-shape_right
returns-then-not-shape_right c =
    let ends = wrong_shape _ c.args.buffer.now _ (sym c.shape_right.ensures ∙ c.if-not-shape_right.true) in
    record { answers = sym ends.0; buffer_after = sym ends.1 }

pub put_report-told-requires : goal.put_report-told-requires
put_report-told-requires c = bounded _ _ (sym c.shape_right.ensures ∙ c.if-not-shape_right.false)

pub returns-in_err-length : goal.returns-in_err-length
returns-in_err-length c =
    let none : c.put_report-told.result ≡ None = grind arith in
    let told : c.from_residual.result ≡ Err BufferTooShort = grind arith in
    let ends = short _ _ _ (sym c.shape_right.ensures ∙ c.if-not-shape_right.false) c.put_report-told.ensures none in
    record { answers = rw told (sym ends.0); buffer_after = sym ends.1 }

pub returns : goal.returns
returns c =
    let some : c.put_report-told.result ≡ Some c.in_ok-length.length = grind arith in
    let ends = wrote _ _ _ (sym c.shape_right.ensures ∙ c.if-not-shape_right.false) c.put_report-told.ensures _ some in
    record { answers = sym ends.0; buffer_after = sym ends.1 }
