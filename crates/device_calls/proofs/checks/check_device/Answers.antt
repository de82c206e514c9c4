-- `device_calls::checks::check_device` meets its contract: its tests are the definition's, in the definition's order. Assumes nothing.
use borrow.Author.Rules.{rules}
use mathlib.Core.Path.{sym, ap, ◌∙◌}
use mathlib.Core.Bool.{not}
use Rattle.rules.specs.Outcomes.{here, there}
use Rattle.frames.specs.Lent.{tables_read}
use Rattle.rules.specs.Does.{record_in}
use Rattle.rules.proofs.Shapes.{shape_known}
use Rattle.device_calls.proofs.DeviceOutcomes.{tabled, place_below}
use Rattle.device_calls.proofs.checks.check_device.Goals as goal

pub returns-then-not-shape_right : goal.returns-then-not-shape_right
returns-then-not-shape_right c = here (sym (ap not c.shape_right.ensures) ∙ ap not c.if-not-shape_right.true)

pub is_bad_frame-requires : goal.is_bad_frame-requires
is_bad_frame-requires c = (shape_known (record_in c.args.lent) (tables_read c.args.tables) (sym c.shape_right.ensures ∙ c.if-not-shape_right.false)).memory.end_high

pub returns-then-is_bad_frame : goal.returns-then-is_bad_frame
returns-then-is_bad_frame c = there (sym (ap not c.shape_right.ensures) ∙ ap not c.if-not-shape_right.false) (here (sym c.is_bad_frame.ensures ∙ c.if-is_bad_frame.true))

pub offset_bounds-tables-page : goal.offset_bounds-tables-page
offset_bounds-tables-page c =
    let h = place_below c.place_of-page.ensures (tabled (record_in c.args.lent) c.args.frame c.args.device (tables_read c.args.tables) (sym c.shape_right.ensures ∙ c.if-not-shape_right.false) (sym c.is_bad_frame.ensures ∙ c.if-is_bad_frame.false)).in_marks in search rules

pub bounds-tables-page : goal.bounds-tables-page
bounds-tables-page c = place_below c.place_of-page.ensures (tabled (record_in c.args.lent) c.args.frame c.args.device (tables_read c.args.tables) (sym c.shape_right.ensures ∙ c.if-not-shape_right.false) (sym c.is_bad_frame.ensures ∙ c.if-is_bad_frame.false)).in_marks

pub returns-then-not-is_granted : goal.returns-then-not-is_granted
returns-then-not-is_granted c = there (sym (ap not c.shape_right.ensures) ∙ ap not c.if-not-shape_right.false) (there (sym c.is_bad_frame.ensures ∙ c.if-is_bad_frame.false) (here (search rules)))

pub is_not_owner-requires : goal.is_not_owner-requires
is_not_owner-requires c = place_below c.place_of-page.ensures (tabled (record_in c.args.lent) c.args.frame c.args.device (tables_read c.args.tables) (sym c.shape_right.ensures ∙ c.if-not-shape_right.false) (sym c.is_bad_frame.ensures ∙ c.if-is_bad_frame.false)).in_owners

pub returns-then-is_not_owner : goal.returns-then-is_not_owner
returns-then-is_not_owner c = there (sym (ap not c.shape_right.ensures) ∙ ap not c.if-not-shape_right.false) (there (sym c.is_bad_frame.ensures ∙ c.if-is_bad_frame.false) (there (search rules) (here (search rules))))
