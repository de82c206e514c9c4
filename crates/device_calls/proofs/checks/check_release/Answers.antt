-- `device_calls::checks::check_release` meets its contract: its tests are the definition's, in the definition's order. Assumes nothing.
use borrow.Author.Rules.{rules}
use mathlib.Core.Path.{sym, ap, ◌∙◌}
use mathlib.Core.Bool.{not}
use Rattle.search.proofs.Bools.{or_left}
use Rattle.frames.specs.Lent.{tables_read}
use Rattle.rules.specs.Does.{record_in}
use Rattle.device_calls.proofs.DeviceOutcomes.{place_below}
use Rattle.device_calls.proofs.ReleaseOutcomes.{ranged}
use Rattle.rules.specs.Outcomes.{here, there}
use Rattle.rules.specs.DeviceCalls.{later_frames}
use Rattle.device_calls.proofs.checks.check_release.Goals as goal

pub returns-then-not-shape_right : goal.returns-then-not-shape_right
returns-then-not-shape_right c = here (sym (ap not c.shape_right.ensures) ∙ ap not c.if-not-shape_right.true)

pub returns-then-is_bad_release : goal.returns-then-is_bad_release
returns-then-is_bad_release c = there (sym (ap not c.shape_right.ensures) ∙ ap not c.if-not-shape_right.false) (here (sym c.is_bad_release.ensures ∙ c.if-is_bad_release.true))

pub is_no_head-requires : goal.is_no_head-requires
is_no_head-requires c =
    let r = c.args.release in
    let has = ranged (record_in c.args.lent) r.area r.frame r.count (tables_read c.args.tables) (sym c.shape_right.ensures ∙ c.if-not-shape_right.false) (or_left _ _ (sym c.is_bad_release.ensures ∙ c.if-is_bad_release.false)) in
    (place_below c.place_of-page.ensures has.in_marks, rw c.area_at-a.ensures has.order, rw c.area_at-a.ensures has.in_area)

pub returns-then-is_no_head : goal.returns-then-is_no_head
returns-then-is_no_head c = there (sym (ap not c.shape_right.ensures) ∙ ap not c.if-not-shape_right.false) (there (sym c.is_bad_release.ensures ∙ c.if-is_bad_release.false) (here (search rules)))

pub is_not_owner-requires : goal.is_not_owner-requires
is_not_owner-requires c =
    let r = c.args.release in
    let has = ranged (record_in c.args.lent) r.area r.frame r.count (tables_read c.args.tables) (sym c.shape_right.ensures ∙ c.if-not-shape_right.false) (or_left _ _ (sym c.is_bad_release.ensures ∙ c.if-is_bad_release.false)) in
    place_below c.place_of-page.ensures has.in_owners

pub returns-then-is_not_owner : goal.returns-then-is_not_owner
returns-then-is_not_owner c = there (sym (ap not c.shape_right.ensures) ∙ ap not c.if-not-shape_right.false) (there (sym c.is_bad_release.ensures ∙ c.if-is_bad_release.false) (there (search rules) (here (search rules))))

pub returns-then-is_other_grant : goal.returns-then-is_other_grant
unfolding later_frames
returns-then-is_other_grant c = there (sym (ap not c.shape_right.ensures) ∙ ap not c.if-not-shape_right.false) (there (sym c.is_bad_release.ensures ∙ c.if-is_bad_release.false) (there (search rules) (there (search rules) (here (search rules)))))

pub returns : goal.returns
unfolding later_frames
returns c = search rules
