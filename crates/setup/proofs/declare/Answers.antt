-- `setup::declare` meets its contract: the areas' numbers and the shape, then the plan, then what the plan says is written. Assumes nothing.
use Rattle.std.proofs.Common.{rules, ◌≡◌, Err}
use Rattle.setup.proofs.DeclareOutcomes.{declare_lacking, declare_wrong, shape_is, words_inside, declare_not, declare_few, declare_made}
use Rattle.answer.specs.Answers.{number_of}
use Rattle.rules.proofs.ShapeFacts.{shape_memory}
use Rattle.frames.specs.Tables.{tables}
use Rattle.rules.specs.Does.{record_with}
use native.Mathlib.Omega.{arith}
use Rattle.setup.proofs.declare.Goals as goal

pub returns-then-areas-ne-AREA_NUMBERS : goal.returns-then-areas-ne-AREA_NUMBERS
returns-then-areas-ne-AREA_NUMBERS c =
    let x = c.args in
    declare_lacking (record_with x.memory x.areas.now) x.request (tables x.marks.now x.words.now x.bitmap.now x.owners.now) (omega (arith, c.if-areas-ne-AREA_NUMBERS.true))

pub returns-then-not-shape_right : goal.returns-then-not-shape_right
returns-then-not-shape_right c =
    let x = c.args in
    declare_wrong (record_with x.memory x.areas.now) x.request (tables x.marks.now x.words.now x.bitmap.now x.owners.now) (omega (arith, c.if-areas-ne-AREA_NUMBERS.false)) c.shape_right.ensures c.if-not-shape_right.true

pub plan_area-requires : goal.plan_area-requires
plan_area-requires c =
    let x = c.args in
    shape_memory _ _ (shape_is (record_with x.memory x.areas.now) x.request (tables x.marks.now x.words.now x.bitmap.now x.owners.now) (omega (arith, c.if-areas-ne-AREA_NUMBERS.false)) c.shape_right.ensures c.if-not-shape_right.false)

pub returns-in_err-area : goal.returns-in_err-area
returns-in_err-area c =
    let x = c.args in
    let e = c.in_err-area.field-0.0 in
    let gives : c.from_residual.result ≡ Err e = search rules in
    rw gives
    (declare_not (record_with x.memory x.areas.now) x.request (tables x.marks.now x.words.now x.bitmap.now x.owners.now) (omega (arith, c.if-areas-ne-AREA_NUMBERS.false)) c.shape_right.ensures c.if-not-shape_right.false (number_of e) c.in_err-area.ensures)

pub clear_words-requires : goal.clear_words-requires
clear_words-requires c =
    let x = c.args in
    words_inside (record_with x.memory x.areas.now) x.request (tables x.marks.now x.words.now x.bitmap.now x.owners.now) (omega (arith, c.if-areas-ne-AREA_NUMBERS.false)) c.shape_right.ensures c.if-not-shape_right.false

pub with_area-requires : goal.with_area-requires
with_area-requires c =
    let x = c.args in
    declare_few (record_with x.memory x.areas.now) x.request (tables x.marks.now x.words.now x.bitmap.now x.owners.now) (omega (arith, c.if-areas-ne-AREA_NUMBERS.false)) c.shape_right.ensures c.if-not-shape_right.false c.in_ok-area.area c.in_ok-area.ensures

pub returns : goal.returns
returns c =
    let x = c.args in
    declare_made (record_with x.memory x.areas.now) x.request (tables x.marks.now x.words.now x.bitmap.now x.owners.now) (omega (arith, c.if-areas-ne-AREA_NUMBERS.false)) c.shape_right.ensures c.if-not-shape_right.false c.in_ok-area.ensures c.clear_words.ensures c.with_area.ensures
