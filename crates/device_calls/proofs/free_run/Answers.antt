-- `device_calls::free_run` meets its contract: its frames and bits are the definition's. Assumes nothing.
use native.Mathlib.Omega.{arith}
use mathlib.Core.Path.{ap, ◌∙◌}
use Rattle.frames.specs.declared.Area.{Area}
use Rattle.frames.specs.Areas.{bit_of_frame, bits_for}
use Rattle.frames.specs.Lent.{tables_in}
use Rattle.frames.specs.Tables.{fill}
use Rattle.rules.specs.Does.{record_in}
use Rattle.device_calls.proofs.ReleaseOutcomes.{ranged, freed}
use Rattle.device_calls.proofs.free_run.Goals as goal

pub bitmap_start-start-requires : goal.bitmap_start-start-requires
bitmap_start-start-requires c =
    let r = c.args.release in
    (ranged (record_in c.args.lent) r.area r.frame r.count (tables_in c.args.tables.now) c.requires.shape c.requires.range).words_high

pub bit_of_frame-first-requires : goal.bit_of_frame-first-requires
bit_of_frame-first-requires c =
    let r = c.args.release in
    let has = ranged (record_in c.args.lent) r.area r.frame r.count (tables_in c.args.tables.now) c.requires.shape c.requires.range in
    let e = c.area_at-a.ensures in
    (rw e (omega (arith, has.order)), rw e has.in_area)

pub returns-clause-freed : goal.returns-clause-freed
returns-clause-freed c =
    let r = c.args.release in
    freed (record_in c.args.lent) r.area r.frame r.count (tables_in c.args.tables.now) c.place_of-page.ensures c.bitmap_start-start.ensures
    (c.bit_of_frame-first.ensures ∙ ap (λ (a : Area). bit_of_frame a r.frame) c.area_at-a.ensures) (c.bits_for-bits.ensures ∙ ap (λ (a : Area). bits_for a r.count) c.area_at-a.ensures)
    (c.fill.ensures ∙ ap (fill c.args.tables.now.marks.now c.place_of-page.result.0 r.count) c.mark.ensures) c.fill-2.ensures c.put_run.ensures c.fill-3.ensures
