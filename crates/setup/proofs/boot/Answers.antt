-- `setup::boot` meets its contract: the numbers, the record and the lengths, then the text; all four tables are filled with 0, and the areas' numbers
-- are the new record's. Assumes nothing.
use Rattle.std.proofs.Common.{rules, ◌≡◌, Err, refl}
use Rattle.setup.proofs.Starts.{boot_wrong, boot_refused, boot_done}
use Rattle.frames.specs.Lent.{tables_in}
use Rattle.rules.specs.Does.{record_with}
use Rattle.setup.proofs.boot.Goals as goal

pub returns-then-not-is_bootable : goal.returns-then-not-is_bootable
returns-then-not-is_bootable c =
    let x = c.args in
    λ memory.
    rw c.from.ensures
    ((refl, refl, refl, refl), boot_wrong (record_with memory x.areas.now) x.base.0 x.frames x.block_order x.text.now (tables_in x.tables.now) (rw c.read.ensures at c.is_bootable.ensures) c.if-not-is_bootable.true)

pub returns-in_err-memory : goal.returns-in_err-memory
returns-in_err-memory c =
    let x = c.args in
    let e = c.in_err-memory.field-0.0 in
    let gives : c.from_residual.result ≡ Err e = search rules in
    λ memory.
    rw gives
    ((refl, refl, refl, refl), boot_refused (record_with memory x.areas.now) x.base.0 x.frames x.block_order x.text.now (tables_in x.tables.now) (rw c.read.ensures at c.is_bootable.ensures) c.if-not-is_bootable.false _ e c.in_err-memory.ensures)

pub returns : goal.returns
returns c =
    let x = c.args in
    λ memory. (
      (refl, refl, refl, refl),
      rw (c.copy_from_slice.ensures.after, c.fill.ensures.after (λ y h. h), c.fill-2.ensures.after (λ y h. h), c.fill-3.ensures.after (λ y h. h), c.fill-4.ensures.after (λ y h. h))
          (boot_done (record_with memory x.areas.now) x.base.0 x.frames x.block_order x.text.now (tables_in x.tables.now) (rw c.read.ensures at c.is_bootable.ensures) c.if-not-is_bootable.false _ c.in_ok-memory.memory c.in_ok-memory.ensures),
    )
