-- `setup::start::plan_text` meets its contract: the text's refusal, or its regions planned in turn. Assumes nothing.
use Rattle.std.proofs.Common.{rules, ◌≡◌, Err}
use Rattle.setup.proofs.Starts.{read_refused, read_given}
use lib.ListN.{length}
use Rattle.setup.proofs.start.plan_text.Goals as goal

pub returns-in_err-read_regions : goal.returns-in_err-read_regions
returns-in_err-read_regions c =
    let x = c.args in
    let e = c.in_err-read_regions.field-0.0 in
    let gives : c.from_residual.result ≡ Err e = search rules in
    rw gives (read_refused x.bare.base.0 x.bare.frames x.bare.block_order (length x.bitmap.now) c.requires.right x.text.now e x.areas.now c.in_err-read_regions.ensures)

pub returns : goal.returns
returns c =
    let x = c.args in
    read_given x.bare.base.0 x.bare.frames x.bare.block_order (length x.bitmap.now) c.requires.right x.text.now c.in_ok-read_regions.field-0 _ _ c.in_ok-read_regions.ensures c.requires.bare c.plan_regions.ensures
