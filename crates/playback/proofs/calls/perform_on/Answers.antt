-- `playback::calls::perform_on` meets its contract: there are no bytes beside the call. Assumes nothing.
use Rattle.std.proofs.Common.{rules, arith}
use mathlib.Core.Path.{◌∙◌}
use Rattle.frames.specs.Tables.{tables}
use Rattle.rules.specs.Does.{record_with}
use Rattle.playback.proofs.Lending.{bare}
use Rattle.playback.proofs.calls.perform_on.Goals as goal

pub returns-clause-performed : goal.returns-clause-performed
returns-clause-performed c =
    let made = c.perform.ensures.does_with_all.0.1 ∙ bare c.args.call (record_with c.args.machine.memory c.args.areas.now) (tables c.args.marks.now c.args.words.now c.args.bitmap.now c.args.owners.now) (omega (arith, c.well_formed)) in
    search rules
