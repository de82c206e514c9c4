-- `playback::calls::answer` meets its contract: by the lengths of the tables. Assumes nothing.
use Prim.Native.Nat.{◌-◌}
use native.Mathlib.Omega.{arith}
use mathlib.Core.Path.{◌≡◌, refl, sym}
use Rattle.answer.specs.Answers.{answer_at}
use Rattle.frames.specs.Lent.{tables_in}
use Rattle.rules.specs.declared.Record.{Record}
use Rattle.rules.specs.Does.{record_with}
use Rattle.rules.specs.Outcomes.{refuse}
use Rattle.playback.specs.Playback.{answer_to}
use Rattle.machine.proofs.Counted.{shape_uncounted}
use Rattle.playback.proofs.Lending.{few_marks, few_words, few_owners, answered}
use Rattle.playback.proofs.calls.answer.Goals.{then-tables-frames-via-then-tables-frames, then-tables-frames-via-else-tables-frames+then-tables-frames-2, then-tables-frames-via-else-tables-frames+else-tables-frames-2+then-tables-frames-3}
use Rattle.playback.proofs.calls.answer.Goals as goal

pub returns-then-tables-frames : goal.returns-then-tables-frames
returns-then-tables-frames c =
    let m : Record = record_with c.args.machine.memory c.args.areas.now in
    let frames = c.frames_for-frames.ensures in
    let few : answer_to c.args.call m (tables_in c.args.tables.now) ≡ refuse m (tables_in c.args.tables.now) 1 = elim c.then-tables-frames.branch [
      | then-tables-frames-via-then-tables-frames w ↦ few_marks c.args.call m (tables_in c.args.tables.now) (omega (arith, w.if-tables-frames.true))
      | then-tables-frames-via-else-tables-frames+then-tables-frames-2 w ↦ few_words c.args.call m (tables_in c.args.tables.now) (omega (arith, w.if-tables-frames-2.true))
      | then-tables-frames-via-else-tables-frames+else-tables-frames-2+then-tables-frames-3 w ↦ few_owners c.args.call m (tables_in c.args.tables.now) (omega (arith, w.if-tables-frames-3.true))
    ] in
    rw c.from.ensures (((refl, refl, refl, refl), sym few), sym (shape_uncounted c.args.call c.args.machine.counters))

pub returns : goal.returns
returns c =
    let made = c.perform_on in
    let frames = c.frames_for-frames in
    let same = frames.ensures in (
      (
        (refl, refl, refl, refl),
        answered c.args.call (record_with c.args.machine.memory c.args.areas.now) (tables_in c.args.tables.now) (frames.result - 0)
            (record_with made.result.machine.memory made.new.areas) (answer_at made.result.answer) made.new.marks made.new.words made.new.bitmap made.new.owners
            (omega arith) (omega (arith, c.if-tables-frames.false)) (omega (arith, c.if-tables-frames-2.false)) (omega (arith, c.if-tables-frames-3.false)) made.ensures.performed,
      ),
      made.ensures.counted,
    )
