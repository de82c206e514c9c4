-- `playback::answer_one` meets its contract: the line has room, and its step can be counted. Assumes nothing.
use native.Mathlib.Omega.{arith}
use lib.ListN.{length}
use Rattle.answer.specs.Answers.{answer_at}
use Rattle.frames.specs.Lent.{tables_in}
use Rattle.playback.specs.Steps.Going.{progress_with}
use Rattle.playback.proofs.Records.{step_left, one_answered}
use Rattle.playback.proofs.answer_one.Goals as goal

pub overflow_add-result-2 : goal.overflow_add-result-2
overflow_add-result-2 c =
    omega (arith, step_left (length c.args.out.now.buffer.now) c.args.out.now.length c.args.p.step c.requires.0)

pub returns-clause-answered : goal.returns-clause-answered
returns-clause-answered c =
    let made = c.answer-returned in
    let line = c.put_four.new.self in
    one_answered (progress_with c.args.p c.args.areas.now c.args.out.now.length) c.args.out.now.buffer.now (tables_in c.args.tables.now) c.args.call c.args.size
    made.result.machine (answer_at made.result.answer) made.new.areas (tables_in made.new.tables) line.buffer.now line.length
    c.requires.0 made.ensures.0.1 made.ensures.1 (rw c.from-told.ensures at c.put_four.ensures.appended)
