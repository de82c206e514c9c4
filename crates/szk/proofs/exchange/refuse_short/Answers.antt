-- `szk::exchange::refuse_short` meets its contract: each return is one of the three cases. Assumes nothing.
use native.Mathlib.Omega.{arith}
use Rattle.szk.proofs.LentFacts.{no_room, short_record, long_enough}
use Rattle.szk.proofs.exchange.refuse_short.Goals as goal

pub returns-then-answer-lt-ANSWER : goal.returns-then-answer-lt-ANSWER
returns-then-answer-lt-ANSWER c = rw c.store_refusal.ensures (no_room _ _ c.if-answer-lt-ANSWER.true)

pub returns-then-numbers-lt-RECORD : goal.returns-then-numbers-lt-RECORD
returns-then-numbers-lt-RECORD c =
    let numbers = c.args.numbers.now in
    let answer = c.args.answer.now in
    let said = rw c.from.ensures at c.from-then-numbers-lt-RECORD.ensures in
    rw (c.store_answer.ensures, said) (short_record numbers answer (omega arith) (omega arith))

pub returns : goal.returns
returns c = long_enough _ _ c.if-answer-lt-ANSWER.false c.if-numbers-lt-RECORD.false
