-- What the records of the block leave keeps to the bounds, with a turn less.
use Rattle.std.proofs.Common.{rules, arith}
use Rattle.playback.proofs.Ran.{ran}
use Rattle.replay.proofs.turn.Goals as goal

pub invariant_of-next : goal.invariant_of-next
invariant_of-next g c =
    let given = c.args.s in
    let went = ran _ _ c.answer_records-stopped.ensures.answered (search rules) (omega arith) in
    let kept = c.answer_records-stopped.auto in
    let taken = c.in_ok-left.ensures in
    record { inside = omega arith; most = omega arith; steps = omega arith; budget = omega arith }

pub after-requires : goal.after-requires
after-requires g c =
    let went = ran _ _ c.answer_records-stopped.ensures.answered (search rules) (omega arith) in
    let kept = c.answer_records-stopped.auto in
    omega arith
