-- The heading and the records' lines end within the buffer.
use Rattle.std.proofs.Common.{arith}
use Rattle.playback.proofs.Ran.{ran}
use Rattle.text.proofs.Within.{writer_within}
use Rattle.cases.proofs.play.Goals as goal

pub put_last-requires : goal.put_last-requires
put_last-requires c =
    let headed = writer_within c.put_heading.ensures c.requires in
    let went = ran _ _ c.answer_records-stopped.ensures.answered (omega arith) (omega arith) in
    went.text
