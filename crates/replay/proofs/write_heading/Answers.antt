-- The heading ends within the buffer.
use Rattle.std.proofs.Common.{arith}
use Rattle.text.proofs.Within.{writer_within}
use Rattle.replay.proofs.write_heading.Goals as goal

pub write_text-requires : goal.write_text-requires
write_text-requires g c = writer_within c.put_heading.ensures (omega arith)
