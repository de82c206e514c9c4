-- The path ends within its buffer.
use Rattle.std.proofs.Common.{arith}
use Rattle.text.proofs.Within.{writer_within}
use Rattle.cases.proofs.load_part.Goals as goal

pub slice_bounds-load-end : goal.slice_bounds-load-end
slice_bounds-load-end g c = writer_within c.put_bytes-2.ensures (writer_within c.put_bytes.ensures (omega arith))
