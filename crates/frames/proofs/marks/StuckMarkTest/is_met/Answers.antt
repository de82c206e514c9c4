-- `frames::marks::Stuck::is_met` meets its contract: by the upper two of a kind's bits. Assumes nothing.
use Rattle.frames.proofs.Stuck.{stuck_seen}
use Rattle.frames.proofs.marks.StuckMarkTest.is_met.Goals as goal

pub returns : goal.returns
returns c = stuck_seen c.args.mark
