-- `frames::marks::Granted::is_met` meets its contract: a grant's frames have of a kind's upper bits the highest alone. Assumes nothing.
use Rattle.frames.proofs.Stuck.{granted_seen}
use Rattle.frames.proofs.marks.GrantedMarkTest.is_met.Goals as goal

pub returns : goal.returns
returns c = granted_seen c.args.mark
