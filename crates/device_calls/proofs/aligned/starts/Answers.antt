-- `device_calls::aligned::starts` meets its contract: a word of every 2^order-th bit, shifted to the first's place among them. Assumes nothing.
use Rattle.device_calls.proofs.Starts.{starts_known}
use Rattle.device_calls.proofs.aligned.starts.Goals as goal

pub returns : goal.returns
returns c =
    let x = c.args in
    rw c.block_of.ensures (starts_known x.first.0 x.order c.spread.result c.spread.ensures)
