-- `frames::scans::is_block_hinted` meets its contract: each turn asks one mark more. Assumes nothing.
use Rattle.frames.proofs.ScanFacts.{ask_start, ask_turn}
use Rattle.frames.proofs.scans.is_block_hinted.Goals as goal

pub loop-j-init : goal.loop-j-init
loop-j-init g c = ask_start

pub loop-j-preserved : goal.loop-j-preserved
loop-j-preserved g c = ask_turn c.loop-j.invariant c.is_hinted-hit.ensures
