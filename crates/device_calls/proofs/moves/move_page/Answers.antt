-- `device_calls::moves::move_page` meets its contract. Assumes nothing.
use mathlib.Core.List.{[]}
use Rattle.frames.specs.Tables.{tables}
use Rattle.device_calls.proofs.MoveFacts.{moved_by}
use Rattle.device_calls.proofs.moves.move_page.Goals as goal

pub returns : goal.returns
returns c = let x = c.args in rw c.mark.ensures (moved_by (tables x.marks.now x.words.now [] []) x.page x.to c.fill.ensures c.fill-2.ensures)
