-- `device_calls::moves::move_out` meets its contract: at the loop's head the pages from `at` on are still to move, and the search for targets can
-- go on. Assumes nothing.
use Prim.Native.Nat.{◌-◌}
use mathlib.Core.List.{[]}
use Rattle.frames.specs.Tables.{tables}
use Rattle.rules.specs.Does.{record_in}
use Rattle.device_calls.proofs.MoveFacts.{Moving}
use Rattle.device_calls.proofs.moves.move_out.Given as goal

abbrev pub invariant-loop-at : goal.invariant-loop-at
invariant-loop-at l =
    Moving (record_in l.lent) l.area l.areas.order (tables l.initial.marks l.initial.words [] []) l.initial.at.0 l.end.0 (tables l.marks l.words [] []) l.at.0 l.seeking

abbrev pub decreases-loop-at : goal.decreases-loop-at
decreases-loop-at l = l.end.0 - l.at.0
