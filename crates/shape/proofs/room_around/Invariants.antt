-- `shape::room_around` meets its contract: the loop's room holds the area, and is free of each area below k; so the area is apart from all of them
-- where it comes to the end. Assumes nothing.
use mathlib.Core.Path.{◌≡◌}
use mathlib.Core.Bool.{true}
use Rattle.shape.specs.Steps.Rooms.{lies_in, IsFree}
use Rattle.shape.proofs.room_around.Given as goal

abbrev pub invariant-loop-k : goal.invariant-loop-k
invariant-loop-k l = IsFree l.areas l.k l.room × (lies_in l.a l.room ≡ true)
