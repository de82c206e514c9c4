-- `shape::areas_fit` meets its contract: the loop has found that each area below i fits, and keeps a room that is free of them.
-- Assumes nothing.
use mathlib.Core.Path.{◌≡◌}
use mathlib.Core.Bool.{true}
use Rattle.search.specs.Search.{every}
use Rattle.rules.specs.Shape.{area_fits}
use Rattle.rules.specs.Does.{record_in}
use Rattle.shape.specs.Steps.Rooms.{IsFree}
use Rattle.shape.proofs.areas_fit.Given as goal

abbrev pub invariant-loop-i : goal.invariant-loop-i
invariant-loop-i l = (every (area_fits (record_in l.lent)) 0 l.i ≡ true) × IsFree l.lent.areas.now l.i l.room
