-- `frames::fills::fill` meets its contract: what is left to fill falls by one place a turn. Assumes nothing.
use Rattle.frames.proofs.FillFacts.{Filling}
use Rattle.frames.proofs.fills.fill.Given as goal

abbrev pub invariant-loop-i : goal.invariant-loop-i
invariant-loop-i g l = Filling l.initial.table l.initial.i l.count l.value l.table l.i
