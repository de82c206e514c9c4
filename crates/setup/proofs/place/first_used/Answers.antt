-- `setup::place::first_used` meets its contract: what is left to search is the range from `i` on. Assumes nothing.
use Rattle.setup.proofs.Taken.{used_here, used_none}
use Rattle.frames.proofs.ScanFacts.{seek_turn}
use mathlib.Core.Bool.{not}
use mathlib.Core.Path.{ap, sym, ◌∙◌}
use native.Mathlib.Omega.{arith}
use Rattle.setup.proofs.place.first_used.Goals as goal

pub returns-then-not-is_of : goal.returns-then-not-is_of
returns-then-not-is_of c = used_here c.args.marks.now c.loop-i.invariant (omega (arith, c.min-i-end.ensures)) (ap not (sym c.is_of.ensures ∙ c.if-not-is_of.true))

pub loop-i-preserved : goal.loop-i-preserved
loop-i-preserved c = seek_turn c.loop-i.invariant (omega (arith, c.min-i-end.ensures)) (ap not (sym c.is_of.ensures ∙ c.if-not-is_of.false))

pub returns : goal.returns
returns c = used_none c.args.marks.now c.loop-i.invariant (omega (arith, c.min-i-end.ensures))
