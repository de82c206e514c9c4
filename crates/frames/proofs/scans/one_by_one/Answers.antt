-- `frames::scans::one_by_one` meets its contract: what is left to search is the range from `i` on. Assumes nothing.
use native.Mathlib.Omega.{arith}
use mathlib.Core.Path.{sym, ◌∙◌}
use Rattle.frames.proofs.ScanFacts.{seek_turn, seek_some, seek_none}
use Rattle.frames.proofs.scans.one_by_one.Goals as goal

pub returns-then-is_met : goal.returns-then-is_met
returns-then-is_met g c = seek_some c.loop-i.invariant (omega arith) (sym c.is_met.ensures ∙ c.if-is_met.true)

pub loop-i-preserved : goal.loop-i-preserved
loop-i-preserved g c = seek_turn c.loop-i.invariant (omega arith) (sym c.is_met.ensures ∙ c.if-is_met.false)

pub returns : goal.returns
returns g c = seek_none c.loop-i.invariant (omega arith)
