-- `device_calls::moves::next_movable` meets its contract: what is left to search is the range from `i` on. Assumes nothing.
use native.Mathlib.Omega.{arith}
use mathlib.Core.Path.{◌≡◌, sym, ◌∙◌}
use Rattle.frames.proofs.ScanFacts.{seek_turn, seek_hit, seek_end}
use Rattle.device_calls.proofs.moves.next_movable.Goals as goal

pub returns-then-is_of : goal.returns-then-is_of
returns-then-is_of c = seek_hit c.loop-i.invariant c.loop-i-test.true (sym c.is_of.ensures ∙ c.if-is_of.true)

pub loop-i-preserved : goal.loop-i-preserved
loop-i-preserved c = seek_turn c.loop-i.invariant c.loop-i-test.true (sym c.is_of.ensures ∙ c.if-is_of.false)

pub returns : goal.returns
returns c =
    let at : c.loop-i.i ≡ c.args.end.0 = omega (arith, c.loop-i.auto.i-end c.requires.0) in
    sym at ∙ seek_end c.loop-i.invariant c.loop-i-test.false
