-- `text::numbers::digits_value` meets its contract: the value held after the digits up to i, which those from i on continue.
-- Assumes nothing.
use Rattle.text.specs.Numbers.{cap, digits_value, most_bytes}
use mathlib.Core.Path.{◌≡◌}
use Prim.Native.Nat.{◌+◌, ◌-◌, ◌≤◌}
use Rattle.text.proofs.numbers.digits_value.Given as goal

abbrev pub invariant-loop-i : goal.invariant-loop-i
invariant-loop-i l = (l.v ≤ most_bytes + 1) × (cap (digits_value l.base l.text l.at (l.end - l.at) 0) ≡ cap (digits_value l.base l.text l.i (l.end - l.i) l.v))
