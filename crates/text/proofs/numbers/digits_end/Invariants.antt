-- `text::numbers::digits_end` meets its contract: the search of the definition goes on from i. Assumes nothing.
use Rattle.text.specs.Bytes.{byte_at}
use Rattle.text.specs.Numbers.{is_digit, digits_end}
use Rattle.search.specs.Search.{lowest_from}
use lib.ListN.{length}
use mathlib.Core.Path.{◌≡◌}
use mathlib.Core.List.{List}
use mathlib.Core.Bool.{Bool, not}
use Prim.Native.Nat.{ℕ, ◌-◌, ◌≤◌, max}
use Rattle.text.proofs.numbers.digits_end.Given as goal

-- no digit of the base stands there
abbrev pub ends : List ℕ → ℕ → ℕ → Bool
ends text base i = not (is_digit base (byte_at text i))

abbrev pub invariant-loop-i : goal.invariant-loop-i
invariant-loop-i l =
    (digits_end l.base l.text l.at ≡ lowest_from (ends l.text l.base) l.i (length l.text - l.i)) × (l.i ≤ max l.at (length l.text))
