-- Laws of names. Assumes nothing.
--     ends, name_inside    where a name ends; it ends inside the text
use Prim.Native.Nat.{ℕ, ◌+◌, ◌-◌, ◌≤◌}
use native.Mathlib.Omega.{arith}
use mathlib.Core.Path.{◌≡◌, refl, ap, ◌∙◌}
use mathlib.Core.Bool.{Bool, true, false, not}
use mathlib.Core.List.{List}
use lib.ListN.{length, get_or-eq_default}
use Rattle.search.proofs.Bools.{below_or_not, clash}
use Rattle.search.proofs.Lowest.{lowest_least}
use Rattle.text.specs.Bytes.{byte_at, is_name_byte}
use Rattle.text.specs.Names.{longest_name, name_length}

-- no byte of a name stands i places after an offset
abbrev pub ends : List ℕ → ℕ → ℕ → Bool
ends s at i = not (is_name_byte (byte_at s (at + i)))

end_is_none : is_name_byte 0 ≡ false
unfolding is_name_byte
end_is_none = refl

ends_past : (s : List ℕ) (at i : ℕ) → length s ≤ at + i → ends s at i ≡ true
ends_past s at i h = ap not (ap is_name_byte (get_or-eq_default s 0 h) ∙ end_is_none)

pub name_inside : (s : List ℕ) (at : ℕ) → name_length s at ≤ length s - at
unfolding name_length
name_inside s at =
    below_or_not (length s - at) (name_length s at)
    (λ h.
    clash (ends s at (length s - at)) (ends_past s at (length s - at) (omega arith))
    ((lowest_least (ends s at) 0 longest_name).miss (length s - at) (omega arith) h))
    (λ h. h)
