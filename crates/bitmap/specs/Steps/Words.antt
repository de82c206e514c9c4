-- One word of a bitmap: what the word-by-word code does to it.
use Rattle.std.specs.Prelude.{ℕ, zero, suc, ◌/◌, ◌%◌, ◌^◌, Bool, true, false}
use Rattle.bitmap.specs.Bits.{set_in, clear_in}

-- the d bits from bit s on, as a number
abbrev pub bits_of : ℕ → ℕ → ℕ → ℕ
bits_of w s d = w / 2 ^ s % 2 ^ d

-- the d bits from bit s on changed by f, which is set_in or clear_in
unfoldable pub change_in : (ℕ → ℕ → ℕ) → ℕ → ℕ → ℕ → ℕ
change_in f w s zero = w
change_in f w s (suc d) = change_in f (f w s) (suc s) d

-- a bit set, or clear, as told
abbrev pub put_in : Bool → ℕ → ℕ → ℕ
put_in true = set_in
put_in false = clear_in
