-- Document 01, "Regions text": numbers, and how a number that is above every byte amount is held.
use Rattle.std.specs.Prelude.{ℕ, zero, suc, ◌+◌, ◌-◌, ◌*◌, ◌^◌, Bool, not, ◌&&◌, List, ltb, eqb, length, if◌then◌else◌}
use Rattle.search.specs.Search.{lowest_from}
use Rattle.text.specs.Bytes.{byte_at, digit_of, unit_of}
use Rattle.text.specs.Reading.{Read, gives, refuses, refuse_if}

abbrev pub is_digit : ℕ → ℕ → Bool
is_digit base c = ltb (digit_of c) base

-- the first offset from `at` on that has no digit of the base
unfoldable pub digits_end : ℕ → List ℕ → ℕ → ℕ
digits_end base s at = lowest_from (λ i. not (is_digit base (byte_at s i))) at (length s - at)

-- the value of the n digits from `at` on, after digits of value v
unfoldable pub digits_value : ℕ → List ℕ → ℕ → ℕ → ℕ → ℕ
digits_value base s at zero v = v
digits_value base s at (suc n) v = digits_value base s (suc at) n (v * base + digit_of (byte_at s at))

abbrev pub after_unit : List ℕ → ℕ → ℕ
after_unit s at = if eqb (unit_of (byte_at s at)) 1 then at else at + 1

-- digits of a base, and at most one unit after them
unfoldable pub digits : ℕ → List ℕ → ℕ → Read ℕ
digits base s at =
    let end = digits_end base s at in
    gives (digits_value base s at (end - at) 0 * unit_of (byte_at s end)) (after_unit s end)

abbrev pub is_hex : List ℕ → ℕ → Bool
is_hex s at = eqb (byte_at s at) 48 && eqb (byte_at s (at + 1)) 120

-- a number: 0x and one or more hex digits; 0 and octal digits; or decimal digits
unfoldable pub number : List ℕ → ℕ → Read ℕ
number s at =
    if is_hex s at then refuse_if (not (is_digit 16 (byte_at s (at + 2)))) 20 (at + 2) (digits 16 s (at + 2)) else
    if eqb (byte_at s at) 48 then digits 8 s (at + 1) else
    refuse_if (not (is_digit 10 (byte_at s at))) 20 at (digits 10 s at)

-- byte amounts are 0 to 2^48
abbrev pub most_bytes : ℕ
most_bytes = 2 ^ 48

-- a number as the code holds it: 2^48 + 1 for any that is above 2^48
unfoldable pub cap : ℕ → ℕ
cap v = if ltb most_bytes v then most_bytes + 1 else v

abbrev pub capped : Read ℕ → Read ℕ
capped (gives v next) = gives (cap v) next
capped (refuses number at) = refuses number at
