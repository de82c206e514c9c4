-- Document 01, "Regions text": amounts, numbers that are judged where they stand.
use Rattle.std.specs.Prelude.{ℕ, ◌^◌, Bool, ◌||◌, List, ltb, eqb}
use Rattle.search.specs.Search.{some}
use Rattle.text.specs.Numbers.{number, most_bytes}
use Rattle.text.specs.Reading.{Read, gives, ◌then◌, refuse_if}

unfoldable pub is_power_of_two : ℕ → Bool
is_power_of_two x = some (λ k. eqb x (2 ^ k)) 0 64

abbrev pub is_alignment : ℕ → Bool
is_alignment x = eqb x 0 || is_power_of_two x

-- a number that is judged where it stands: above 2^48, or wrong for its use
unfoldable pub amount : (ℕ → Bool) → List ℕ → ℕ → Read ℕ
amount wrong s at = number s at then λ v next. refuse_if (ltb most_bytes v || wrong v) 21 at (gives v next)
