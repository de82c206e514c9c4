-- Document 01, "Regions text": bytes. Past the end a text reads as 0, which no part of a text can be.
use Rattle.std.specs.Prelude.{ℕ, ◌-◌, ◌^◌, Bool, ◌&&◌, ◌||◌, List, leb, eqb, get_or, if◌then◌else◌}

abbrev pub byte_at : List ℕ → ℕ → ℕ
byte_at s i = get_or s i 0

abbrev pub is_between : ℕ → ℕ → ℕ → Bool
is_between low high c = leb low c && leb c high

-- the value of a digit, of any base up to 16: 0 to 9, a to f, A to F; 16 for any other byte
unfoldable pub digit_of : ℕ → ℕ
digit_of c =
    if is_between 48 57 c then c - 48 else
    if is_between 97 102 c then c - 87 else
    if is_between 65 70 c then c - 55 else 16

-- what K, M and G multiply by, in either case; 1 for any other byte
unfoldable pub unit_of : ℕ → ℕ
unit_of c =
    if eqb c 75 || eqb c 107 then 2 ^ 10 else
    if eqb c 77 || eqb c 109 then 2 ^ 20 else
    if eqb c 71 || eqb c 103 then 2 ^ 30 else 1

-- letters, digits, - and _
unfoldable pub is_name_byte : ℕ → Bool
is_name_byte c = is_between 97 122 c || is_between 65 90 c || is_between 48 57 c || eqb c 45 || eqb c 95
