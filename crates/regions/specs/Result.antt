-- What a text gives, as a caller is handed it.
use Rattle.std.specs.Prelude.{ℕ, ◌-◌, List, ◌++◌, length, replicate}
use Rattle.text.specs.Reading.{Read, gives, refuses}
use Rattle.regions.specs.declared.Region.{Region}
use Rattle.regions.specs.Text.{most_regions}

abbrev pub no_region : Region
no_region = record { name = 0; length = 0; size = 0; start = 0; alignment = 0 }

-- the entries that no region has are zero
abbrev pub padded : List Region → List Region
padded rs = rs ++ replicate (most_regions - length rs) no_region

-- how many regions there are and the list that holds them, or a refusal's number and place
abbrev pub result_of : Read (List Region) → Read (ℕ × List Region)
result_of (gives rs _) = gives (length rs, padded rs) 0
result_of (refuses number at) = refuses number at

-- how many regions a text gives: none where it is refused
abbrev pub regions_given : Read (List Region) → ℕ
regions_given (gives rs _) = length rs
regions_given (refuses _ _) = 0
