-- The steps by which a region is read, in the terms of the rules: each is a part of a definition of `Amounts` or `Text`, and the contract
-- of the function that takes the step.
use Rattle.std.specs.Prelude.{ℕ, Bool, false, not, ◌&&◌, ◌||◌, List, ltb, eqb, length, if◌then◌else◌}
use Rattle.text.specs.Names.{name, same_bytes}
use Rattle.text.specs.Numbers.{most_bytes}
use Rattle.text.specs.Reading.{Read, gives, ◌then◌, refuse_if}
use Rattle.regions.specs.declared.amounts.Purpose.{Purpose}
use Rattle.regions.specs.declared.amounts.Purpose.TheVariants.{Size, Start, Alignment}
use Rattle.regions.specs.declared.Region.{Region}
use Rattle.regions.specs.Amounts.{is_alignment}
use Rattle.regions.specs.Text.{is_named, expect, region}

-- what a number of a use may not be
abbrev pub wrong_for : Purpose → ℕ → Bool
wrong_for Size = λ v. eqb v 0
wrong_for Start = λ v. false
wrong_for Alignment = λ v. not (is_alignment v)

-- a number that was read is judged where it stands
abbrev pub judged : (ℕ → Bool) → ℕ → ℕ → ℕ → Read ℕ
judged wrong at v next = refuse_if (ltb most_bytes v || wrong v) 21 at (gives v next)

-- a region has the name of n bytes at an offset
abbrev pub same_name : Region → List ℕ → ℕ → ℕ → Bool
same_name r s at n = eqb r.length n && same_bytes s at r.name n

-- a name that none of the regions before has, and the = after it: gives the name's length
unfoldable pub new_name : List Region → List ℕ → ℕ → Read ℕ
new_name before s at =
    name s at then λ n end.
    refuse_if (is_named before s at n) 22 at (expect 61 s end) then λ _ next.
    gives n next

-- the ; after a region, or the end of the text
unfoldable pub separated_from : Region → List ℕ → ℕ → Read Region
separated_from r s at = if eqb at (length s) then gives r at else expect 59 s at then λ _ next. gives r next

-- a region, and what must stand after it
unfoldable pub next_region : List Region → List ℕ → ℕ → Read Region
next_region before s at = region before s at then λ r next. separated_from r s next
