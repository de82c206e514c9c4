-- How a text is read on, region by region: the contracts of the reader's functions.
use Rattle.std.specs.Prelude.{ℕ, Option, Some, None, Result, Ok, Err, List, leb, eqb, length, take, if◌then◌else◌}
use Rattle.answer.specs.Answers.{number_of}
use Rattle.answer.specs.declared.Refused.{Refused}
use Rattle.text.specs.Reading.{Read, gives, refuses, ◌then◌}
use Rattle.regions.specs.declared.Region.{Region}
use Rattle.regions.specs.declared.Regions.{Regions}
use Rattle.regions.specs.Text.{most_regions}
use Rattle.regions.specs.Steps.Parts.{next_region}

-- the regions that are held
abbrev pub held : Regions → List Region
held known = take known.count known.list

-- one region more, read from an offset, unless the text ends there or is refused
unfoldable pub one_more : List Region → List ℕ → ℕ → Read (Option Region)
one_more before s at =
    if eqb at (length s) then gives None at else
    if leb most_regions (length before) then refuses 23 at else
    next_region before s at then λ r next. gives (Some r) next

-- what was read, by a reader that stands at a place now
abbrev pub read_to : {A : Type 0} → Result A Refused → ℕ → Read A
read_to (Ok v) place = gives v place
read_to (Err r) place = refuses (number_of r.refusal) r.place
