-- What the code hands back for a whole text.
use Rattle.std.specs.Prelude.{ℕ, List, Result, Ok, Err}
use Rattle.answer.specs.Answers.{number_of}
use Rattle.answer.specs.declared.Refused.{Refused}
use Rattle.text.specs.Reading.{Read, gives, refuses}
use Rattle.regions.specs.declared.Region.{Region}
use Rattle.regions.specs.declared.Regions.{Regions}

-- how many regions and the list that holds them, or a refusal's number and place
abbrev pub regions_in : Result Regions Refused → Read (ℕ × List Region)
regions_in (Ok r) = gives (r.count, r.list) 0
regions_in (Err r) = refuses (number_of r.refusal) r.place
