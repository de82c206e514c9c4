-- What the code's checks of a call come to.
use Rattle.std.specs.Prelude.{List, Result, Ok, Err}
use Rattle.answer.specs.declared.refusal.Refusal.{Refusal}
use Rattle.answer.specs.Answers.{number_of}
use Rattle.rules.specs.Outcomes.{Check, First, Passed}

-- no check holds; or the first that holds has the refusal's number
abbrev pub Decides : {A : Type 0} → List Check → Result A Refusal → Type 0
Decides cs (Ok _) = Passed cs
Decides cs (Err r) = First cs (number_of r)
