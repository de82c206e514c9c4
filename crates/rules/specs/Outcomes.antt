-- Document 01, "Numbers the clerk sees": what a call leaves, and its checks in the order written.
use Rattle.std.specs.Prelude.{◌≡◌, ℕ, Bool, true, false, List, [], ◌∷◌, if◌then◌else◌}
use Rattle.answer.specs.declared.Answer.{Answer}
use Rattle.answer.specs.Answers.{refused}
use Rattle.frames.specs.Tables.{Tables}
use Rattle.rules.specs.declared.Record.{Record}

-- the record that a call hands back, its answer, and the tables as it leaves them
pub record Outcome : Type 0 where
  pub machine : Record
  pub answer : Answer
  pub left : Tables

abbrev pub outcome : Record → Answer → Tables → Outcome
outcome m a t = record { machine = m; answer = a; left = t }

-- a check of a call: where it holds, the call is refused with that number
pub record Check : Type 0 where
  pub holds : Bool
  pub number : ℕ

infix 70 ◌⇒◌
abbrev pub ◌⇒◌ : Bool → ℕ → Check
holds ⇒ number = record { holds = holds; number = number }

-- a refusal changes no table and no record
abbrev pub refuse : Record → Tables → ℕ → Outcome
refuse m t number = outcome m (refused number) t

-- the first check that holds refuses the call; it is done where none holds
unfoldable pub checked : Record → Tables → List Check → Outcome → Outcome
checked m t [] o = o
checked m t (c ∷ cs) o = if c.holds then refuse m t c.number else checked m t cs o

-- the first check of the list that holds has the number n
pub data First : List Check → ℕ → Type 0 where
  here : {c : Check} {cs : List Check} → c.holds ≡ true → First (c ∷ cs) c.number
  there : {c : Check} {cs : List Check} {n : ℕ} → c.holds ≡ false → First cs n → First (c ∷ cs) n

-- no check of the list holds
abbrev pub Passed : List Check → Type 0
Passed [] = Unit {0}
Passed (c ∷ cs) = (c.holds ≡ false) × Passed cs
