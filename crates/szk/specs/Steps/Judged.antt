-- What is judged of the lists lent before a call is made.
use Rattle.std.specs.Prelude.{ℕ, ◌≡◌, Bool, ◌||◌, List, if◌then◌else◌}
use Rattle.answer.specs.Answers.{refused}
use Rattle.szk.specs.Layout.{record_length, answer_length, answer_numbers, over}
use Rattle.szk.specs.Exported.{is_short, told_short}

-- whether they are too short for it, and the answer then
pub record Judged (numbers answer : List ℕ) (short : Bool) (after : List ℕ) : Type 0 where
  pub verdict : short ≡ (is_short answer answer_length || is_short numbers record_length)
  pub left : after ≡
      (if is_short answer answer_length then told_short answer
      else if is_short numbers record_length then over (answer_numbers (refused 1)) answer
      else answer)
