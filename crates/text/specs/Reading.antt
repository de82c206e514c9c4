-- Reading a text from left to right: what a part of it gives, and the parts one after the other.
use Rattle.std.specs.Prelude.{ℕ, Bool, Result, Ok, Err, if◌then◌else◌}
use Rattle.answer.specs.Answers.{number_of}
use Rattle.answer.specs.declared.Refused.{Refused}

-- a value and the offset after it, or a refusal's number and its place
pub data Read (A : Type 0) : Type 0 where
  gives : A → ℕ → Read A
  refuses : ℕ → ℕ → Read A

-- the next part reads on where this one ended; a refusal ends it all
infixl 6 ◌then◌
abbrev pub ◌then◌ : {A B : Type 0} → Read A → (A → ℕ → Read B) → Read B
gives v at then next = next v at
refuses number at then next = refuses number at

-- what was read is refused at a place where the test holds
abbrev pub refuse_if : {A : Type 0} → Bool → ℕ → ℕ → Read A → Read A
refuse_if test number at r = if test then refuses number at else r

-- what the code hands back for a part
abbrev pub scanned : {A : Type 0} → Result (A × ℕ) Refused → Read A
scanned (Ok p) = gives p.0 p.1
scanned (Err r) = refuses (number_of r.refusal) r.place
