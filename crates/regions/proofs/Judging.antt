-- Laws of numbers that are judged where they stand. Assumes nothing.
--     judged_much, amount_refused, amount_given    a number is judged as it is held
use Prim.Native.Nat.{ℕ, ◌+◌, ◌<◌}
use native.Mathlib.Omega.{arith}
use mathlib.Core.Path.{◌≡◌, sym, ◌∙◌}
use mathlib.Core.List.{List}
use mathlib.Core.Bool.{Bool}
use borrow.Author.Tests.{lt-ltb}
use Rattle.search.proofs.Bools.{below_or_not}
use Rattle.text.specs.Numbers.{number, most_bytes, cap, capped}
use Rattle.text.specs.Reading.{Read, gives, refuses, ◌then◌}
use Rattle.text.proofs.Capping.{cap_low, cap_high}
use Rattle.regions.specs.Amounts.{amount}
use Rattle.regions.specs.Steps.Parts.{judged}

module _ (wrong : ℕ → Bool) (at : ℕ) where
  pub judged_much : (v next : ℕ) → most_bytes < v → judged wrong at v next ≡ refuses 21 at
  judged_much v next h = rw (lt-ltb most_bytes v h)

  -- a number is judged the same as it is held
  judged_held : (v next : ℕ) → judged wrong at (cap v) next ≡ judged wrong at v next
  judged_held v next =
      below_or_not most_bytes v
      (λ h. rw (cap_high v h) (judged_much (most_bytes + 1) next (omega arith) ∙ sym (judged_much v next h)))
      (λ h. rw (cap_low v h))

  judge : Read ℕ → Read ℕ
  judge r = r then λ v next. judged wrong at v next

  judge_refused : (r : Read ℕ) (number place : ℕ) → capped r ≡ refuses number place → judge r ≡ refuses number place
  unfolding judge
  judge_refused (gives v next) number place e = absurd (let z : ◌≡◌ {A = ℕ} 0 1 = cc in omega arith)
  judge_refused (refuses a b) number place e = e

  judge_given : (r : Read ℕ) (v next : ℕ) → capped r ≡ gives v next → judge r ≡ judged wrong at v next
  unfolding judge
  judge_given (gives w after) v next e =
      let value : cap w ≡ v = cc in
      let same : after ≡ next = cc in
      rw (← value, ← same) (sym (judged_held w after))
  judge_given (refuses a b) v next e = absurd (let z : ◌≡◌ {A = ℕ} 0 1 = cc in omega arith)

  pub amount_refused : (s : List ℕ) (number' place : ℕ) → capped (number s at) ≡ refuses number' place → amount wrong s at ≡ refuses number' place
  unfolding amount judge
  amount_refused s number' place e = judge_refused (number s at) number' place e

  pub amount_given : (s : List ℕ) (v next : ℕ) → capped (number s at) ≡ gives v next → amount wrong s at ≡ judged wrong at v next
  unfolding amount judge
  amount_given s v next e = judge_given (number s at) v next e
