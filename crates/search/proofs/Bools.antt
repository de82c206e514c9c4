-- Tests and their two values. Assumes nothing.
--     by_cases      what holds at either value of a test, with the equation in hand
--     below_or_not  the same of two numbers: a < b or b ≤ a
--     clash         a test that has both values proves anything
--     and-, or-, not-    `a && b` is true just where both are; `a || b` is false just where neither is; `not` turns a value round
use Prim.Native.Nat.{ℕ, ◌≤◌, ◌<◌}
use lib.Dec.{ltb}
use borrow.Author.Tests.{ltb-true, ltb-false}
use mathlib.Core.Path.{◌≡◌, refl, sym, ◌∙◌}
use mathlib.Core.Bool.{Bool, true, false, not, ◌&&◌, ◌||◌, true≢false}

pub by_cases {ℓ} : {P : Type ℓ} (b : Bool) → (b ≡ true → P) → (b ≡ false → P) → P
by_cases true yes_case no_case = yes_case refl
by_cases false yes_case no_case = no_case refl

pub below_or_not {ℓ} : {P : Type ℓ} (a b : ℕ) → (a < b → P) → (b ≤ a → P) → P
below_or_not a b below not_below = by_cases (ltb a b) (λ e. below (ltb-true a b e)) (λ e. not_below (ltb-false a b e))

pub clash {ℓ} : {P : Type ℓ} (b : Bool) → b ≡ true → b ≡ false → P
clash b t f = absurd (true≢false (sym t ∙ f))

pub and_left : (a b : Bool) → (a && b) ≡ true → a ≡ true
and_left true b e = refl
and_left false b e = e

pub and_right : (a b : Bool) → (a && b) ≡ true → b ≡ true
and_right true b e = e
and_right false b e = absurd (true≢false (sym e))

pub and_both : (a b : Bool) → a ≡ true → b ≡ true → (a && b) ≡ true
and_both a b p q = rw (p, q)

pub and_false_right : (a : Bool) → (a && false) ≡ false
and_false_right true = refl
and_false_right false = refl

-- a part that fails fails the whole
pub and_left_false : (a b : Bool) → a ≡ false → (a && b) ≡ false
and_left_false a b e = rw e

pub and_right_false : (a b : Bool) → b ≡ false → (a && b) ≡ false
and_right_false a b e = rw e (and_false_right a)

pub or_left : (a b : Bool) → (a || b) ≡ false → a ≡ false
or_left true b e = e
or_left false b e = refl

pub or_right : (a b : Bool) → (a || b) ≡ false → b ≡ false
or_right true b e = absurd (true≢false e)
or_right false b e = e

pub or_neither : (a b : Bool) → a ≡ false → b ≡ false → (a || b) ≡ false
or_neither a b p q = rw (p, q)

pub or_true_right : (a : Bool) → (a || true) ≡ true
or_true_right true = refl
or_true_right false = refl

-- a part that passes is enough
pub or_left_true : (a b : Bool) → a ≡ true → (a || b) ≡ true
or_left_true a b e = rw e

pub or_right_true : (a b : Bool) → b ≡ true → (a || b) ≡ true
or_right_true a b e = rw e (or_true_right a)

pub not_flips : (a : Bool) {b : Bool} → not a ≡ b → a ≡ not b
not_flips true e = rw (← e) refl
not_flips false e = rw (← e) refl

pub not_not : (a : Bool) → not (not a) ≡ a
not_not true = refl
not_not false = refl
