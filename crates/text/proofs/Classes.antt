-- Laws of bytes and their classes. Assumes nothing.
--     digit_most              a digit's value is at most 16
--     unit_some, unit_inside  a unit is at least 1, and is 1 past the end of the text
use Prim.Native.Nat.{ℕ, ◌≤◌, ◌<◌}
use native.Mathlib.Omega.{arith}
use mathlib.Core.Path.{◌≡◌, refl, ap, ◌∙◌}
use mathlib.Core.Bool.{true, ◌||◌}
use mathlib.Core.List.{List}
use lib.Dec.{leb, eqb}
use lib.ListN.{length, get_or-eq_default}
use borrow.Author.Tests.{leb-true}
use Rattle.search.proofs.Bools.{by_cases, below_or_not, and_right}
use Rattle.text.specs.Bytes.{byte_at, is_between, digit_of, unit_of}

at_most : (low top c : ℕ) → is_between low top c ≡ true → c ≤ top
at_most low top c e = leb-true c top (and_right (leb low c) (leb c top) e)

pub digit_most : (c : ℕ) → digit_of c ≤ 16
unfolding digit_of
digit_most c =
    by_cases (is_between 48 57 c) (λ e. rw e (omega (arith, at_most 48 57 c e)))
    (λ e.
    rw e
    (by_cases (is_between 97 102 c) (λ f. rw f (omega (arith, at_most 97 102 c f)))
    (λ f. rw f (by_cases (is_between 65 70 c) (λ g. rw g (omega (arith, at_most 65 70 c g))) (λ g. rw g (omega arith))))))

pub unit_some : (c : ℕ) → 0 < unit_of c
unfolding unit_of
unit_some c =
    by_cases (eqb c 75 || eqb c 107) (λ e. rw e (omega arith))
    (λ e.
    rw e
    (by_cases (eqb c 77 || eqb c 109) (λ f. rw f (omega arith))
    (λ f. rw f (by_cases (eqb c 71 || eqb c 103) (λ g. rw g (omega arith)) (λ g. rw g (omega arith))))))

unit_end : unit_of 0 ≡ 1
unfolding unit_of
unit_end = refl

-- a byte that is a unit stands inside the text
pub unit_inside : (s : List ℕ) (at : ℕ) → (unit_of (byte_at s at) ≡ 1 → ⊥) → at < length s
unit_inside s at h = below_or_not at (length s) (λ l. l) (λ l. absurd (h (ap unit_of (get_or-eq_default s 0 l) ∙ unit_end)))
