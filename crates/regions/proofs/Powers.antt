-- Powers of two, by their binary digits. Assumes nothing.
--     power_of_ones    a number of 64 digits has one that is 1 just where it is 2^k for some k below 64
use Prim.Native.Nat.{ℕ, zero, suc, ◌+◌, ◌*◌, ◌/◌, ◌%◌, ◌^◌, ◌<◌}
use native.Mathlib.Omega.{arith}
use mathlib.Core.Path.{◌≡◌, refl, sym, ap, ◌∙◌}
use lib.Count.{ones}
use lib.Dec.{eqb}
use lib.Pow.{pow-add}
use borrow.Author.Tests.{eq-eqb, ne_eqb, eqb-true, eqb-false}
use Rattle.std.proofs.lemmas.Nat.{ones_cat, zero_from_ones}
use Rattle.search.proofs.Bools.{by_cases, below_or_not}
use Rattle.search.proofs.Ranges.{some_hit, none_some}
use Rattle.regions.specs.Amounts.{is_power_of_two}

twice : (k : ℕ) → 2 ^ suc k ≡ 2 ^ k * 2
twice k = ap (λ (n : ℕ). 2 ^ n) (omega arith) ∙ pow-add 2 k 1

none_of_zero : ones 0 ≡ 0
unfolding ones
none_of_zero = refl

one_of_one : ones 1 ≡ 1
unfolding ones
one_of_one = refl

-- the last binary digit and those before it
halved : (x : ℕ) → ones x ≡ ones (x / 2) + ones (x % 2)
halved x = ap ones (omega arith) ∙ ones_cat 1 (x / 2) (x % 2) (omega arith)

ones_of_power : (k : ℕ) → ones (2 ^ k) ≡ 1
ones_of_power zero = one_of_one
ones_of_power (suc k) =
    let half : 2 ^ suc k / 2 ≡ 2 ^ k = omega (arith, twice k) in
    let last : 2 ^ suc k % 2 ≡ 0 = omega (arith, twice k) in
    rw (halved (2 ^ suc k), half, last, ones_of_power k, none_of_zero) (omega arith)

-- the power that a number with one binary digit is
record Power (w x : ℕ) : Type 0 where
  exponent : ℕ
  below : exponent < w
  is : x ≡ 2 ^ exponent

power : (w x : ℕ) → x < 2 ^ w → ones x ≡ 1 → Power w x
power zero x h e =
    let none : x ≡ 0 = omega arith in
    absurd (omega (arith, sym e ∙ ap ones none ∙ none_of_zero))
power (suc w) x h e =
    below_or_not (x % 2) 1
    (λ l.
    let even : x % 2 ≡ 0 = omega arith in
    let one : ones (x / 2) ≡ 1 = omega (arith, halved x, ap ones even, none_of_zero) in
    let p = power w (x / 2) (omega (arith, twice w)) one in
    record { exponent = suc p.exponent; below = omega (arith, p.below); is = omega (arith, twice p.exponent, p.is) })
    (λ l.
    let odd : x % 2 ≡ 1 = omega arith in
    let none : x / 2 ≡ 0 = zero_from_ones (x / 2) (omega (arith, halved x, ap ones odd, one_of_one)) in
    record { exponent = 0; below = omega arith; is = omega arith })

pub power_of_ones : (x : ℕ) → x < 2 ^ 64 → eqb (ones x) 1 ≡ is_power_of_two x
unfolding is_power_of_two
power_of_ones x h =
    by_cases (eqb (ones x) 1)
    (λ t.
    let p = power 64 x h (eqb-true (ones x) 1 t) in
    t ∙ sym (some_hit (λ k. eqb x (2 ^ k)) 0 64 p.exponent (omega arith) (omega (arith, p.below)) (eq-eqb x (2 ^ p.exponent) p.is)))
    (λ f.
    f ∙ sym (none_some (λ k. eqb x (2 ^ k)) 0 64 (λ k a b. ne_eqb x (2 ^ k) (λ e. eqb-false (ones x) 1 f (ap ones e ∙ ones_of_power k)))))
