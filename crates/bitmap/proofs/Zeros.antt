-- The zeros below a word's lowest set bit, as a search. Assumes nothing.
--     trailing_lowest    the count that the machine gives is the lowest set bit
--     zeros_low          the count, of so many bits
use Prim.Native.Nat.{ℕ, zero, suc, ◌+◌, ◌/◌, ◌%◌, ◌^◌, ◌≤◌, ◌<◌, min}
use native.Mathlib.Omega.{arith}
use native.Mathlib.Nat.{div-one, add_comm, mod-lt}
use native.Mathlib.Numerals.{add-one}
use mathlib.Core.Path.{◌≡◌, sym, ap, ◌∙◌}
use mathlib.Core.Bool.{Bool, not}
use lib.Count.{count_trailing_zeros, under}
use lib.Dec.{eqb}
use lib.Pow.{shr-shr}
use Rattle.search.specs.Search.{lowest_from, lowest}
use Rattle.search.proofs.Bools.{by_cases, below_or_not}
use Rattle.search.proofs.Lowest.{lowest_zero, lowest_pass, lowest_fail, lowest_cong, found_passes, found_low, found_is, found_none}
use Rattle.bitmap.specs.Bits.{bit_of}
use Rattle.bitmap.proofs.Smears.{shift_bit}

-- one further on
lowest_up : (p : ℕ → Bool) (i d : ℕ) → lowest_from p (suc i) d ≡ suc (lowest_from (λ k. p (suc k)) i d)
lowest_up p i zero = lowest_zero p (suc i) ∙ ap suc (sym (lowest_zero (λ k. p (suc k)) i))
lowest_up p i (suc d) =
    by_cases (p (suc i)) (λ e. lowest_pass p (suc i) d e ∙ ap suc (sym (lowest_pass (λ k. p (suc k)) i d e)))
    (λ e. lowest_fail p (suc i) d e ∙ lowest_up p (suc i) d ∙ ap suc (sym (lowest_fail (λ k. p (suc k)) i d e)))

abbrev pub set_at : ℕ → ℕ → Bool
set_at n k = not (eqb (bit_of n k) 0)

half : (n k : ℕ) → set_at (n / 2) k ≡ set_at n (suc k)
half n k = ap (λ (x : ℕ). not (eqb (x % 2) 0)) (shr-shr n 1 k ∙ ap (λ (x : ℕ). n / 2 ^ x) (add_comm 1 k ∙ add-one k))

pub trailing_lowest : (d n : ℕ) → count_trailing_zeros d n ≡ lowest_from (set_at n) 0 d
unfolding count_trailing_zeros
trailing_lowest zero n = sym (lowest_zero (set_at n) 0)
trailing_lowest (suc d) n =
    below_or_not 0 (n % 2)
    (λ some.
    let less : n % 2 < 2 = mod-lt n (omega arith) in
    let one : n % 2 ≡ 1 = omega arith in
    ap (λ (x : ℕ). under x (count_trailing_zeros d (n / 2))) one ∙ sym (lowest_pass (set_at n) 0 d (ap (λ (x : ℕ). not (eqb (x % 2) 0)) (div-one n) ∙ ap (λ (x : ℕ). not (eqb x 0)) one)))
    (λ none.
    let zero' : n % 2 ≡ 0 = omega arith in
    ap (λ (x : ℕ). under x (count_trailing_zeros d (n / 2))) zero' ∙
    ap suc (trailing_lowest d (n / 2) ∙ lowest_cong (set_at (n / 2)) (λ k. set_at n (suc k)) 0 d (λ k a b. half n k)) ∙
    sym (lowest_fail (set_at n) 0 d (ap (λ (x : ℕ). not (eqb (x % 2) 0)) (div-one n) ∙ ap (λ (x : ℕ). not (eqb x 0)) zero') ∙ lowest_up (set_at n) 0 d))

-- the bits of a word from bit `low` on, of which the machine counts the zeros
module _ (w low left : ℕ) where
  abbrev test : ℕ → Bool
  test k = set_at w (low + k)

  zeros_is : count_trailing_zeros 64 (w / 2 ^ low) ≡ lowest test 64
  unfolding lowest
  zeros_is =
      trailing_lowest 64 (w / 2 ^ low) ∙
      lowest_cong (set_at (w / 2 ^ low)) test 0 64 (λ k a b. ap (λ (x : ℕ). not (eqb x 0)) (shift_bit w low k ∙ ap (bit_of w) (add_comm k low)))

  pub zeros_low : left ≤ 64 → min left (count_trailing_zeros 64 (w / 2 ^ low)) ≡ lowest test left
  zeros_low h =
      let z = zeros_is in
      below_or_not (lowest test 64) left
      (λ l. let here : min left (count_trailing_zeros 64 (w / 2 ^ low)) ≡ lowest test 64 = omega arith in
      here ∙ sym (found_is test left (lowest test 64) l (found_passes test 64 (omega arith)) (found_low test 64)))
      (λ l. let all : min left (count_trailing_zeros 64 (w / 2 ^ low)) ≡ left = omega arith in
      all ∙ sym (found_none test left (λ k a. found_low test 64 k (omega arith))))
