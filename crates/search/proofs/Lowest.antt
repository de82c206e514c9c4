-- The laws of "the lowest such that", for every test and width. Assumes nothing.
--     Least p i d r       what it is to be the lowest number of the range that passes, or the range's end where none does
--     lowest_least        `lowest_from` is that; least_unique: nothing else is
--     lowest_is           so a number that is least is the one found
--     lowest_cong         it goes by the test's values in the range alone
-- A loop that counts i up to n, and has yet to look from i on:
--     lowest_here, lowest_next, lowest_end    the test passes at i; it fails there; nothing is left
--     lowest_skip                              it fails at each number from i up to j
-- And of the search below n:
--     found_passes, found_low, found_some, found_none, lowest_le
use Prim.Native.Nat.{ℕ, zero, suc, ◌+◌, ◌-◌, ◌≤◌, ◌<◌}
use native.Mathlib.Nat.{le_refl, eq-or-lt_of_le}
use native.Mathlib.Omega.{arith}
use mathlib.Core.Logic.{⊎_elim}
use mathlib.Core.Path.{◌≡◌, refl, ap, subst, ◌∙◌}
use mathlib.Core.Bool.{Bool, true, false}
use Rattle.search.specs.Search.{lowest_from, lowest}
use Rattle.search.proofs.Bools.{by_cases, below_or_not, clash}

pub record Least (p : ℕ → Bool) (i d r : ℕ) : Type 0 where
  pub low : i ≤ r
  pub high : r ≤ i + d
  pub hit : r < i + d → p r ≡ true
  pub miss : (k : ℕ) → i ≤ k → k < r → p k ≡ false

module _ (p : ℕ → Bool) where
  pub lowest_pass : (i d : ℕ) → p i ≡ true → lowest_from p i (suc d) ≡ i
  unfolding lowest_from
  lowest_pass i d e = rw (e, lowest_from)

  pub lowest_fail : (i d : ℕ) → p i ≡ false → lowest_from p i (suc d) ≡ lowest_from p (suc i) d
  unfolding lowest_from
  lowest_fail i d e = rw (e, lowest_from)

  pub lowest_zero : (i : ℕ) → lowest_from p i 0 ≡ i
  unfolding lowest_from
  lowest_zero i = refl

  least_here : (i d : ℕ) → p i ≡ true → Least p i (suc d) i
  least_here i d e = record { low = le_refl i; high = omega arith; hit = λ _. e; miss = λ k a b. absurd (omega arith) }

  least_next : (i d r : ℕ) → p i ≡ false → Least p (suc i) d r → Least p i (suc d) r
  least_next i d r e l =
      record {
        low = omega (arith, l.low);
        high = omega (arith, l.high);
        hit = λ h. l.hit (omega arith);
        miss = λ k a b. ⊎_elim (λ q. subst (λ x. p x ≡ false) q e) (λ h. l.miss k h b) (eq-or-lt_of_le a);
      }

  pub lowest_least : (i d : ℕ) → Least p i d (lowest_from p i d)
  lowest_least i zero = rw lowest_zero (record { low = le_refl i; high = omega arith; hit = λ h. absurd (omega arith); miss = λ k a b. absurd (omega arith) })
  lowest_least i (suc d) =
      by_cases (p i) (λ e. rw (lowest_pass i d e) (least_here i d e))
      (λ e. rw (lowest_fail i d e) (least_next i d (lowest_from p (suc i) d) e (lowest_least (suc i) d)))

  not_below : (i d r s : ℕ) → Least p i d r → Least p i d s → r < s → ⊥
  not_below i d r s a b h = clash (p r) (a.hit (omega (arith, b.high))) (b.miss r a.low h)

  pub least_unique : (i d r s : ℕ) → Least p i d r → Least p i d s → r ≡ s
  least_unique i d r s a b =
      below_or_not r s (λ h. absurd (not_below i d r s a b h))
      (λ h. below_or_not s r (λ l. absurd (not_below i d s r b a l)) (λ l. omega arith))

  pub lowest_is : (i d r : ℕ) → Least p i d r → lowest_from p i d ≡ r
  lowest_is i d r l = least_unique i d (lowest_from p i d) r (lowest_least i d) l

  -- ---- a loop at i that goes up to n
  pub lowest_here : (i n : ℕ) → i < n → p i ≡ true → lowest_from p i (n - i) ≡ i
  lowest_here i n h e = lowest_is i (n - i) i (record { low = le_refl i; high = omega arith; hit = λ _. e; miss = λ k a b. absurd (omega arith) })

  pub lowest_skip : (i j n : ℕ) → i ≤ j → j ≤ n → ((k : ℕ) → i ≤ k → k < j → p k ≡ false) → lowest_from p i (n - i) ≡ lowest_from p j (n - j)
  lowest_skip i j n a b none =
      let l = lowest_least j (n - j) in
      lowest_is i (n - i) (lowest_from p j (n - j))
      (record {
        low = omega (arith, l.low);
        high = omega (arith, l.high);
        hit = λ h. l.hit (omega arith);
        miss = λ k u v. below_or_not k j (λ w. none k u w) (λ w. l.miss k w v);
      })

  pub lowest_next : (i n : ℕ) → i < n → p i ≡ false → lowest_from p i (n - i) ≡ lowest_from p (i + 1) (n - (i + 1))
  lowest_next i n h e = lowest_skip i (i + 1) n (omega arith) (omega arith) (λ k a b. subst (λ (x : ℕ). p x ≡ false) (omega arith) e)

  pub lowest_end : (i n : ℕ) → n ≤ i → lowest_from p i (n - i) ≡ i
  lowest_end i n h = lowest_is i (n - i) i (record { low = le_refl i; high = omega arith; hit = λ l. absurd (omega arith); miss = λ k a b. absurd (omega arith) })

  -- ---- the search below n
  lowest_below : (n : ℕ) → lowest p n ≡ lowest_from p 0 n
  unfolding lowest
  lowest_below n = refl

  pub lowest_start : (n : ℕ) → lowest p n ≡ lowest_from p 0 (n - 0)
  lowest_start n = lowest_below n ∙ ap (lowest_from p 0) (omega arith)

  pub lowest_le : (n : ℕ) → lowest p n ≤ n
  lowest_le n = rw lowest_below (omega (arith, (lowest_least 0 n).high))

  pub found_passes : (n : ℕ) → lowest p n < n → p (lowest p n) ≡ true
  found_passes n = rw lowest_below (λ h. (lowest_least 0 n).hit (omega arith))

  -- nothing below it passes
  pub found_low : (n k : ℕ) → k < lowest p n → p k ≡ false
  found_low n k = rw lowest_below (λ h. (lowest_least 0 n).miss k (omega arith) h)

  -- it is at most any that passes
  pub found_some : (n k : ℕ) → p k ≡ true → lowest p n ≤ k
  found_some n k e = below_or_not k (lowest p n) (λ h. clash (p k) e (found_low n k h)) (λ h. h)

  -- nothing is found just where nothing passes
  pub found_none : (n : ℕ) → ((k : ℕ) → k < n → p k ≡ false) → lowest p n ≡ n
  found_none n none =
      below_or_not (lowest p n) n (λ h. clash (p (lowest p n)) (found_passes n h) (none (lowest p n) h)) (λ h. omega (arith, lowest_le n))

  -- it passes, and nothing below it does: it is the one found
  pub found_is : (n k : ℕ) → k < n → p k ≡ true → ((i : ℕ) → i < k → p i ≡ false) → lowest p n ≡ k
  found_is n k h e none =
      rw lowest_below (lowest_is 0 n k (record { low = omega arith; high = omega arith; hit = λ _. e; miss = λ i a b. none i b }))

pub lowest_cong : (p q : ℕ → Bool) (i d : ℕ) → ((k : ℕ) → i ≤ k → k < i + d → p k ≡ q k) → lowest_from p i d ≡ lowest_from q i d
lowest_cong p q i d same =
    let l = lowest_least q i d in
    lowest_is p i d (lowest_from q i d)
    (record {
      low = l.low;
      high = l.high;
      hit = λ h. same (lowest_from q i d) l.low h ∙ l.hit h;
      miss = λ k a b. same k a (omega (arith, l.high)) ∙ l.miss k a b;
    })

pub found_cong : (p q : ℕ → Bool) (n : ℕ) → ((k : ℕ) → k < n → p k ≡ q k) → lowest p n ≡ lowest q n
unfolding lowest
found_cong p q n same = lowest_cong p q 0 n (λ k a b. same k (omega arith))
