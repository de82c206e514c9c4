-- The laws of "the highest such that". Assumes nothing.
--     Greatest p i d r    what it is to be the highest number of the range that passes, or the range's end where none does
--     highest_greatest    `highest_from` is that; greatest_unique: nothing else is
use Prim.Native.Nat.{ℕ, suc, ◌+◌, ◌-◌, ◌≤◌, ◌<◌}
use native.Mathlib.Omega.{arith}
use mathlib.Core.Path.{◌≡◌, subst}
use mathlib.Core.Bool.{Bool, true, false}
use borrow.Author.Tests.{lt-ltb, le-ltb}
use Rattle.search.specs.Search.{lowest, from_top, highest_from}
use Rattle.search.proofs.Bools.{below_or_not, clash}
use Rattle.search.proofs.Lowest.{found_passes, found_low}

pub record Greatest (p : ℕ → Bool) (i d r : ℕ) : Type 0 where
  pub low : i ≤ r
  pub high : r ≤ i + d
  pub hit : r < i + d → p r ≡ true
  pub miss : (k : ℕ) → r < k → k < i + d → p k ≡ false
  pub none : r ≡ i + d → (k : ℕ) → i ≤ k → k < i + d → p k ≡ false

module _ (p : ℕ → Bool) (i d : ℕ) where
  abbrev distance : ℕ
  distance = lowest (λ k. p (from_top i d k)) d

  above : (k : ℕ) → i ≤ k → k < i + d → i + d ≤ k + distance → p k ≡ false
  above k a b h =
      subst (λ (x : ℕ). p x ≡ false) (omega arith) (found_low (λ k. p (from_top i d k)) d (i + d - suc k) (omega arith))

  highest_found : distance < d → highest_from p i d ≡ from_top i d distance
  unfolding highest_from
  highest_found h = rw (lt-ltb distance d h)

  highest_none : d ≤ distance → highest_from p i d ≡ i + d
  unfolding highest_from
  highest_none h = rw (le-ltb distance d h)

  pub highest_greatest : Greatest p i d (highest_from p i d)
  highest_greatest =
      below_or_not distance d
      (λ h.
      rw (highest_found h)
      (record {
        low = omega arith;
        high = omega arith;
        hit = λ _. found_passes (λ k. p (from_top i d k)) d h;
        miss = λ k a b. above k (omega arith) b (omega arith);
        none = λ e k a b. absurd (omega arith);
      }))
      (λ h.
      rw (highest_none h)
      (record {
        low = omega arith;
        high = omega arith;
        hit = λ l. absurd (omega arith);
        miss = λ k a b. absurd (omega arith);
        none = λ e k a b. above k a b (omega arith);
      }))

  not_above : (r s : ℕ) → Greatest p i d r → Greatest p i d s → r < s → ⊥
  not_above r s a b h =
      below_or_not s (i + d) (λ l. clash (p s) (b.hit l) (a.miss s h l))
      (λ l. clash (p r) (a.hit (omega (arith, b.high))) (b.none (omega (arith, b.high)) r a.low (omega (arith, b.high))))

  pub greatest_unique : (r s : ℕ) → Greatest p i d r → Greatest p i d s → r ≡ s
  greatest_unique r s a b =
      below_or_not r s (λ h. absurd (not_above r s a b h)) (λ h. below_or_not s r (λ l. absurd (not_above s r b a l)) (λ l. omega arith))
