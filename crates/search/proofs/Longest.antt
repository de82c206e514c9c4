-- The laws of "the longest row", for every test and width. Assumes nothing.
--     longest_is, longest_only     `longest` is the length of the longest row; nothing else is
--     stretch_high, stretch_all, stretch_most    the row at the range's first number: within the range; each of it passes; no row goes on behind it
-- A loop that goes up the range by whole rows, and has found n numbers in a row before `from`:
--     Reached             what holds at its head: there is a row of n, and none that begins before `from` is longer
--     reach_start, reach_turn, reach_end
use Prim.Native.Nat.{ℕ, zero, suc, ◌+◌, ◌-◌, ◌≤◌, ◌<◌, max}
use native.Mathlib.Nat.{le_refl}
use native.Mathlib.Omega.{arith}
use mathlib.Core.Path.{◌≡◌, subst}
use mathlib.Core.Bool.{Bool, true, false, not}
use Rattle.search.specs.Search.{every, stretch, longest, Row, Longest}
use Rattle.search.proofs.Bools.{below_or_not, clash, not_flips}
use Rattle.search.proofs.Lowest.{lowest_le, found_passes, found_low}
use Rattle.search.proofs.Ranges.{all_every}

module _ (p : ℕ → Bool) where
  -- ---- the row at the range's first number
  pub stretch_high : (i d : ℕ) → stretch p i d ≤ d
  unfolding stretch
  stretch_high i d = lowest_le (λ k. not (p (i + k))) d

  pub stretch_all : (i d k : ℕ) → i ≤ k → k < i + stretch p i d → p k ≡ true
  unfolding stretch
  stretch_all i d k a b =
      subst (λ (x : ℕ). p x ≡ true) (omega arith) (not_flips (p (i + (k - i))) (found_low (λ k. not (p (i + k))) d (k - i) (omega arith)))

  stretch_stops : (i d : ℕ) → stretch p i d < d → p (i + stretch p i d) ≡ false
  unfolding stretch
  stretch_stops i d h = not_flips _ (found_passes (λ k. not (p (i + k))) d h)

  -- c numbers in a row that begin in it or at its end
  pub stretch_most : (i d j c : ℕ) → j ≤ i + stretch p i d → j + c ≤ i + d → ((k : ℕ) → j ≤ k → k < j + c → p k ≡ true) → j + c ≤ i + stretch p i d
  stretch_most i d j c a b all =
      below_or_not (i + stretch p i d) (j + c)
      (λ h. clash (p (i + stretch p i d)) (all (i + stretch p i d) a h) (stretch_stops i d (omega arith))) (λ h. h)

  -- ---- the longest
  -- the longer of two rows is a row
  longer : (i d m n : ℕ) → Row p i d m → Row p i d n → Row p i d (max m n)
  longer i d m n a b =
      below_or_not m n (λ h. subst (Row p i d) (omega arith) b) (λ h. subst (Row p i d) (omega arith) a)

  no_row : (i d : ℕ) → Row p i d 0
  no_row i d = record { at = i; low = le_refl i; high = omega arith; all = λ k a b. absurd (omega arith) }

  pub longest_is : (i d : ℕ) → Longest p i d (longest p i d)
  unfolding longest
  longest_is i zero = record { found = no_row i 0; most = λ c r. omega (arith, r.low, r.high) }
  longest_is i (suc d) =
      let rest = longest_is (suc i) d in
      let s = stretch p i (suc d) in
      record {
        found =
            longer i (suc d) s (longest p (suc i) d)
            (record { at = i; low = le_refl i; high = omega (arith, stretch_high i (suc d)); all = stretch_all i (suc d) })
            (let r = rest.found in record { at = r.at; low = omega (arith, r.low); high = omega (arith, r.high); all = r.all });
        most = λ c r.
            below_or_not i r.at
            (λ h. let m = rest.most c (record { at = r.at; low = h; high = omega (arith, r.high); all = r.all }) in omega arith)
            (λ h. let m = stretch_most i (suc d) r.at c (omega arith) r.high r.all in omega (arith, r.low));
      }

  pub longest_only : (i d n : ℕ) → Longest p i d n → n ≡ longest p i d
  longest_only i d n l =
      let m = longest_is i d in
      omega (arith, l.most (longest p i d) m.found, m.most n l.found)

  -- ---- a loop over the rows
  pub record Reached (i d n from : ℕ) : Type 0 where
    pub low : i ≤ from
    pub high : from ≤ i + d
    pub found : Row p i d n
    pub most : (c : ℕ) (r : Row p i d c) → r.at < from → c ≤ n

  module _ (i d : ℕ) where
    pub reach_start : Reached i d 0 i
    reach_start = record { low = le_refl i; high = omega arith; found = no_row i d; most = λ c r h. omega (arith, r.low) }

    module _ (n from : ℕ) (s : Reached i d n from) where
      -- a longer row has no room
      pub reach_end : i + d - from ≤ n → n ≡ longest p i d
      reach_end h =
          longest_only i d n
          (record { found = s.found; most = λ c r. below_or_not r.at from (s.most c r) (λ l. omega (arith, r.high)) })

      -- no longer row begins at the next numbers, up to `next`, and that which begins there is of c
      module _
          (next c : ℕ) (a : from ≤ next) (b : next ≤ i + d) (none : (j : ℕ) → from ≤ j → j < next → every p j (n + 1) ≡ false)
          (e : c ≡ stretch p next (i + d - next)) where
        passed : (m : ℕ) (r : Row p i d m) → from ≤ r.at → r.at < next → m ≤ n
        passed m r low high =
            below_or_not n m
            (λ h. clash _ (all_every p r.at (n + 1) (λ k u v. r.all k u (omega arith))) (none r.at low high)) (λ h. h)

        ended : (m : ℕ) (r : Row p i d m) → next ≤ r.at → r.at < next + c → m ≤ c
        ended m r low high =
            let w = i + d - next in
            omega (arith, stretch_most next w r.at m (omega arith) (omega (arith, r.high)) r.all)

        pub reach_turn : Reached i d (max n c) (next + c)
        reach_turn =
            let w = i + d - next in
            let long = stretch_high next w in
            record {
              low = omega (arith, s.low);
              high = omega arith;
              found =
                  longer i d n c s.found
                  (record { at = next; low = omega (arith, s.low); high = omega arith; all = λ k u v. stretch_all next w k u (omega arith) });
              most = λ m r h.
                  below_or_not r.at from (λ l. omega (arith, s.most m r l))
                  (λ l. below_or_not r.at next (λ g. omega (arith, passed m r l g)) (λ g. omega (arith, ended m r g h)));
            }
