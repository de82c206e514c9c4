-- The laws of "some" and "each" over a range, for every test and width. Assumes nothing.
--     some_yes, some_no, some_hit     a number of the range passes; none does; one that passes is enough
--     every_all, all_every, every_miss    the same of "each": each passes; so each does; one that fails is enough against it
--     some_next, every_next            the range grows by one at its end, as a loop does that has looked at d numbers from i on
--     some_cong, every_cong            they go by the test's values in the range alone
--     every_move                       the same test in another place
--     every_part                       what each number of a range passes, each of a part of it does
--     every_up, every_done, every_stops    a loop from 0: one more passes; it has come to the end; one fails
use Prim.Native.Nat.{ℕ, ◌+◌, ◌-◌, ◌≤◌, ◌<◌}
use native.Mathlib.Omega.{arith}
use mathlib.Core.Path.{◌≡◌, sym, ap, subst, ◌∙◌}
use mathlib.Core.Bool.{Bool, true, false, not, ◌&&◌, ◌||◌}
use lib.Dec.{ltb}
use borrow.Author.Tests.{ltb-true, ltb-false}
use Rattle.search.specs.Search.{lowest_from, some, every}
use Rattle.search.proofs.Bools.{by_cases, below_or_not, clash, not_flips}
use Rattle.search.proofs.Lowest.{lowest_least, lowest_cong}

-- a number of the range that passes
pub record Witness (p : ℕ → Bool) (i d : ℕ) : Type 0 where
  pub at : ℕ
  pub low : i ≤ at
  pub high : at < i + d
  pub hit : p at ≡ true

module _ (p : ℕ → Bool) (i d : ℕ) where
  pub some_yes : some p i d ≡ true → Witness p i d
  unfolding some
  some_yes e =
      let l = lowest_least p i d in
      let h : lowest_from p i d < i + d = ltb-true (lowest_from p i d) (i + d) e in
      record { at = lowest_from p i d; low = l.low; high = h; hit = l.hit h }

  pub some_no : some p i d ≡ false → (k : ℕ) → i ≤ k → k < i + d → p k ≡ false
  unfolding some
  some_no e k a b = (lowest_least p i d).miss k a (omega (arith, ltb-false (lowest_from p i d) (i + d) e))

  pub some_hit : (k : ℕ) → i ≤ k → k < i + d → p k ≡ true → some p i d ≡ true
  some_hit k a b e = by_cases (some p i d) (λ t. t) (λ f. clash (p k) e (some_no f k a b))

  pub none_some : ((k : ℕ) → i ≤ k → k < i + d → p k ≡ false) → some p i d ≡ false
  none_some none = by_cases (some p i d) (λ t. let w = some_yes t in clash (p w.at) w.hit (none w.at w.low w.high)) (λ f. f)

module _ (p : ℕ → Bool) (i d : ℕ) where
  pub every_all : every p i d ≡ true → (k : ℕ) → i ≤ k → k < i + d → p k ≡ true
  unfolding every
  every_all e k a b = not_flips (p k) (some_no (λ k. not (p k)) i d (not_flips (some (λ k. not (p k)) i d) e) k a b)

  pub all_every : ((k : ℕ) → i ≤ k → k < i + d → p k ≡ true) → every p i d ≡ true
  unfolding every
  all_every all = ap not (none_some (λ k. not (p k)) i d (λ k a b. ap not (all k a b)))

  pub every_miss : (k : ℕ) → i ≤ k → k < i + d → p k ≡ false → every p i d ≡ false
  every_miss k a b f = by_cases (every p i d) (λ t. clash (p k) (every_all t k a b) f) (λ e. e)

  -- where not each passes, one fails
  pub every_no : every p i d ≡ false → Witness (λ k. not (p k)) i d
  unfolding every
  every_no e = some_yes (λ k. not (p k)) i d (not_flips (some (λ k. not (p k)) i d) e)

pub some_cong : (p q : ℕ → Bool) (i d : ℕ) → ((k : ℕ) → i ≤ k → k < i + d → p k ≡ q k) → some p i d ≡ some q i d
unfolding some
some_cong p q i d same = ap (λ (k : ℕ). ltb k (i + d)) (lowest_cong p q i d same)

pub every_cong : (p q : ℕ → Bool) (i d : ℕ) → ((k : ℕ) → i ≤ k → k < i + d → p k ≡ q k) → every p i d ≡ every q i d
unfolding every
every_cong p q i d same = ap not (some_cong (λ k. not (p k)) (λ k. not (q k)) i d (λ k a b. ap not (same k a b)))

pub every_move : (p q : ℕ → Bool) (i j d : ℕ) → ((k : ℕ) → k < d → p (i + k) ≡ q (j + k)) → every p i d ≡ every q j d
every_move p q i j d same =
    by_cases (every q j d)
    (λ t. all_every p i d (λ k a b. subst (λ (x : ℕ). p x ≡ true) (omega arith) (same (k - i) (omega arith) ∙ every_all q j d t (j + (k - i)) (omega arith) (omega arith))) ∙ sym t)
    (λ f.
    let w = every_no q j d f in
    let k : ℕ = w.at - j in
    let here : w.at ≡ j + k = omega (arith, w.low) in
    every_miss p i d (i + k) (omega arith) (omega (arith, w.low, w.high))
    (same k (omega (arith, w.low, w.high)) ∙ ap q (sym here) ∙ not_flips (q w.at) w.hit) ∙ sym f)

pub every_part : (p : ℕ → Bool) (i d j e : ℕ) → i ≤ j → j + e ≤ i + d → every p i d ≡ true → every p j e ≡ true
every_part p i d j e a b t = all_every p j e (λ k u v. every_all p i d t k (omega arith) (omega arith))

module _ (p : ℕ → Bool) (i : ℕ) where
  pub some_none : some p i 0 ≡ false
  some_none = none_some p i 0 (λ k a b. absurd (omega arith))

  pub every_none : every p i 0 ≡ true
  every_none = all_every p i 0 (λ k a b. absurd (omega arith))

  pub some_next : (d : ℕ) → some p i (d + 1) ≡ (some p i d || p (i + d))
  some_next d =
      by_cases (some p i d)
      (λ t. let w = some_yes p i d t in some_hit p i (d + 1) w.at w.low (omega (arith, w.high)) w.hit ∙ sym (ap (λ (b : Bool). b || p (i + d)) t))
      (λ f.
      by_cases (p (i + d)) (λ t. some_hit p i (d + 1) (i + d) (omega arith) (omega arith) t ∙ rw (f, t))
      (λ g.
      none_some p i (d + 1)
      (λ k a b. below_or_not k (i + d) (λ h. some_no p i d f k a h) (λ h. subst (λ (x : ℕ). p x ≡ false) (omega arith) g)) ∙
      rw (f, g)))

  pub every_next : (d : ℕ) → every p i (d + 1) ≡ (every p i d && p (i + d))
  every_next d =
      by_cases (every p i d)
      (λ t.
      by_cases (p (i + d))
      (λ u.
      all_every p i (d + 1)
      (λ k a b. below_or_not k (i + d) (λ h. every_all p i d t k a h) (λ h. subst (λ (x : ℕ). p x ≡ true) (omega arith) u)) ∙
      rw (t, u))
      (λ u. every_miss p i (d + 1) (i + d) (omega arith) (omega arith) u ∙ rw (t, u)))
      (λ f.
      let w = every_no p i d f in
      every_miss p i (d + 1) w.at w.low (omega (arith, w.high)) (not_flips (p w.at) w.hit) ∙ rw f)

-- ---- a loop that counts k up from 0, and has found that each number below k passes
module _ (p : ℕ → Bool) where
  pub every_up : (k : ℕ) → every p 0 k ≡ true → p k ≡ true → every p 0 (k + 1) ≡ true
  every_up k t e =
      all_every p 0 (k + 1)
      (λ j a b. below_or_not j k (λ h. every_all p 0 k t j a (omega arith)) (λ h. subst (λ (x : ℕ). p x ≡ true) (omega arith) e))

  pub every_done : (k n : ℕ) → n ≤ k → every p 0 k ≡ true → every p 0 n ≡ true
  every_done k n h t = every_part p 0 k 0 n (omega arith) (omega arith) t

  pub every_stops : (k n : ℕ) → k < n → p k ≡ false → every p 0 n ≡ false
  every_stops k n h f = every_miss p 0 n k (omega arith) (omega arith) f
