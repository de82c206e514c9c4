-- A test and the plain fact that it tells. Assumes nothing.
--     Says b P                        the test b is true just where P holds
--     says_is                         the fact in other words
--     says_no, says_false, says_yes   a test that fails; a fact that does not hold; one that cannot fail
--     says_true, says_leb, says_ltb, says_eqb    the test itself; the comparisons
--     says_not, says_not_not, says_and, says_or    what stands right of `&&` may use the left, and right of `||` that the left does not hold
--     says_right                      alternatives, stated from the right
--     says_some, says_every, says_not_every    some number of a range; each number of it; not each
--     search_known                    a search finds the lowest
--     says_found, says_missed, says_lowest    it finds one; it finds none; what a test tells of the one found
use Rattle.std.proofs.Common.{◌≡◌, ℕ, ◌+◌, ◌<◌, ◌≤◌, Bool, true, false, not, ◌&&◌, ◌||◌, eqb, ltb, leb, ◌⊎◌, sym, ap, subst, inl, inr, ⊎_elim, arith, ltb-true, lt-ltb, eq-eqb, eqb-true, le-leb, leb-false, leb-true}
use borrow.Author.Tests.{not-true, not-false}
use Rattle.search.specs.Search.{lowest, every, some}
use Rattle.search.proofs.Bools.{by_cases, below_or_not, clash, and_left, and_right, and_both, or_left_true, or_right_true}
use Rattle.search.proofs.Lowest.{found_passes, found_low, found_is}
use Rattle.search.proofs.Ranges.{every_all, all_every, every_no, every_miss, some_yes, some_hit}
use Rattle.rules.specs.Promises.Pages.{Lowest}

pub record Says (b : Bool) (P : Type 0) : Type 0 where
  pub fact : b ≡ true → P
  pub test : P → b ≡ true

pub says_is : {b : Bool} {P Q : Type 0} → (P → Q) → (Q → P) → Says b P → Says b Q
says_is to from s = record { fact = λ e. to (s.fact e); test = λ q. s.test (from q) }

pub says_no : {b : Bool} {P : Type 0} → Says b P → b ≡ false → P → ⊥
says_no {b} s e p = clash b (s.test p) e

pub says_false : {b : Bool} {P : Type 0} → Says b P → (P → ⊥) → b ≡ false
says_false {b} s none = by_cases b (λ e. absurd (none (s.fact e))) (λ e. e)

-- what cannot fail to hold does
pub says_yes : {b : Bool} {P : Type 0} → Says b P → ((P → ⊥) → ⊥) → b ≡ true
says_yes {b} s holds = by_cases b (λ e. e) (λ e. absurd (holds (says_no s e)))

pub says_true : (b : Bool) → Says b (b ≡ true)
says_true b = record { fact = λ e. e; test = λ e. e }

pub says_leb : (x y : ℕ) → Says (leb x y) (x ≤ y)
says_leb x y = record { fact = leb-true x y; test = le-leb x y }

pub says_ltb : (x y : ℕ) → Says (ltb x y) (x < y)
says_ltb x y = record { fact = ltb-true x y; test = lt-ltb x y }

pub says_eqb : (x y : ℕ) → Says (eqb x y) (x ≡ y)
says_eqb x y = record { fact = eqb-true x y; test = eq-eqb x y }

pub says_not : {b : Bool} {P : Type 0} → Says b P → Says (not b) (P → ⊥)
says_not {b} s =
    record {
      fact = λ e. says_no s (not-true b e);
      test = λ none. ap not (says_false s none);
    }

pub says_not_not : {b : Bool} {P : Type 0} → Says b P → Says (not (not b)) P
says_not_not {b} s = record { fact = λ e. s.fact (not-false b (not-true (not b) e)); test = λ p. ap (λ (x : Bool). not (not x)) (s.test p) }

pub says_and : {a b : Bool} {P Q : Type 0} → Says a P → (P → Says b Q) → Says (a && b) (P × Q)
says_and {a} {b} s u =
    record {
      fact = λ e.
          let p = s.fact (and_left a b e) in
          (p, (u p).fact (and_right a b e));
      test = λ h. and_both a b (s.test h.0) ((u h.0).test h.1);
    }

pub says_or : {a b : Bool} {P Q : Type 0} → Says a P → ((P → ⊥) → Says b Q) → Says (a || b) (P ⊎ Q)
says_or {a} {b} s u =
    record {
      fact = λ e.
          by_cases a (λ h. inl (s.fact h)) (λ h. inr ((u (says_no s h)).fact (subst (λ (x : Bool). (x || b) ≡ true) h e)));
      test =
          ⊎_elim (λ p. or_left_true a b (s.test p))
          (λ q. by_cases a (λ h. or_left_true a b h) (λ h. or_right_true a b ((u (says_no s h)).test q)));
    }

-- a list of alternatives is tested from the left, and stated from the right
pub says_right : {b : Bool} {P Q R : Type 0} → Says b ((P ⊎ Q) ⊎ R) → Says b (P ⊎ Q ⊎ R)
says_right s =
    says_is (⊎_elim (⊎_elim inl (λ q. inr (inl q))) (λ r. inr (inr r))) (⊎_elim (λ p. inl (inl p)) (⊎_elim (λ q. inl (inr q)) inr)) s

module _ (p : ℕ → Bool) (P : ℕ → Type 0) (i d : ℕ) (says : (k : ℕ) → Says (p k) (P k)) where
  pub says_some : Says (some p i d) ((k : ℕ) × (i ≤ k) × (k < i + d) × P k)
  says_some =
      record {
        fact = λ e.
            let w = some_yes p i d e in
            (w.at, w.low, w.high, (says w.at).fact w.hit);
        test = λ w. some_hit p i d w.0 w.1 w.2 ((says w.0).test w.3);
      }

  pub says_every : Says (every p i d) ((k : ℕ) → i ≤ k → k < i + d → P k)
  says_every =
      record { fact = λ e k l h. (says k).fact (every_all p i d e k l h); test = λ all. all_every p i d (λ k l h. (says k).test (all k l h)) }

  pub says_not_every : Says (not (every p i d)) ((k : ℕ) × (i ≤ k) × (k < i + d) × (P k → ⊥))
  says_not_every =
      record {
        fact = λ e.
            let w = every_no p i d (not-true (every p i d) e) in
            (w.at, w.low, w.high, says_no (says w.at) (not-true (p w.at) w.hit));
        test = λ w. ap not (every_miss p i d w.0 w.1 w.2 (says_false (says w.0) w.3));
      }

-- ---- a search below n, for what is found below n alone
module _ (p : ℕ → Bool) (n : ℕ) (P : ℕ → Type 0) (says : (k : ℕ) → k < n → Says (p k) (P k)) (bounded : (k : ℕ) → P k → k < n) where
  pub search_known : lowest p n < n → Lowest P (lowest p n)
  search_known h = (
    (says (lowest p n) h).fact (found_passes p n h),
    λ k l w. says_no (says k (bounded k w)) (found_low p n k l) w,
  )

  search_found : (k : ℕ) → P k → lowest p n < n
  search_found k w =
      below_or_not (lowest p n) n (λ h. h)
      (λ h. absurd (says_no (says k (bounded k w)) (found_low p n k (omega (arith, bounded k w))) w))

  search_is : (k : ℕ) → Lowest P k → lowest p n ≡ k
  search_is k w =
      found_is p n k (bounded k w.0) ((says k (bounded k w.0)).test w.0)
      (λ j l. by_cases (p j) (λ e. absurd (w.1 j l ((says j (omega (arith, bounded k w.0))).fact e))) (λ e. e))

  pub says_found : Says (ltb (lowest p n) n) ((k : ℕ) × P k)
  says_found =
      record {
        fact = λ e. (lowest p n, (search_known (ltb-true (lowest p n) n e)).0);
        test = λ w. lt-ltb (lowest p n) n (search_found w.0 w.1);
      }

  pub says_missed : Says (leb n (lowest p n)) ((k : ℕ) → P k → ⊥)
  says_missed =
      record {
        fact = λ e k w. absurd (omega (arith, leb-true n (lowest p n) e, search_found k w));
        test = λ none.
            by_cases (leb n (lowest p n)) (λ e. e)
            (λ e. absurd (none (lowest p n) (search_known (leb-false n (lowest p n) e)).0));
      }

  pub says_lowest :
      (q : ℕ → Bool) (Q : ℕ → Type 0) → ((k : ℕ) → Says (q k) (Q k)) →
      lowest p n < n → Says (q (lowest p n)) ((k : ℕ) × Lowest P k × Q k)
  says_lowest q Q tells h =
      record {
        fact = λ e. (lowest p n, search_known h, (tells (lowest p n)).fact e);
        test = λ w. subst (λ (k : ℕ). q k ≡ true) (sym (search_is w.0 w.1)) ((tells w.0).test w.2);
      }
