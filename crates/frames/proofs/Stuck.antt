-- The tests by a kind's bits, in the rules' words, and the search for the first that cannot leave. Assumes nothing.
--     stuck_seen, granted_seen    a mark that is neither free nor movable; one of a grant
--     stuck_none, stuck_low, stuck_found, stuck_left    the first place of a range that is neither free nor movable
use Prim.Native.Nat.{ℕ, ◌+◌, ◌-◌, ◌*◌, ◌/◌, ◌%◌, ◌≤◌, ◌<◌, min}
use native.Mathlib.Omega.{arith}
use mathlib.Core.Path.{◌≡◌, sym, ap, subst, ◌∙◌}
use mathlib.Core.Bool.{Bool, true, false, not}
use mathlib.Core.List.{List}
use native.Mathlib.Nat.{mod-lt}
use lib.Arith.{mod-mul}
use lib.Bits.{bit_and, and_high}
use lib.Dec.{eqb}
use lib.ListN.{length}
use borrow.Author.Tests.{eq-eqb, ne_eqb, eqb-true, eqb-false}
use Rattle.search.specs.Search.{lowest_from, lowest}
use Rattle.search.proofs.Bools.{by_cases, below_or_not}
use Rattle.search.proofs.Lowest.{Least, lowest_least, found_is, found_none}
use Rattle.frames.specs.Marks.{can_leave, is_granted}
use Rattle.frames.specs.Scans.{marked}
use Rattle.frames.proofs.MarkFacts.{leaves, stays, granted, not_granted, past_end}

-- the upper two bits of a kind, and the lowest
record KindBits (mark : ℕ) : Type 0 where
  upper : bit_and mark 6 ≡ mark / 2 % 4 * 2
  parts : mark % 8 ≡ mark / 2 % 4 * 2 + mark % 2
  low : mark % 2 < 2

kind_bits : (mark : ℕ) → KindBits mark
kind_bits mark = record { upper = and_high mark 2 1; parts = mod-mul mark {m = 4} {c = 2} (omega arith) (omega arith); low = mod-lt mark (omega arith) }

pub stuck_seen : (mark : ℕ) → not (eqb (bit_and mark 6) 0) ≡ not (can_leave mark)
stuck_seen mark =
    let b = kind_bits mark in
    below_or_not 1 (mark % 8) (λ l. ap not (ne_eqb (bit_and mark 6) 0 (λ e. omega arith) ∙ sym (stays mark l)))
    (λ l. ap not (eq-eqb (bit_and mark 6) 0 (omega arith) ∙ sym (leaves mark l)))

pub granted_seen : (mark : ℕ) → eqb (bit_and mark 6) 4 ≡ is_granted mark
granted_seen mark =
    let b = kind_bits mark in
    by_cases (eqb (bit_and mark 6) 4)
    (λ t. let is = eqb-true (bit_and mark 6) 4 t in t ∙ sym (granted mark (omega arith) (omega arith)))
    (λ f. let is_not = eqb-false (bit_and mark 6) 4 f in f ∙ sym (not_granted mark (λ e. is_not (omega arith)) (λ e. is_not (omega arith))))

-- the places from `from` on, of which the marks have those up to `end`
module _ (marks : List ℕ) (from count end : ℕ) (e : end ≡ min (from + count) (length marks)) where
  abbrev stuck : ℕ → Bool
  stuck k = not (marked can_leave marks (from + k))

  beyond : (k : ℕ) → k < count → end ≤ from + k → stuck k ≡ false
  beyond k l h = ap not (past_end can_leave marks (from + k) (omega arith))

  pub stuck_none : end ≤ from → count ≡ lowest stuck count
  stuck_none h = sym (found_none stuck count (λ k l. beyond k l (omega arith)))

  module _ (more : from < end) (at : ℕ) (is : at ≡ lowest_from (marked (λ mark. not (can_leave mark)) marks) from (end - from)) where
    seen : Least (marked (λ mark. not (can_leave mark)) marks) from (end - from) at
    seen = rw is (lowest_least (marked (λ mark. not (can_leave mark)) marks) from (end - from))

    pub stuck_low : from ≤ at
    stuck_low = seen.low

    passed : (k : ℕ) → from + k < at → stuck k ≡ false
    passed k l = seen.miss (from + k) (omega arith) l

    pub stuck_found : at < end → at - from ≡ lowest stuck count
    stuck_found l =
        let low = seen.low in
        let here : at ≡ from + (at - from) = omega arith in
        sym
        (found_is stuck count (at - from) (omega arith)
        (subst (λ (x : ℕ). not (marked can_leave marks x) ≡ true) here (seen.hit (omega arith)))
        (λ k h. passed k (omega arith)))

    pub stuck_left : end ≤ at → count ≡ lowest stuck count
    stuck_left l = sym (found_none stuck count (λ k h. below_or_not (from + k) end (λ a. passed k (omega arith)) (λ a. beyond k h a)))
