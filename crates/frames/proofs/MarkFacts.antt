-- What the code's tests say of a mark. Assumes nothing.
use Prim.Native.Nat.{ℕ, ◌/◌, ◌%◌, ◌≤◌, ◌<◌}
use native.Mathlib.Omega.{arith}
use mathlib.Core.Path.{◌≡◌, ap}
use mathlib.Core.Bool.{Bool, true, false, ◌||◌}
use mathlib.Core.List.{List}
use lib.ListN.{length, get_or-eq_default}
use borrow.Author.Tests.{eq-eqb, ne_eqb}
use Rattle.search.proofs.Bools.{below_or_not, and_false_right}
use Rattle.frames.specs.Scans.{marked}
use Rattle.frames.specs.Marks.{has_kind, is_page_of, can_leave, is_granted, movable, pinned, fixed}

module _ (name mark : ℕ) where
  pub other_name : (mark / 8 ≡ name → ⊥) → is_page_of name mark ≡ false
  other_name h =
      rw (ne_eqb (mark / 8) name h) (and_false_right (has_kind movable mark || has_kind pinned mark || has_kind fixed mark))

module _ (mark : ℕ) where
  pub leaves : mark % 8 ≤ 1 → can_leave mark ≡ true
  leaves h =
      let k = mark % 8 in
      below_or_not k 1 (λ g. rw (eq-eqb k 0 (omega arith))) (λ g. rw (ne_eqb k 0 (λ e. omega arith), eq-eqb k 1 (omega arith)))

  pub stays : 1 < mark % 8 → can_leave mark ≡ false
  stays h = let k = mark % 8 in rw (ne_eqb k 0 (λ e. omega arith), ne_eqb k 1 (λ e. omega arith))

  pub granted : 4 ≤ mark % 8 → mark % 8 ≤ 5 → is_granted mark ≡ true
  granted a b =
      let k = mark % 8 in
      below_or_not k 5 (λ h. rw (eq-eqb k 4 (omega arith))) (λ h. rw (ne_eqb k 4 (λ e. omega arith), eq-eqb k 5 (omega arith)))

  pub not_granted : (mark % 8 ≡ 4 → ⊥) → (mark % 8 ≡ 5 → ⊥) → is_granted mark ≡ false
  not_granted a b = let k = mark % 8 in rw (ne_eqb k 4 a, ne_eqb k 5 b)

-- a mark past the end reads 0
pub past_end : (test : ℕ → Bool) (marks : List ℕ) (k : ℕ) → length marks ≤ k → marked test marks k ≡ test 0
past_end test marks k h = ap test (get_or-eq_default marks 0 h)
