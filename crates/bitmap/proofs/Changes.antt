-- What a change of a run does to each bit and each word. Assumes nothing.
--     word_kept        a word that no bit of the run stands in is as it was, whatever is done to the bits
--     run_changed      a bit of the run, within the words, becomes v: 1 for set_bits, 0 for clear_bits
--     bit_kept         a bit of any word that is no bit of the run is as it was
-- In the terms of is_clear, of this bitmap or of another that shares the words (f and v by `setting` or `clearing`):
--     set_not_clear, cleared_clear    the run's bits
--     clear_outside, clear_kept    the other bits: of this bitmap; of any that the run is not
-- The run's length of words is `change_length`, in Runs. Of a word elsewhere or a bit elsewhere, omega shows NoWord and NoBit from bounds:
-- `λ k a b e. omega arith`.
use Prim.Native.Nat.{ℕ, zero, suc, ◌+◌, ◌/◌, ◌%◌, ◌≤◌, ◌<◌}
use native.Mathlib.Omega.{arith}
use mathlib.Core.Path.{◌≡◌, refl, sym, ap, ◌∙◌}
use mathlib.Core.Bool.{true, false}
use mathlib.Core.List.{List}
use lib.Dec.{eqb}
use lib.ListN.{length, get_or}
use lib.Seq.{set_out, get_or-set_same, get_or-set_other}
use borrow.Author.Tests.{eqb-true, eqb-false}
use Rattle.search.proofs.Bools.{by_cases, below_or_not}
use Rattle.bitmap.specs.Bits.{bit_of, clear_in, is_clear, change_bit, change_bits, set_bits, clear_bits}
use Rattle.bitmap.proofs.Word.{Change, setting, clearing, bit_here, bit_other}
use Rattle.bitmap.proofs.Runs.{one_length, change_length, clear_out}

-- no bit of the run stands in word i; none is bit t of word i
abbrev pub NoWord : ℕ → ℕ → ℕ → ℕ → Type 0
NoWord st j d i = (k : ℕ) → j ≤ k → k < j + d → st + k / 64 ≡ i → ⊥

abbrev pub NoBit : ℕ → ℕ → ℕ → ℕ → ℕ → Type 0
NoBit st j d i t = (k : ℕ) → j ≤ k → k < j + d → st + k / 64 ≡ i → k % 64 ≡ t → ⊥

pub word_kept : (f : ℕ → ℕ → ℕ) (ws : List ℕ) (st j d i : ℕ) → NoWord st j d i → get_or (change_bits f ws st j d) i 0 ≡ get_or ws i 0
unfolding change_bits change_bit
word_kept f ws st j zero i away = refl
word_kept f ws st j (suc d) i away =
    word_kept f (change_bit f ws st j) st (suc j) d i (λ k a b. away k (omega arith) (omega arith))
    ∙ get_or-set_other ws (st + j / 64) i (f (get_or ws (st + j / 64) 0) (j % 64)) 0 (λ e. away j (omega arith) (omega arith) (sym e))

module _ {f : ℕ → ℕ → ℕ} {v : ℕ} (ch : Change f v) where
  -- one bit changed: what holds of a word, and of it with that bit changed where it is that bit's word, holds of it after
  one_word : (P : ℕ → Type 0) (ws : List ℕ) (st j i : ℕ) → P (get_or ws i 0) → (st + j / 64 ≡ i → P (f (get_or ws i 0) (j % 64)))
      → P (get_or (change_bit f ws st j) i 0)
  unfolding change_bit
  one_word P ws st j i before after =
      let w = f (get_or ws (st + j / 64) 0) (j % 64) in
      by_cases (eqb (st + j / 64) i)
      (λ t.
      let here : st + j / 64 ≡ i = eqb-true (st + j / 64) i t in
      below_or_not i (length ws) (λ h. rw (here, get_or-set_same ws i (f (get_or ws i 0) (j % 64)) 0 h) (after here))
      (λ h. rw (set_out ws (st + j / 64) w (omega arith)) before))
      (λ n. rw (get_or-set_other ws (st + j / 64) i w 0 (λ e. eqb-false (st + j / 64) i n (sym e))) before)

  one_changed : (ws : List ℕ) (st j : ℕ) → st + j / 64 < length ws → bit_of (get_or (change_bit f ws st j) (st + j / 64) 0) (j % 64) ≡ v
  unfolding change_bit
  one_changed ws st j h =
      let w = get_or ws (st + j / 64) 0 in
      ap (λ (x : ℕ). bit_of x (j % 64)) (get_or-set_same ws (st + j / 64) (f w (j % 64)) 0 h) ∙ bit_here ch w (j % 64)

  pub bit_kept : (ws : List ℕ) (st j d i t : ℕ) → NoBit st j d i t → bit_of (get_or (change_bits f ws st j d) i 0) t ≡ bit_of (get_or ws i 0) t
  unfolding change_bits
  bit_kept ws st j zero i t away = refl
  bit_kept ws st j (suc d) i t away =
      let one : bit_of (get_or (change_bit f ws st j) i 0) t ≡ bit_of (get_or ws i 0) t =
      one_word (λ (x : ℕ). bit_of x t ≡ bit_of (get_or ws i 0) t) ws st j i refl
      (λ e. bit_other ch (get_or ws i 0) (j % 64) t (λ q. away j (omega arith) (omega arith) e (sym q))) in
      bit_kept (change_bit f ws st j) st (suc j) d i t (λ k a b. away k (omega arith) (omega arith)) ∙ one

  pub run_changed : (ws : List ℕ) (st j d k : ℕ) → j ≤ k → k < j + d → st + k / 64 < length ws
      → bit_of (get_or (change_bits f ws st j d) (st + k / 64) 0) (k % 64) ≡ v
  unfolding change_bits
  run_changed ws st j zero k a b h = absurd (omega arith)
  run_changed ws st j (suc d) k a b h =
      let next = change_bit f ws st j in
      below_or_not j k (λ l. run_changed next st (suc j) d k l (omega arith) (rw (one_length f ws st j) h))
      (λ l.
      let same : j ≡ k = omega arith in
      rw (← same)
      (bit_kept next st (suc j) d (st + j / 64) (j % 64) (λ i u x e q. omega arith) ∙ one_changed ws st j (omega arith)))

-- ---- in the terms of is_clear
module _ (ws : List ℕ) (st j d : ℕ) where
  pub set_not_clear : (k : ℕ) → j ≤ k → k < j + d → st + k / 64 < length ws → is_clear (set_bits ws st j d) st k ≡ false
  unfolding is_clear
  set_not_clear k a b h = rw (run_changed setting ws st j d k a b h)

  pub cleared_clear : (k : ℕ) → j ≤ k → k < j + d → is_clear (clear_bits ws st j d) st k ≡ true
  unfolding is_clear
  cleared_clear k a b =
      below_or_not (st + k / 64) (length ws) (λ h. rw (run_changed clearing ws st j d k a b h))
      (λ h. clear_out (clear_bits ws st j d) st k (rw (change_length clear_in ws st j d) h))

  module _ {f : ℕ → ℕ → ℕ} {v : ℕ} (ch : Change f v) where
    -- a bit of this bitmap or of another, from word st' on, that is no bit of the run
    pub clear_kept : (st' k : ℕ) → NoBit st j d (st' + k / 64) (k % 64) → is_clear (change_bits f ws st j d) st' k ≡ is_clear ws st' k
    unfolding is_clear
    clear_kept st' k away = ap (λ (x : ℕ). eqb x 0) (bit_kept ch ws st j d (st' + k / 64) (k % 64) away)

    -- a bit of this bitmap outside the run
    pub clear_outside : (k : ℕ) → (j ≤ k → k < j + d → ⊥) → is_clear (change_bits f ws st j d) st k ≡ is_clear ws st k
    clear_outside k away = clear_kept st k (λ i a b e q. away (omega arith) (omega arith))
