-- Runs of bits, walked by words as the code does. Assumes nothing.
--     change_length, change_none, change_split, change_shift    a change keeps the length; of no bits; in two parts; from another word on
--     change_out, change_at      past the words' end; from the word on that holds the first bit
--     change_word, change_turn   within one word; a turn of the code's loop
--     clear_out                  past the words' end a bit is clear
use Prim.Native.Nat.{ℕ, zero, suc, ◌+◌, ◌-◌, ◌*◌, ◌/◌, ◌%◌, ◌≤◌, ◌<◌, min}
use native.Mathlib.Nat.{add-zero, add-suc, suc-add, zero-add, zero-div}
use native.Mathlib.Omega.{arith}
use mathlib.Core.Path.{◌≡◌, refl, sym, ap, ◌∙◌}
use mathlib.Core.Bool.{true}
use mathlib.Core.List.{List}
use lib.ListN.{length, get_or, set, length-set, get_or-eq_default}
use lib.Seq.{set_out, set-get_or, set-set, get_or-set_same}
use Rattle.search.proofs.Bools.{below_or_not}
use Rattle.bitmap.specs.Bits.{is_clear, change_bit, change_bits}
use Rattle.bitmap.specs.Steps.Words.{change_in}

-- ---- how changes go together, for any f
module _ (f : ℕ → ℕ → ℕ) where
  pub one_length : (ws : List ℕ) (st j : ℕ) → length (change_bit f ws st j) ≡ length ws
  unfolding change_bit
  one_length ws st j = simp length-set

  pub change_length : (ws : List ℕ) (st j d : ℕ) → length (change_bits f ws st j d) ≡ length ws
  unfolding change_bits
  change_length ws st j zero = refl
  change_length ws st j (suc d) = change_length (change_bit f ws st j) st (suc j) d ∙ one_length ws st j

  pub change_none : (ws : List ℕ) (st j : ℕ) → change_bits f ws st j 0 ≡ ws
  unfolding change_bits
  change_none ws st j = refl

  pub change_split : (ws : List ℕ) (st j d e : ℕ) → change_bits f ws st j (d + e) ≡ change_bits f (change_bits f ws st j d) st (j + d) e
  unfolding change_bits
  change_split ws st j zero e = rw (zero-add e, add-zero j)
  change_split ws st j (suc d) e = rw (suc-add d e, add-suc j d, ← suc-add j d) (change_split (change_bit f ws st j) st (suc j) d e)

  -- q words on, and 64 bits fewer for each
  pub change_shift : (ws : List ℕ) (st q s d : ℕ) → change_bits f ws st (64 * q + s) d ≡ change_bits f ws (st + q) s d
  unfolding change_bits change_bit
  change_shift ws st q s zero = refl
  change_shift ws st q s (suc d) =
      let word : st + (64 * q + s) / 64 ≡ st + q + s / 64 = omega arith in
      let bit : (64 * q + s) % 64 ≡ s % 64 = omega arith in
      rw (word, bit, ← add-suc (64 * q) s) (change_shift (change_bit f ws (st + q) s) st q (suc s) d)

  -- past the words' end there is nothing to change
  pub change_out : (ws : List ℕ) (st j d : ℕ) → length ws ≤ st + j / 64 → change_bits f ws st j d ≡ ws
  unfolding change_bits change_bit
  change_out ws st j zero h = refl
  change_out ws st j (suc d) h =
      let same = set_out ws (st + j / 64) (f (get_or ws (st + j / 64) 0) (j % 64)) h in
      rw same (change_out ws st (suc j) d (omega arith))

  -- a run from the word on that holds its first bit, or from one past the words' end
  pub change_at : (ws : List ℕ) (st j d at most : ℕ) → at ≡ min (st + j / 64) most → length ws ≤ most
      → change_bits f ws st j d ≡ change_bits f ws at (j % 64) d
  change_at ws st j d at most e h =
      below_or_not at (length ws)
      (λ inside.
      let place : j ≡ 64 * (j / 64) + j % 64 = omega arith in
      let here : st + j / 64 ≡ at = omega arith in
      ap (λ (x : ℕ). change_bits f ws st x d) place ∙ change_shift ws st (j / 64) (j % 64) d ∙ ap (λ (x : ℕ). change_bits f ws x (j % 64) d) here)
      (λ out. change_out ws st j d (omega arith) ∙ sym (change_out ws at (j % 64) d (omega arith)))

  -- within one word
  pub change_word : (ws : List ℕ) (at s d : ℕ) → at < length ws → s + d ≤ 64 → change_bits f ws at s d ≡ set ws at (change_in f (get_or ws at 0) s d)
  unfolding change_bits change_bit change_in
  change_word ws at s zero h l = sym (set-get_or ws at 0)
  change_word ws at s (suc d) h l =
      let word : at + s / 64 ≡ at = omega arith in
      let bit : s % 64 ≡ s = omega arith in
      let w = f (get_or ws at 0) s in
      let long : at < length (set ws at w) = simp length-set h in
      rw (word, bit)
      (change_word (set ws at w) at (suc s) d long (omega arith)
      ∙ set-set ws at w (change_in f (get_or (set ws at w) at 0) (suc s) d)
      ∙ ap (λ (x : ℕ). set ws at (change_in f x (suc s) d)) (get_or-set_same ws at w 0 h))

  -- a turn of the code's loop: the p bits of this word, and the rest from the next word's first bit on
  pub change_turn : (ws : List ℕ) (at s n p : ℕ) → at < length ws → s < 64 → p ≡ min n (64 - s)
      → change_bits f ws at s n ≡ change_bits f (set ws at (change_in f (get_or ws at 0) s p)) (at + 1) 0 (n - p)
  change_turn ws at s n p h l e =
      let next = set ws at (change_in f (get_or ws at 0) s p) in
      let sum : n ≡ p + (n - p) = omega arith in
      ap (change_bits f ws at s) sum ∙ change_split ws at s p (n - p)
      ∙ ap (λ (x : List ℕ). change_bits f x at (s + p) (n - p)) (change_word ws at s p h (omega arith))
      ∙ below_or_not p n
      (λ more.
      let end : s + p ≡ 64 * 1 + 0 = omega arith in
      ap (λ (x : ℕ). change_bits f next at x (n - p)) end ∙ change_shift next at 1 0 (n - p))
      (λ all.
      let none : n - p ≡ 0 = omega arith in
      rw none (change_none next at (s + p) ∙ sym (change_none next (at + 1) 0)))

-- ---- past the words' end a bit is clear
pub clear_out : (ws : List ℕ) (st k : ℕ) → length ws ≤ st + k / 64 → is_clear ws st k ≡ true
unfolding is_clear
clear_out ws st k h = simp (get_or-eq_default ws 0 h, zero-div)
