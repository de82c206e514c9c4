-- The searches of document 01: "the lowest such that", "the highest such that", "each", "some", "how many" and "the longest row", over any test.
-- A range is its first number i and its width d: the numbers i, i + 1, .., i + d - 1.
use Rattle.std.specs.Prelude.{ℕ, zero, suc, ◌+◌, ◌-◌, ◌≤◌, ◌<◌, max, ◌≡◌, Bool, true, false, not, ltb, if◌then◌else◌}

-- the lowest number of the range that passes; the range's end, i + d, where none does
unfoldable pub lowest_from : (ℕ → Bool) → ℕ → ℕ → ℕ
lowest_from p i zero = i
lowest_from p i (suc d) = elim (p i) [ true ↦ i | false ↦ lowest_from p (suc i) d ]

-- the lowest number below n that passes; n where none does
unfoldable pub lowest : (ℕ → Bool) → ℕ → ℕ
lowest p n = lowest_from p 0 n

-- some number of the range passes
unfoldable pub some : (ℕ → Bool) → ℕ → ℕ → Bool
some p i d = ltb (lowest_from p i d) (i + d)

-- each number of the range passes: none fails
unfoldable pub every : (ℕ → Bool) → ℕ → ℕ → Bool
every p i d = not (some (λ k. not (p k)) i d)

-- how many numbers of the range pass
unfoldable pub how_many : (ℕ → Bool) → ℕ → ℕ → ℕ
how_many p i zero = 0
how_many p i (suc d) = elim (p i) [ true ↦ suc (how_many p (suc i) d) | false ↦ how_many p (suc i) d ]

-- the k-th number of the range, counted down from its last
abbrev pub from_top : ℕ → ℕ → ℕ → ℕ
from_top i d k = i + (d - suc k)

-- the highest number of the range that passes; the range's end, i + d, where none does: the lowest distance from the top
unfoldable pub highest_from : (ℕ → Bool) → ℕ → ℕ → ℕ
highest_from p i d =
    let k = lowest (λ k. p (from_top i d k)) d in
    if ltb k d then from_top i d k else i + d

-- how many numbers of the range pass in a row, from its first on
unfoldable pub stretch : (ℕ → Bool) → ℕ → ℕ → ℕ
stretch p i d = lowest (λ k. not (p (i + k))) d

-- the longest row of numbers of the range that pass: that which begins at its first number, or the longest of the rest
unfoldable pub longest : (ℕ → Bool) → ℕ → ℕ → ℕ
longest p i zero = 0
longest p i (suc d) = max (stretch p i (suc d)) (longest p (suc i) d)

-- n numbers of the range pass in a row, from `at` on
pub record Row (p : ℕ → Bool) (i d n : ℕ) : Type 0 where
  pub at : ℕ
  pub low : i ≤ at
  pub high : at + n ≤ i + d
  pub all : (k : ℕ) → at ≤ k → k < at + n → p k ≡ true

-- what "the longest row" means: n numbers of the range pass in a row, and no more do anywhere in it
pub record Longest (p : ℕ → Bool) (i d n : ℕ) : Type 0 where
  pub found : Row p i d n
  pub most : (c : ℕ) → Row p i d c → c ≤ n
