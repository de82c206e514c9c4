-- The laws of a sum over the first areas, and how large the sums are where the areas are bounded. Assumes nothing.
--     sum_none, sum_suc, sum_next       over no areas; over one area more
--     sum_most                          at most as many times the most that an area gives
--     words_most                        an area has at most as many bitmap words as frames
--     total_most, free_most             so for the frames of all areas, and for those that are not granted
--     word_most                         and for the bitmap words before an area
use Prim.Native.Nat.{ℕ, zero, suc, ◌+◌, ◌*◌, ◌≤◌, ◌<◌}
use native.Mathlib.Nat.{suc-mul, div-le_self}
use native.Mathlib.Numerals.{add-one}
use native.Mathlib.Omega.{arith}
use mathlib.Core.Path.{◌≡◌, refl}
use mathlib.Core.List.{List}
use Rattle.frames.specs.declared.Area.{Area}
use Rattle.frames.specs.Areas.{area_in, per_bit, word_count, first_word}
use Rattle.frames.specs.Tables.{Tables}
use Rattle.frames.proofs.AreaFacts.{first_word_zero, first_word_suc}
use Rattle.rules.specs.declared.Memory.{Memory}
use Rattle.rules.specs.Does.{record_with}
use Rattle.rules.specs.Limits.{most_frames}
use Rattle.rules.specs.Report.{count_of, free_of, sum_over}
use Rattle.report.specs.Steps.Listing.{Bounded}

module _ (f : ℕ → ℕ) where
  pub sum_none : sum_over f 0 ≡ 0
  unfolding sum_over
  sum_none = refl

  pub sum_suc : (n : ℕ) → sum_over f (suc n) ≡ sum_over f n + f n
  unfolding sum_over
  sum_suc n = refl

  pub sum_next : (n : ℕ) → sum_over f (n + 1) ≡ sum_over f n + f n
  sum_next n = rw add-one (sum_suc n)

  pub sum_most : (most n : ℕ) → ((k : ℕ) → k < n → f k ≤ most) → sum_over f n ≤ n * most
  sum_most most zero each = rw sum_none (omega arith)
  sum_most most (suc n) each =
      let before = sum_most most n (λ k h. each k (omega arith)) in
      let here = each n (omega arith) in
      omega (arith, sum_suc n, suc-mul n most)

pub words_most : (a : Area) → word_count a ≤ a.count
words_most a = omega (arith, div-le_self a.count (per_bit a))

word_sum : (areas : List ℕ) (n : ℕ) → first_word areas n ≡ sum_over (λ k. word_count (area_in areas k)) n
word_sum areas zero = rw (first_word_zero, sum_none)
word_sum areas (suc n) = rw (first_word_suc, sum_suc, word_sum areas n)

-- the first n of the areas in use
module _ (memory : Memory) (areas : List ℕ) (b : Bounded memory areas) (n : ℕ) (h : n ≤ memory.declared) where
  pub total_most : sum_over (count_of (record_with memory areas)) n ≤ n * most_frames
  total_most = sum_most _ most_frames n (λ k l. b.counts k (omega arith))

  pub free_most : (t : Tables) → sum_over (free_of (record_with memory areas) t) n ≤ n * most_frames
  free_most t = sum_most _ most_frames n (λ k l. omega (arith, b.counts k (omega arith)))

  pub word_most : first_word areas n ≤ n * most_frames
  word_most =
      rw (word_sum areas n)
      (sum_most _ most_frames n (λ k l. omega (arith, words_most (area_in areas k), b.counts k (omega arith))))
