-- The areas of a right record need few bitmap words, so the sums of them are numbers that fit. Assumes nothing.
--     words_bounded                   areas that fit need at most a word for each frame of memory, each
--     fitting_exact, first_word_exact    so the largest number bounds none of these sums
use Rattle.std.proofs.Common.{◌≡◌, ℕ, zero, suc, ◌*◌, ◌<◌, ◌≤◌, min, true, div-le_self, arith}
use Rattle.frames.specs.declared.Area.{Area}
use Rattle.frames.specs.Units.{most_number}
use Rattle.frames.specs.Areas.{per_bit, word_count, first_word}
use Rattle.frames.specs.Tables.{Tables}
use Rattle.rules.specs.declared.Record.{Record}
use Rattle.rules.specs.Record.{area_at}
use Rattle.rules.specs.Limits.{most_frames, most_areas}
use Rattle.rules.specs.Shape.{memory_right, area_fits, shape_right}
use Rattle.rules.proofs.Shapes.{memory_known, shape_known}
use Rattle.rules.proofs.ShapeFacts.{shape_memory}
use Rattle.rules.proofs.AreaRight.{fits_facts}

words_of : (a : Area) → word_count a ≤ a.count
words_of a = omega (arith, div-le_self a.count (per_bit a))

module _ (m : Record) (right : memory_right m.memory.base.0 m.memory.frames m.memory.block_order ≡ true) where
  pub words_bounded : (i : ℕ) → ((k : ℕ) → k < i → area_fits m k ≡ true) → first_word m.areas i ≤ i * most_frames
  unfolding first_word
  words_bounded zero fit = omega arith
  words_bounded (suc i) fit =
      let a = fits_facts m i (fit i (omega arith)) in
      let before = words_bounded i (λ k h. fit k (omega arith)) in
      let few = (memory_known m.memory.base.0 m.memory.frames m.memory.block_order right).frames_high in
      omega (arith, words_of (area_at m i), a.low, a.high)

  pub fitting_exact : (i : ℕ) → i ≤ most_areas → ((k : ℕ) → k < i → area_fits m k ≡ true) → min (first_word m.areas i) most_number ≡ first_word m.areas i
  fitting_exact i h fit = omega (arith, words_bounded i fit)

pub first_word_exact : (m : Record) (t : Tables) → shape_right m t ≡ true → (i : ℕ) → i ≤ m.memory.declared →
    min (first_word m.areas i) most_number ≡ first_word m.areas i
first_word_exact m t e i h =
    let s = shape_known m t e in
    fitting_exact m (shape_memory m t e) i (omega (arith, s.declared_high)) (λ k l. s.areas_fit k (omega arith))
