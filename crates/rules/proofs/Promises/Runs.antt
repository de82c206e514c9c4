-- A run of frames in an area: where it lies, and what marking it leaves. Assumes nothing.
--     first_word_le    its bitmap words come before the areas' end
--     in_run_or_not    a place is in a run or not
--     marked-*         the marks and words after a run is marked
use Rattle.std.proofs.Common.{◌≡◌, ℕ, zero, suc, ◌+◌, ◌-◌, ◌*◌, ◌<◌, ◌≤◌, true, ◌≢◌, length, set, ap, ◌∙◌, subst, le_refl, mul-le-mul_right, div-mul-le_self, arith, length-set, get_or-set_other, get_or-set_same, pow_pos}
use Rattle.search.proofs.Bools.{below_or_not}
use Rattle.frames.specs.declared.Area.{Area}
use Rattle.frames.specs.Units.{place, bit}
use Rattle.frames.specs.Marks.{mark_of, head, later}
use Rattle.frames.specs.Areas.{per_bit, bit_count, bits_for, word_count, first_word}
use Rattle.frames.specs.Tables.{Tables, mark_at, word_at}
use Rattle.frames.proofs.AreaFacts.{first_word_suc, holds_yes}
use Rattle.frames.proofs.FillFacts.{get_d_fill_below, get_d_fill_above, get_d_fill_in}
use Rattle.rules.specs.declared.Record.{Record}
use Rattle.rules.specs.Record.{area_at}
use Rattle.rules.specs.Targets.{in_area_at}
use Rattle.rules.specs.DeviceCalls.{bitmap_of, place_of_bit, mark_run}
use Rattle.rules.proofs.Divisions.{le_ceiling}
use Rattle.rules.proofs.Shapes.{Shape}
use Rattle.rules.proofs.AreaRight.{area_known}

-- the words of area i end where those of a later area begin, or before
pub first_word_le : (m : Record) (i d : ℕ) → first_word m.areas i + word_count (area_at m i) ≤ first_word m.areas (suc i + d)
first_word_le m i zero = let e : suc i + 0 ≡ suc i = omega arith in rw e (rw (first_word_suc m.areas i) (le_refl _))
first_word_le m i (suc d) =
    let e : suc i + suc d ≡ suc (suc i + d) = omega arith in
    rw e (omega (arith, first_word_le m i d, first_word_suc m.areas (suc i + d)))

pub words_inside : (m : Record) (t : Tables) → Shape m t → (i : ℕ) → i < m.memory.declared → bitmap_of m i + word_count (area_at m i) ≤ length t.bitmap
words_inside m t s i h =
    let e : suc i + (m.memory.declared - suc i) ≡ m.memory.declared = omega arith in
    omega (arith, first_word_le m i (m.memory.declared - suc i), ap (first_word m.areas) e, s.bitmap_high)

-- the bits of a run are whole, and its frames lie in the area
module _ (m : Record) (t : Tables) (s : Shape m t) (i count j : ℕ) (known : i < m.memory.declared) (inside : j + bits_for (area_at m i) count ≤ bit_count (area_at m i)) where
  abbrev area : Area
  area = area_at m i

  abbrev at : ℕ
  at = (place_of_bit m i (bit j)).0

  pub frames_inside : j * per_bit area + bits_for area count * per_bit area ≤ area.count
  frames_inside =
      let a : (j + bits_for area count) * per_bit area ≤ bit_count area * per_bit area = mul-le-mul_right (per_bit area) inside in
      let b : bit_count area * per_bit area ≤ area.count = div-mul-le_self area.count (per_bit area) in
      omega arith

  pub count_le : count ≤ bits_for area count * per_bit area
  count_le = le_ceiling count (per_bit area) (bits_for area count) (pow_pos area.order_per_bit) (le_refl _)

  pub at_is : m.memory.base.0 + at ≡ area.base.0 + j * per_bit area
  at_is = omega (arith, (area_known m t s i known).low)

  pub run_inside : at + bits_for area count * per_bit area ≤ m.memory.frames
  run_inside = omega (arith, frames_inside, at_is, (area_known m t s i known).high)

  pub run_in_area : (q : ℕ) → at ≤ q → q < at + bits_for area count * per_bit area → in_area_at m i (place q) ≡ true
  run_in_area q a b = holds_yes area (m.memory.base.0 + q) (omega (arith, at_is)) (omega (arith, at_is, frames_inside))

-- ---- marking a run

pub in_run_or_not {ℓ} : {P : Type ℓ} (q p count : ℕ) → (p ≤ q → q < p + count → P) → (q < p → P) → (p + count ≤ q → P) → P
in_run_or_not q p count in_it below above =
    below_or_not q p below (λ a. below_or_not q (p + count) (λ b. in_it a b) above)

module _ (t : Tables) (p count : ℕ) (some : 0 < count) (marks : p + count ≤ length t.marks) (words : p + count ≤ length t.words) where
  abbrev done : Tables
  done = mark_run t (place p) count

  pub marked_first : mark_at done (place p) ≡ mark_of count head
  marked_first =
      get_d_fill_below (mark_of 0 later) (set t.marks p (mark_of count head)) (suc p) (count - 1) p (omega arith) ∙
      get_or-set_same t.marks p (mark_of count head) 0 (omega arith)

  pub marked_rest : (q : ℕ) → p < q → q < p + count → mark_at done (place q) ≡ mark_of 0 later
  marked_rest q a b =
      get_d_fill_in (mark_of 0 later) (set t.marks p (mark_of count head)) (suc p) (count - 1) q a (omega arith) (simp length-set (omega arith))

  pub marked_word : (q : ℕ) → p ≤ q → q < p + count → word_at done (place q) ≡ 0
  marked_word q a b =
      below_or_not p q
      (λ h. get_d_fill_in 0 (set t.words p 0) (suc p) (count - 1) q h (omega arith) (simp length-set (omega arith)))
      (λ h.
      subst (λ (k : ℕ). word_at done (place k) ≡ 0) (omega arith)
      (get_d_fill_below 0 (set t.words p 0) (suc p) (count - 1) p (omega arith) ∙ get_or-set_same t.words p 0 0 (omega arith)))

  pub marked_other : (q : ℕ) → (p ≤ q → q < p + count → ⊥) → (mark_at done (place q) ≡ mark_at t (place q)) × (word_at done (place q) ≡ word_at t (place q))
  marked_other q out =
      in_run_or_not q p count (λ a b. absurd (out a b))
      (λ h.
      let n : q ≢ p = λ e. absurd (omega arith) in (
        get_d_fill_below (mark_of 0 later) (set t.marks p (mark_of count head)) (suc p) (count - 1) q (omega arith) ∙ get_or-set_other t.marks p q (mark_of count head) 0 n,
        get_d_fill_below 0 (set t.words p 0) (suc p) (count - 1) q (omega arith) ∙ get_or-set_other t.words p q 0 0 n,
      ))
      (λ h.
      let n : q ≢ p = λ e. absurd (omega arith) in (
        get_d_fill_above (mark_of 0 later) (set t.marks p (mark_of count head)) (suc p) (count - 1) q (omega arith) ∙ get_or-set_other t.marks p q (mark_of count head) 0 n,
        get_d_fill_above 0 (set t.words p 0) (suc p) (count - 1) q (omega arith) ∙ get_or-set_other t.words p q 0 0 n,
      ))
