-- The bits of an area and the frames that they stand for. Assumes nothing.
--     zero_clear, same_word        bits by their words
--     bit_inside       a bit's frames lie in its area
--     one_area         a frame is in one area at the most
--     word_inside, words_apart     a bit's word lies in the bitmap; two areas' bits have different words
--     run_here, run_else           a run of bits of one area is changed: its bits have the value, and no other changed
--     first_in_run, bit_apart      a run of frames on a bit boundary: each of its bits begins in it, and no other bit has a frame of it
use Rattle.std.proofs.Common.{◌≡◌, ℕ, zero, suc, ◌+◌, ◌-◌, ◌*◌, ◌/◌, ◌%◌, ◌^◌, ◌<◌, ◌≤◌, true, eqb, leb, ◌≢◌, List, length, get_or, sym, ap, ◌∙◌, subst, add-zero, mul-le-mul_right, suc-mul, add-mul, div-add-mod', div-mul-le_self, le_of_mul-le-mul_right, arith, pow_pos, eqb-true, leb-true}
use native.Mathlib.Nat.{zero-mod, zero-div}
use lib.Pow.{mod-mod-pow}
use Rattle.search.specs.Search.{every}
use Rattle.search.proofs.Bools.{by_cases, below_or_not, clash, and_right, or_neither}
use Rattle.search.proofs.Ranges.{every_all}
use Rattle.bitmap.specs.Bits.{bit_of, is_clear, change_bits}
use Rattle.frames.specs.declared.Area.{Area}
use Rattle.frames.specs.Units.{bit}
use Rattle.frames.specs.Areas.{end_of, are_disjoint, per_bit, bit_count, first_word, bits_for}
use Rattle.frames.specs.Tables.{Tables}
use Rattle.rules.specs.declared.Record.{Record}
use Rattle.rules.specs.Record.{area_at}
use Rattle.rules.specs.Shape.{area_right, area_fits, shape_right}
use Rattle.rules.specs.DeviceCalls.{bitmap_of, place_of_bit}
use Rattle.rules.proofs.Shapes.{shape_known}
use Rattle.rules.proofs.Ledger.Names.{same_or_not}
use Rattle.rules.proofs.Divisions.{ceiling_le, up_low}
use Rattle.rules.proofs.AreaRight.{AreaFacts, area_facts}
use Rattle.bitmap.proofs.Word.{Change}
use Rattle.bitmap.proofs.Changes.{run_changed, clear_kept}
use Rattle.frames.proofs.AreaFacts.{first_word_suc}

pub per_positive : (a : Area) → 0 < per_bit a
per_positive a = pow_pos a.order_per_bit

-- a word of 0 has each bit clear; bits of the same word are the same
pub zero_clear : (ws : List ℕ) (start j : ℕ) → get_or ws (start + j / 64) 0 ≡ 0 → is_clear ws start j ≡ true
unfolding is_clear
zero_clear ws start j e = ap (λ (w : ℕ). eqb (bit_of w (j % 64)) 0) e ∙ ap (λ (v : ℕ). eqb (v % 2) 0) (zero-div (2 ^ (j % 64)))

pub same_word : (ws vs : List ℕ) (start j : ℕ) → get_or ws (start + j / 64) 0 ≡ get_or vs (start + j / 64) 0 → is_clear ws start j ≡ is_clear vs start j
unfolding is_clear
same_word ws vs start j e = ap (λ (w : ℕ). eqb (bit_of w (j % 64)) 0) e

-- an area is its bits' frames
area_bits : (m : Record) (a : Area) → AreaFacts m a → bit_count a * per_bit a ≡ a.count
area_bits m a f =
    let order = f.order in
    let blocks : a.count % 2 ^ m.memory.block_order ≡ 0 = eqb-true (a.count % 2 ^ m.memory.block_order) 0 f.size in
    let whole : m.memory.block_order ≡ (m.memory.block_order - a.order_per_bit) + a.order_per_bit = omega arith in
    let none : a.count % per_bit a ≡ 0 =
    sym (mod-mod-pow a.count (m.memory.block_order - a.order_per_bit) a.order_per_bit) ∙
    ap (λ (k : ℕ). a.count % 2 ^ k % per_bit a) (sym whole) ∙
    ap (λ (x : ℕ). x % per_bit a) blocks ∙
    zero-mod (per_bit a)
    in
    let parts = div-add-mod' a.count (per_bit a) in
    omega arith

-- a run of frames inside an area, from bit j on, has its bits in the area
pub run_fits : (m : Record) (a : Area) → AreaFacts m a → (j count : ℕ) → j * per_bit a + count ≤ a.count → j + bits_for a count ≤ bit_count a
run_fits m a f j count h =
    let all = area_bits m a f in
    let below : j ≤ bit_count a = le_of_mul-le-mul_right {m = j} {n = bit_count a} {k = per_bit a} (omega arith) (per_positive a) in
    let parts = add-mul j (bit_count a - j) (per_bit a) in
    let whole : (j + (bit_count a - j)) * per_bit a ≡ bit_count a * per_bit a = ap (λ (x : ℕ). x * per_bit a) (let same : j + (bit_count a - j) ≡ bit_count a = omega arith in same) in
    let least = ceiling_le count (per_bit a) (bit_count a - j) (per_positive a) (omega arith) in
    omega arith

-- ---- one bit

pub bit_inside : (a : Area) (j : ℕ) → j < bit_count a → j * per_bit a + per_bit a ≤ a.count
bit_inside a j h =
    let wide : suc j * per_bit a ≤ bit_count a * per_bit a = mul-le-mul_right (per_bit a) h in
    let next = suc-mul j (per_bit a) in
    let fits = div-mul-le_self a.count (per_bit a) in
    omega arith

module _ (m : Record) (t : Tables) (shape : shape_right m t ≡ true) where
  pub place_inside : (i j q : ℕ) → i < m.memory.declared → j < bit_count (area_at m i) → q < (place_of_bit m i (bit j)).0 + per_bit (area_at m i) → q < m.memory.frames
  place_inside i j q h k b =
      let area = area_facts m t shape i h in
      let low = area.low in
      let high = area.high in
      let inside = bit_inside (area_at m i) j k in
      omega arith

  -- ---- two areas

  disjoint : (i k : ℕ) → k < i → i < m.memory.declared → are_disjoint (area_at m k) (area_at m i) ≡ true
  unfolding area_fits
  disjoint i k h b =
      every_all (λ k. are_disjoint (area_at m k) (area_at m i)) 0 i
      (and_right (area_right m.memory (area_at m i)) (every (λ k. are_disjoint (area_at m k) (area_at m i)) 0 i)
      ((shape_known m t shape).areas_fit i b))
      k (omega arith) (omega arith)

  -- a frame that two areas have
  not_both :
      (i k f : ℕ) →
      are_disjoint (area_at m k) (area_at m i) ≡ true →
      (area_at m i).base.0 ≤ f → f < end_of (area_at m i) → (area_at m k).base.0 ≤ f → f < end_of (area_at m k) → ⊥
  not_both i k f e a b c d =
      by_cases (leb (end_of (area_at m k)) (area_at m i).base.0) (λ y. let low = leb-true (end_of (area_at m k)) (area_at m i).base.0 y in omega arith)
      (λ n.
      by_cases (leb (end_of (area_at m i)) (area_at m k).base.0) (λ y. let low = leb-true (end_of (area_at m i)) (area_at m k).base.0 y in omega arith)
      (λ z.
      clash (are_disjoint (area_at m k) (area_at m i)) e
      (or_neither (leb (end_of (area_at m k)) (area_at m i).base.0) (leb (end_of (area_at m i)) (area_at m k).base.0) n z)))

  pub one_area :
      (i k f : ℕ) →
      i < m.memory.declared →
      k < m.memory.declared →
      (area_at m i).base.0 ≤ f → f < end_of (area_at m i) → (area_at m k).base.0 ≤ f → f < end_of (area_at m k) → i ≡ k
  one_area i k f u v a b c d =
      below_or_not k i (λ h. absurd (not_both i k f (disjoint i k h u) a b c d))
      (λ h. below_or_not i k (λ z. absurd (not_both k i f (disjoint k i z v) c d a b)) (λ z. omega arith))

  -- ---- words

  words_grow : (i d : ℕ) → first_word m.areas (suc i) ≤ first_word m.areas (suc (i + d))
  words_grow i zero = rw add-zero (omega arith)
  words_grow i (suc d) =
      let more = words_grow i d in
      let next = first_word_suc m.areas (suc (i + d)) in
      let same : suc (i + suc d) ≡ suc (suc (i + d)) = omega arith in
      rw same (omega arith)

  -- a bit's word comes before the next area's first
  bit_word : (i j : ℕ) → j < bit_count (area_at m i) → bitmap_of m i + j / 64 < first_word m.areas (suc i)
  bit_word i j h = let next = first_word_suc m.areas i in omega arith

  pub word_before : (i k j : ℕ) → i < k → j < bit_count (area_at m i) → bitmap_of m i + j / 64 < bitmap_of m k
  word_before i k j h b =
      let here = bit_word i j b in
      let grow = words_grow i (k - suc i) in
      let same : suc (i + (k - suc i)) ≡ k = omega arith in
      let reach : first_word m.areas (suc i) ≤ first_word m.areas k = rw same at grow in
      omega arith

  pub word_inside : (i j : ℕ) → i < m.memory.declared → j < bit_count (area_at m i) → bitmap_of m i + j / 64 < length t.bitmap
  word_inside i j h b =
      let room = (shape_known m t shape).bitmap_high in
      let before = word_before i m.memory.declared j h b in
      omega arith

  pub words_apart :
      (i k j l : ℕ) → i ≢ k → j < bit_count (area_at m i) → l < bit_count (area_at m k) → bitmap_of m i + j / 64 ≡ bitmap_of m k + l / 64 → ⊥
  words_apart i k j l apart a b e =
      below_or_not i k (λ h. let before = word_before i k j h a in omega arith)
      (λ h. let before = word_before k i l (omega arith) b in omega arith)

-- ---- a run of bits of one area

module _ (m : Record) (t : Tables) (shape : shape_right m t ≡ true) (i j d : ℕ) (declared : i < m.memory.declared) (fits : j + d ≤ bit_count (area_at m i)) where
  module _ (f : ℕ → ℕ → ℕ) (x : ℕ) (c : Change f x) where
    pub run_here : (k : ℕ) → j ≤ k → k < j + d → is_clear (change_bits f t.bitmap (bitmap_of m i) j d) (bitmap_of m i) k ≡ eqb x 0
    unfolding is_clear
    run_here k a b =
        ap (λ (b : ℕ). eqb b 0) (run_changed c t.bitmap (bitmap_of m i) j d k a b (word_inside m t shape i k declared (omega arith)))

    pub run_else :
        (i' k : ℕ) →
        k < bit_count (area_at m i') →
        (i ≡ i' → j ≤ k → k < j + d → ⊥) →
        is_clear (change_bits f t.bitmap (bitmap_of m i) j d) (bitmap_of m i') k ≡ is_clear t.bitmap (bitmap_of m i') k
    run_else i' k b apart =
        clear_kept t.bitmap (bitmap_of m i) j d c (bitmap_of m i') k
        (λ z u v word at.
        same_or_not i i' (λ e. same_area z u v word at e)
        (λ n. words_apart m t shape i i' z k n (omega arith) b word))
      where
        same_area : (z : ℕ) → j ≤ z → z < j + d → bitmap_of m i + z / 64 ≡ bitmap_of m i' + k / 64 → z % 64 ≡ k % 64 → i ≡ i' → ⊥
        same_area z u v p q e =
            let start : bitmap_of m i ≡ bitmap_of m i' = ap (bitmap_of m) e in
            let same : z ≡ k = omega arith in
            apart e (omega arith) (omega arith)

-- a run of frames that starts on bit j
module _ (a : Area) (j count : ℕ) where
  -- each of its bits begins in it
  pub first_in_run : 1 ≤ count → (k : ℕ) → k < j + bits_for a count → k * per_bit a < j * per_bit a + count
  first_in_run some k h =
      let d = per_bit a in
      let positive = per_positive a in
      let wide : suc k * d ≤ (j + bits_for a count) * d = mul-le-mul_right d h in
      let next = suc-mul k d in
      let parts = add-mul j (bits_for a count) d in
      let least = div-mul-le_self (count + (d - 1)) d in
      omega arith

  pub before_run : (k : ℕ) → k < j → k * per_bit a + per_bit a ≤ j * per_bit a
  before_run k h =
      let wide : suc k * per_bit a ≤ j * per_bit a = mul-le-mul_right (per_bit a) h in
      let next = suc-mul k (per_bit a) in
      omega arith

  pub after_run : (k : ℕ) → j + bits_for a count ≤ k → j * per_bit a + count ≤ k * per_bit a
  after_run k h =
      let wide : (j + bits_for a count) * per_bit a ≤ k * per_bit a = mul-le-mul_right (per_bit a) h in
      let parts = add-mul j (bits_for a count) (per_bit a) in
      let holds = up_low count (per_bit a) (per_positive a) in
      omega arith

module _ (m : Record) (t : Tables) (shape : shape_right m t ≡ true) (i j count : ℕ) (declared : i < m.memory.declared) (ends : (area_at m i).base.0 + j * per_bit (area_at m i) + count ≤ end_of (area_at m i)) where
  -- no other bit has a frame of the run
  pub bit_apart :
      (i' k : ℕ) →
      i' < m.memory.declared →
      k < bit_count (area_at m i') →
      (i ≡ i' → j ≤ k → k < j + bits_for (area_at m i) count → ⊥) →
      (q : ℕ) →
      (place_of_bit m i' (bit k)).0 ≤ q →
      q < (place_of_bit m i' (bit k)).0 + per_bit (area_at m i') →
      (place_of_bit m i (bit j)).0 ≤ q → q < (place_of_bit m i (bit j)).0 + count → ⊥
  bit_apart i' k h b apart q u v r₁ r₂ =
      let area = area_facts m t shape i declared in
      let area' = area_facts m t shape i' h in
      let low = area.low in
      let low' = area'.low in
      let inside = bit_inside (area_at m i') k b in
      let same = one_area m t shape i i' (m.memory.base.0 + q) declared h (omega arith) (omega arith) (omega arith) (omega arith) in
      same_area same (subst (λ (z : ℕ). (place_of_bit m z (bit k)).0 ≤ q) (sym same) u) (subst (λ (z : ℕ). q < (place_of_bit m z (bit k)).0 + per_bit (area_at m z)) (sym same) v) low
    where
      same_area : i ≡ i' → (place_of_bit m i (bit k)).0 ≤ q → q < (place_of_bit m i (bit k)).0 + per_bit (area_at m i) → m.memory.base.0 ≤ (area_at m i).base.0 → ⊥
      same_area e u' v' low =
          below_or_not k j (λ c. let before = before_run (area_at m i) j count k c in omega arith)
          (λ c.
          below_or_not k (j + bits_for (area_at m i) count) (λ z. apart e c z)
          (λ z. let beyond = after_run (area_at m i) j count k z in omega arith))
