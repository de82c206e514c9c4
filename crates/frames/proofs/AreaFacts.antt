-- What the code's comparisons say of an area. Assumes nothing.
use Prim.Native.Nat.{ℕ, zero, suc, ◌+◌, ◌-◌, ◌*◌, ◌/◌, ◌%◌, ◌^◌, ◌≤◌, ◌<◌, min}
use native.Mathlib.Omega.{arith}
use native.Mathlib.Nat.{div-add-mod', mod-lt, mul-add-div_right, add-div_left, div-eq_of_lt, one-mul}
use native.Mathlib.Numerals.{add-one}
use mathlib.Core.Path.{◌≡◌, refl, sym, ap, ◌∙◌}
use mathlib.Core.Bool.{true, false}
use mathlib.Core.List.{List}
use lib.Dec.{leb, ltb}
use lib.ListN.{length}
use lib.Pow.{shl_exact}
use borrow.Author.Tests.{leb-true, ltb-true, lt-ltb, le-ltb, le-leb, lt-leb}
use Rattle.search.proofs.Bools.{below_or_not, and_left, and_right, and_both, and_false_right}
use Rattle.search.proofs.Ranges.{some_hit, none_some}
use Rattle.frames.specs.declared.Area.{Area}
use Rattle.frames.specs.declared.Frame.{Frame}
use Rattle.frames.specs.Units.{frame}
use Rattle.frames.specs.Orders.{in_use}
use Rattle.frames.specs.Areas.{ceiling, holds_frame, end_of, area_numbers, area_in, no_area, in_areas, word_count, first_word}
use Rattle.frames.proofs.AreaNumbers.{area_past}

-- ---- one area
module _ (a : Area) (f : ℕ) where
  pub holds_yes : a.base.0 ≤ f → f < end_of a → holds_frame a (frame f) ≡ true
  holds_yes h k = and_both (leb a.base.0 f) (ltb f (end_of a)) (le-leb a.base.0 f h) (lt-ltb f (end_of a) k)

  pub holds_low : holds_frame a (frame f) ≡ true → a.base.0 ≤ f
  holds_low e = leb-true a.base.0 f (and_left (leb a.base.0 f) (ltb f (end_of a)) e)

  pub holds_high : holds_frame a (frame f) ≡ true → f < end_of a
  holds_high e = ltb-true f (end_of a) (and_right (leb a.base.0 f) (ltb f (end_of a)) e)

  pub holds_below : f < a.base.0 → holds_frame a (frame f) ≡ false
  holds_below h = rw (lt-leb a.base.0 f h)

  pub holds_above : end_of a ≤ f → holds_frame a (frame f) ≡ false
  holds_above h = rw (le-ltb f (end_of a) h) (and_false_right (leb a.base.0 f))

-- ---- the first n areas of a record's numbers
module _ (areas : List ℕ) (n : ℕ) (f : Frame) where
  pub in_area : (i : ℕ) → i < n → holds_frame (area_in areas i) f ≡ true → in_areas areas n f ≡ true
  unfolding in_areas
  in_area i h e = some_hit (λ i. holds_frame (area_in areas i) f) 0 n i (omega arith) (omega arith) e

  -- past the end of the numbers there is none
  pub out_of_areas : ((i : ℕ) → i < in_use areas n → holds_frame (area_in areas i) f ≡ false) → in_areas areas n f ≡ false
  unfolding in_areas
  out_of_areas none =
      none_some (λ i. holds_frame (area_in areas i) f) 0 n
      (λ i a b.
      below_or_not i (in_use areas n) (none i)
      (λ h. ap (λ (a : Area). holds_frame a f) (area_past areas i (omega arith)) ∙ holds_above no_area f.0 (omega arith)))

-- ---- rounding up
pub ceiling_is : (x d : ℕ) → 0 < d → x / d + min 1 (x % d) ≡ ceiling x d
ceiling_is x d h =
    let q = x / d in
    let r = x % d in
    let whole = div-add-mod' x d in
    sym
    (below_or_not 0 r
    (λ some.
    let s : x + (d - 1) ≡ q * d + (d + (r - 1)) = omega (arith, whole) in
    let t : (r - 1) / d ≡ 0 = div-eq_of_lt (omega (arith, mod-lt x h)) in
    ap (λ (y : ℕ). y / d) s ∙ mul-add-div_right h q (d + (r - 1)) ∙ omega (arith, add-div_left (r - 1) h))
    (λ none.
    let s : x + (d - 1) ≡ q * d + (d - 1) = omega (arith, whole) in
    ap (λ (y : ℕ). y / d) s ∙ mul-add-div_right h q (d - 1) ∙ ap (λ (y : ℕ). q + y) (div-eq_of_lt (omega arith)) ∙ omega arith))

-- fewer than d, but not none, round up to 1
pub ceiling_one : (x d : ℕ) → 0 < x → x < d → ceiling x d ≡ 1
ceiling_one x d a b =
    let s : x + (d - 1) ≡ d + (x - 1) = omega arith in
    let h : 0 < d = omega arith in
    let t : (x - 1) / d ≡ 0 = div-eq_of_lt (omega arith) in
    ap (λ (y : ℕ). y / d) s ∙ omega (arith, add-div_left (x - 1) h)

pub ceiling_zero : (d : ℕ) → 0 < d → ceiling 0 d ≡ 0
ceiling_zero d h = div-eq_of_lt (omega arith)

-- ---- powers of two
pub one_shl : (k : ℕ) → k < 64 → 1 * 2 ^ k % 2 ^ 64 ≡ 2 ^ k
one_shl k h = shl_exact 1 k 64 (omega arith) (omega arith) ∙ one-mul (2 ^ k)

-- ---- the first bitmap word of an area
module _ (areas : List ℕ) where
  pub first_word_zero : first_word areas 0 ≡ 0
  unfolding first_word
  first_word_zero = refl

  pub first_word_suc : (k : ℕ) → first_word areas (suc k) ≡ first_word areas k + word_count (area_in areas k)
  unfolding first_word
  first_word_suc k = refl

  pub first_word_next : (k : ℕ) → first_word areas (k + 1) ≡ first_word areas k + word_count (area_in areas k)
  first_word_next k = rw add-one (first_word_suc k)

  -- past the end of the numbers there is none, and so no word
  first_word_past : (k d : ℕ) → length areas ≤ area_numbers * k → first_word areas (k + d) ≡ first_word areas k
  first_word_past k zero h = ap (first_word areas) (omega arith)
  first_word_past k (suc d) h =
      let s : k + suc d ≡ suc (k + d) = omega arith in
      ap (first_word areas) s ∙
      first_word_suc (k + d) ∙
      ap (λ (a : Area). first_word areas (k + d) + word_count a) (area_past areas (k + d) (omega arith)) ∙ omega (arith, first_word_past k d h)

  pub first_word_clip : (i k : ℕ) → k ≡ in_use areas i → first_word areas k ≡ first_word areas i
  first_word_clip i k h =
      below_or_not k i
      (λ w.
      let e : k + (i - k) ≡ i = omega arith in
      sym (first_word_past k (i - k) (omega arith)) ∙ ap (first_word areas) e)
      (λ w. ap (first_word areas) (omega arith))
