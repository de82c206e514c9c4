-- The laws of `fill`: the d entries from i on become v, and what lies past the end is left out. Assumes nothing.
--     length_fill                        the length stays
--     get_d_fill_in, -below, -above       an entry of the range is v; one before it or after it stays
--     fill_none, fill_out                nothing to fill; a range past the end
--     fill_next                          a loop at i that goes up to n
use Prim.Native.Nat.{ℕ, zero, suc, ◌+◌, ◌-◌, ◌≤◌, ◌<◌, min}
use native.Mathlib.Omega.{arith}
use native.Mathlib.Numerals.{add-one}
use mathlib.Core.Path.{◌≡◌, refl, sym, ap, ◌∙◌}
use mathlib.Core.List.{List}
use lib.ListN.{length, get_or, set, length-set}
use lib.Seq.{set_out, get_or-set_same, get_or-set_other}
use Rattle.search.proofs.Bools.{below_or_not}
use Rattle.frames.specs.Tables.{fill}

module _ {A : Type 0} (v : A) where
  pub fill_none : (l : List A) (i : ℕ) → fill l i 0 v ≡ l
  unfolding fill
  fill_none l i = refl

  pub fill_suc : (l : List A) (i d : ℕ) → fill l i (suc d) v ≡ fill (set l i v) (suc i) d v
  unfolding fill
  fill_suc l i d = refl

  pub length_fill : (l : List A) (i d : ℕ) → length (fill l i d v) ≡ length l
  length_fill l i zero = ap length (fill_none l i)
  length_fill l i (suc d) = ap length (fill_suc l i d) ∙ length_fill (set l i v) (suc i) d ∙ length-set l i v

  pub fill_out : (l : List A) (i d : ℕ) → length l ≤ i → fill l i d v ≡ l
  fill_out l i zero h = fill_none l i
  fill_out l i (suc d) h =
      fill_suc l i d ∙
      ap (λ (k : List A). fill k (suc i) d v) (set_out l i v h) ∙ fill_out l (suc i) d (omega arith)

  -- ---- a loop at i that goes up to n
  pub fill_next : (l : List A) (i n : ℕ) → i < n → fill l i (n - i) v ≡ fill (set l i v) (i + 1) (n - (i + 1)) v
  fill_next l i n h =
      let e : n - i ≡ suc (n - (i + 1)) = omega arith in
      ap (λ (d : ℕ). fill l i d v) e ∙ fill_suc l i (n - (i + 1)) ∙ ap (λ (k : ℕ). fill (set l i v) k (n - (i + 1)) v) (sym (add-one i))

-- ---- the entries of a list of numbers
module _ (v : ℕ) where
  pub get_d_fill_below : (l : List ℕ) (i d k : ℕ) → k < i → get_or (fill l i d v) k 0 ≡ get_or l k 0
  get_d_fill_below l i zero k h = ap (λ (m : List ℕ). get_or m k 0) (fill_none v l i)
  get_d_fill_below l i (suc d) k h =
      ap (λ (m : List ℕ). get_or m k 0) (fill_suc v l i d) ∙
      get_d_fill_below (set l i v) (suc i) d k (omega arith) ∙ get_or-set_other l i k v 0 (λ e. omega arith)

  pub get_d_fill_above : (l : List ℕ) (i d k : ℕ) → i + d ≤ k → get_or (fill l i d v) k 0 ≡ get_or l k 0
  get_d_fill_above l i zero k h = ap (λ (m : List ℕ). get_or m k 0) (fill_none v l i)
  get_d_fill_above l i (suc d) k h =
      ap (λ (m : List ℕ). get_or m k 0) (fill_suc v l i d) ∙
      get_d_fill_above (set l i v) (suc i) d k (omega arith) ∙ get_or-set_other l i k v 0 (λ e. omega arith)

  pub get_d_fill_in : (l : List ℕ) (i d k : ℕ) → i ≤ k → k < i + d → k < length l → get_or (fill l i d v) k 0 ≡ v
  get_d_fill_in l i zero k a b h = absurd (omega arith)
  get_d_fill_in l i (suc d) k a b h =
      ap (λ (m : List ℕ). get_or m k 0) (fill_suc v l i d) ∙
      below_or_not i k (λ w. get_d_fill_in (set l i v) (suc i) d k w (omega arith) (omega (arith, length-set l i v)))
      (λ w.
      let e : k ≡ i = omega arith in
      get_d_fill_below (set l i v) (suc i) d k (omega arith) ∙
      ap (λ (m : ℕ). get_or (set l i v) m 0) e ∙ get_or-set_same l i v 0 (omega arith))

-- What holds at the head of a loop that fills `count` entries of `l₀` from `from` on, one a turn: `l` is the list now, `i` the next place.
pub record Filling {A : Type 0} (l₀ : List A) (from count : ℕ) (v : A) (l : List A) (i : ℕ) : Type 0 where
  pub low : from ≤ i
  pub same : length l ≡ length l₀
  pub rest : fill l₀ from count v ≡ fill l i ((from + count) - i) v

pub filling_turn : {A : Type 0} {l₀ : List A} {from count : ℕ} {v : A} {l : List A} {i : ℕ} → Filling l₀ from count v l i → i < min (from + count) (length l₀) → Filling l₀ from count v (set l i v) (i + 1)
filling_turn {A} {l₀} {from} {count} {v} {l} {i} f h =
    record {
      low = omega (arith, f.low);
      same = length-set l i v ∙ f.same;
      rest = f.rest ∙ fill_next v l i (from + count) (omega arith);
    }

pub filling_end : {A : Type 0} {l₀ : List A} {from count : ℕ} {v : A} {l : List A} {i : ℕ} → Filling l₀ from count v l i → min (from + count) (length l₀) ≤ i → l ≡ fill l₀ from count v
filling_end {A} {l₀} {from} {count} {v} {l} {i} f h =
    sym
    (f.rest ∙
    below_or_not i (from + count) (λ w. fill_out v l i ((from + count) - i) (omega (arith, f.same)))
    (λ w.
    let e : (from + count) - i ≡ 0 = omega arith in
    ap (λ (d : ℕ). fill l i d v) e ∙ fill_none v l i))
