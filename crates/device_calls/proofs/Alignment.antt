-- Bits whose first frames are multiples of a power of two: where the first stands, and how far apart they are. Assumes nothing.
--     Steps, steps_known      the distance between them
--     aligned_times, aligned_between    so many distances on stand others; none stands between two
--     aligned_is                       so each is some distances behind the first
--     first_aligned                    the first of all
use Prim.Native.Nat.{ℕ, zero, suc, ◌+◌, ◌-◌, ◌*◌, ◌/◌, ◌%◌, ◌^◌, ◌≤◌, ◌<◌}
use native.Mathlib.Omega.{arith}
use native.Mathlib.Nat.{add-mul, mul-lt-mul_of_pos_right, mul-pos, mod-lt, zero-div, mod_self, mod-add-mod, mod-eq_of_lt, mul-mod_left, zero-mod, div-add-mod', div-le_self, mul-div_cancel, mod-mod_of_dvd, dvd_of_mod-eq-zero, one-mul, zero-mul, suc-mul}
use mathlib.Core.Path.{◌≡◌, sym, ap, ◌∙◌}
use mathlib.Core.Bool.{true, false}
use lib.Arith.{digits_mod, mod-mul}
use lib.Pow.{pow-add, pow_pos, pow_mono}
use borrow.Author.Tests.{eq-eqb, ne_eqb, eqb-true}
use Rattle.std.specs.Int.{div_ceil}
use Rattle.search.proofs.Bools.{below_or_not, clash}
use Rattle.frames.specs.declared.Area.{Area}
use Rattle.rules.specs.Limits.{most_align_order}
use Rattle.device_calls.specs.Steps.DeviceSteps.{is_aligned, FirstAligned}

-- a multiple of d and a number below d that is not 0
off_multiple : (x r d : ℕ) → x % d ≡ 0 → 0 < r → r < d → ((x + r) % d ≡ 0 → ⊥)
off_multiple x r d e h l z =
    let s : (x + r) % d ≡ r = sym (mod-add-mod x d r) ∙ ap (λ (y : ℕ). (y + r) % d) e ∙ ap (λ (y : ℕ). y % d) (omega arith) ∙ mod-eq_of_lt l in
    absurd (omega arith)

on_multiple : (x r d : ℕ) → x % d ≡ 0 → r % d ≡ 0 → (x + r) % d ≡ 0
on_multiple x r d e h = sym (mod-add-mod x d r) ∙ ap (λ (y : ℕ). (y + r) % d) e ∙ ap (λ (y : ℕ). y % d) (omega arith) ∙ h

-- one power of two is a multiple of a lower one
pow_multiple : (i j : ℕ) → i ≤ j → 2 ^ j % 2 ^ i ≡ 0
pow_multiple i j h =
    let s : 2 ^ j ≡ 2 ^ (j - i) * 2 ^ i = ap (λ (k : ℕ). 2 ^ k) (omega arith) ∙ pow-add 2 (j - i) i in
    ap (λ (x : ℕ). x % 2 ^ i) s ∙ mul-mod_left (2 ^ (j - i)) (2 ^ i)

-- a multiple of a power of two is one of each lower power
pub lower_multiple : (x i j : ℕ) → i ≤ j → x % 2 ^ j ≡ 0 → x % 2 ^ i ≡ 0
lower_multiple x i j h e =
    sym (mod-mod_of_dvd (2 ^ i) {b = 2 ^ j} x (dvd_of_mod-eq-zero (2 ^ i) {n = 2 ^ j} (pow_multiple i j h))) ∙ ap (λ (y : ℕ). y % 2 ^ i) e ∙ zero-mod (2 ^ i)

module _ (a : Area) (align : ℕ) where
  abbrev per : ℕ
  per = 2 ^ a.order_per_bit

  -- s bits are a multiple of 2^align frames, and fewer are less than that
  pub record Steps (s : ℕ) : Type 0 where
    pub positive : 0 < s
    pub whole : s * per % 2 ^ align ≡ 0
    pub short : (e : ℕ) → e < s → 0 < e → e * per < 2 ^ align

  split_align : a.order_per_bit < align → 2 ^ (align - a.order_per_bit) * per ≡ 2 ^ align
  split_align h = sym (pow-add 2 (align - a.order_per_bit) a.order_per_bit) ∙ ap (λ (k : ℕ). 2 ^ k) (omega arith)

  pub steps_known : (s : ℕ) → s ≡ 2 ^ (align - a.order_per_bit) → Steps s
  steps_known s e =
      below_or_not a.order_per_bit align
      (λ h.
      let all : s * per ≡ 2 ^ align = ap (λ (x : ℕ). x * per) e ∙ split_align h in
      record {
        positive = omega (arith, e, pow_pos (align - a.order_per_bit));
        whole = ap (λ (x : ℕ). x % 2 ^ align) all ∙ mod_self (2 ^ align);
        short = λ k l z. omega (arith, all, mul-lt-mul_of_pos_right {m = k} {n = s} {k = per} l (pow_pos a.order_per_bit));
      })
      (λ h.
      let none : align - a.order_per_bit ≡ 0 = omega arith in
      let one : s ≡ 1 = e ∙ ap (λ (k : ℕ). 2 ^ k) none in
      record {
        positive = omega arith;
        whole = ap (λ (x : ℕ). x * per % 2 ^ align) one ∙ ap (λ (x : ℕ). x % 2 ^ align) (one-mul per) ∙ pow_multiple align a.order_per_bit h;
        short = λ k l z. absurd (omega arith);
      })

  abbrev first_of : ℕ → ℕ
  first_of j = a.base.0 + j * per

  further : (j e : ℕ) → first_of (j + e) ≡ first_of j + e * per
  further j e = omega (arith, add-mul j e per)

  aligned_next : (s j : ℕ) → Steps s → is_aligned a align j ≡ true → is_aligned a align (j + s) ≡ true
  aligned_next s j k h =
      eq-eqb (first_of (j + s) % 2 ^ align) 0
      (ap (λ (x : ℕ). x % 2 ^ align) (further j s) ∙ on_multiple (first_of j) (s * per) (2 ^ align) (eqb-true (first_of j % 2 ^ align) 0 h) k.whole)

  -- and so are more of them
  pub aligned_times : (s j : ℕ) → Steps s → is_aligned a align j ≡ true → (n : ℕ) → is_aligned a align (j + n * s) ≡ true
  aligned_times s j k h zero = ap (is_aligned a align) (let none : j + 0 * s ≡ j = omega (arith, zero-mul s) in none) ∙ h
  aligned_times s j k h (suc n) =
      ap (is_aligned a align) (let one : j + suc n * s ≡ (j + n * s) + s = omega (arith, suc-mul n s) in one) ∙
      aligned_next s (j + n * s) k (aligned_times s j k h n)

  pub aligned_between : (s j k : ℕ) → Steps s → is_aligned a align j ≡ true → j < k → k < j + s → is_aligned a align k ≡ false
  aligned_between s j k w h l u =
      let e : k ≡ j + (k - j) = omega arith in
      ne_eqb (first_of k % 2 ^ align) 0
      (λ z.
      off_multiple (first_of j) ((k - j) * per) (2 ^ align) (eqb-true (first_of j % 2 ^ align) 0 h)
      (mul-pos {m = k - j} {n = per} (omega arith) (pow_pos a.order_per_bit)) (w.short (k - j) (omega arith) (omega arith))
      (sym (ap (λ (x : ℕ). x % 2 ^ align) (ap first_of e ∙ further j (k - j))) ∙ z))

  -- an aligned bit is some steps behind another that no aligned one comes before
  pub aligned_is : (s j k : ℕ) → Steps s → FirstAligned a align j → is_aligned a align k ≡ true → k ≡ j + (k - j) / s * s
  aligned_is s j k w f h =
      below_or_not k j (λ l. clash (is_aligned a align k) h (f.miss k l))
      (λ l.
      let q = (k - j) / s in
      let rest = div-add-mod' (k - j) s in
      let less : (k - j) % s < s = mod-lt (k - j) w.positive in
      below_or_not (j + q * s) k
      (λ m. clash (is_aligned a align k) h (aligned_between s (j + q * s) k w (aligned_times s j w f.hit q) m (omega arith)))
      (λ m. omega arith))

  -- ---- the first of all
  first_whole : a.base.0 % 2 ^ align ≡ 0 → FirstAligned a align 0
  first_whole e =
      record {
        hit = eq-eqb (first_of 0 % 2 ^ align) 0 (ap (λ (x : ℕ). x % 2 ^ align) (omega (arith, zero-mul per)) ∙ e);
        miss = λ k h. absurd (omega arith);
      }

  module _ (begins : a.base.0 % per ≡ 0) (part : a.base.0 % 2 ^ align ≡ 0 → ⊥) where
    abbrev past : ℕ
    past = a.base.0 % 2 ^ align

    abbrev up : ℕ
    up = (2 ^ align - past) / per

    -- a bit of the area is less than 2^align frames, else the area would begin on a multiple
    higher : a.order_per_bit < align
    higher = below_or_not a.order_per_bit align (λ h. h) (λ h. absurd (part (lower_multiple a.base.0 align a.order_per_bit h begins)))

    abbrev per_step : ℕ
    per_step = 2 ^ (align - a.order_per_bit)

    past_bits : past ≡ a.base.0 / per % per_step * per
    past_bits =
        let m : a.base.0 % (per_step * per) ≡ a.base.0 / per % per_step * per + a.base.0 % per = mod-mul a.base.0 {m = per_step} {c = per} (pow_pos (align - a.order_per_bit)) (pow_pos a.order_per_bit) in
        ap (λ (x : ℕ). a.base.0 % x) (sym (split_align higher)) ∙ m ∙ omega (arith, begins)

    below : past < 2 ^ align
    below = mod-lt a.base.0 (pow_pos align)

    -- the distance up is whole bits
    up_bits : up * per ≡ 2 ^ align - past
    up_bits =
        let u = a.base.0 / per % per_step in
        let l : u < per_step = mod-lt (a.base.0 / per) (pow_pos (align - a.order_per_bit)) in
        let e : 2 ^ align - past ≡ (per_step - u) * per = omega (arith, past_bits, split_align higher, add-mul (per_step - u) u per, ap (λ (x : ℕ). x * per) (let q : (per_step - u) + u ≡ per_step = omega arith in q)) in
        let d : up ≡ per_step - u = ap (λ (x : ℕ). x / per) e ∙ mul-div_cancel (per_step - u) {n = per} (pow_pos a.order_per_bit) in
        ap (λ (x : ℕ). x * per) d ∙ sym e

    first_later : FirstAligned a align up
    first_later =
        let q = a.base.0 / 2 ^ align in
        let parts = div-add-mod' a.base.0 (2 ^ align) in
        record {
          hit =
              eq-eqb (first_of up % 2 ^ align) 0
              (ap (λ (x : ℕ). x % 2 ^ align) (let s : first_of up ≡ q * 2 ^ align + 2 ^ align = omega (arith, up_bits, below, parts) in s) ∙
              on_multiple (q * 2 ^ align) (2 ^ align) (2 ^ align) (mul-mod_left q (2 ^ align)) (mod_self (2 ^ align)));
          miss =
              λ k h.
              let l : k * per < up * per = mul-lt-mul_of_pos_right {m = k} {n = up} {k = per} h (pow_pos a.order_per_bit) in
              let s : first_of k ≡ q * 2 ^ align + (past + k * per) = omega (arith, parts) in
              let z : first_of k % 2 ^ align ≡ past + k * per = ap (λ (x : ℕ). x % 2 ^ align) s ∙ digits_mod q {m = 2 ^ align} (omega (arith, up_bits, below)) in
              ne_eqb (first_of k % 2 ^ align) 0 (λ y. absurd (part (omega arith)));
        }

    up_high : align ≤ most_align_order → up ≤ 2 ^ most_align_order
    up_high h = omega (arith, div-le_self (2 ^ align - past) per, pow_mono {i = align} {j = most_align_order} h)

  -- the bit of the lowest multiple that is not below the area's first frame
  pub first_aligned : align ≤ most_align_order → a.base.0 % per ≡ 0 → (r : ℕ) → r ≡ (div_ceil a.base.0 (2 ^ align) * 2 ^ align - a.base.0) / per → (r ≤ 2 ^ most_align_order) × FirstAligned a align r
  first_aligned h begins r e =
      let past = a.base.0 % 2 ^ align in
      let parts = div-add-mod' a.base.0 (2 ^ align) in
      let low : past < 2 ^ align = mod-lt a.base.0 (pow_pos align) in
      below_or_not 0 past
      (λ some.
      let over : div_ceil a.base.0 (2 ^ align) ≡ a.base.0 / 2 ^ align + 1 = omega arith in
      let next : div_ceil a.base.0 (2 ^ align) * 2 ^ align ≡ a.base.0 / 2 ^ align * 2 ^ align + 2 ^ align = ap (λ (x : ℕ). x * 2 ^ align) over ∙ add-mul (a.base.0 / 2 ^ align) 1 (2 ^ align) ∙ ap (λ (x : ℕ). a.base.0 / 2 ^ align * 2 ^ align + x) (one-mul (2 ^ align)) in
      let is : r ≡ up begins (λ z. absurd (omega arith)) = e ∙ ap (λ (x : ℕ). x / per) (omega (arith, next, parts, low)) in
      rw is (up_high begins (λ z. absurd (omega arith)) h, first_later begins (λ z. absurd (omega arith))))
      (λ none.
      let over : div_ceil a.base.0 (2 ^ align) ≡ a.base.0 / 2 ^ align = omega arith in
      let next : div_ceil a.base.0 (2 ^ align) * 2 ^ align ≡ a.base.0 = ap (λ (x : ℕ). x * 2 ^ align) over ∙ omega (arith, parts) in
      let is : r ≡ 0 = e ∙ ap (λ (x : ℕ). (x - a.base.0) / per) next ∙ ap (λ (x : ℕ). x / per) (omega arith) ∙ zero-div per in
      rw is (omega arith, first_whole (omega arith)))
