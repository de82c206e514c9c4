-- Laws of numbers that are held as 2^48 + 1 where they are above 2^48. Assumes nothing.
--     cap_low, cap_high, cap_most    the two cases, and the bound
--     cap_held                       what is held is held as it is
--     cap_scaled                     a product's value goes by the values held
--     cap_saturated                  a product that saturates goes by the product
--     value_cap                      the value of digits goes by the value held of those before them
--     value_next, value_end          a loop over digits: one more digit; none is left
use Prim.Native.Nat.{ℕ, zero, suc, ◌+◌, ◌-◌, ◌*◌, ◌^◌, ◌≤◌, ◌<◌, min}
use native.Mathlib.Nat.{le-mul_of_pos_right}
use native.Mathlib.Numerals.{add-one}
use native.Mathlib.Omega.{arith}
use mathlib.Core.Path.{◌≡◌, refl, sym, ap, ◌∙◌}
use mathlib.Core.List.{List}
use borrow.Author.Tests.{lt-ltb, le-ltb}
use Rattle.search.proofs.Bools.{below_or_not}
use Rattle.text.specs.Bytes.{byte_at, digit_of}
use Rattle.text.specs.Numbers.{digits_value, most_bytes, cap}

pub cap_low : (v : ℕ) → v ≤ most_bytes → cap v ≡ v
unfolding cap
cap_low v h = rw (le-ltb most_bytes v h)

pub cap_high : (v : ℕ) → most_bytes < v → cap v ≡ most_bytes + 1
unfolding cap
cap_high v h = rw (lt-ltb most_bytes v h)

pub cap_most : (v : ℕ) → cap v ≤ most_bytes + 1
cap_most v = below_or_not most_bytes v (λ h. rw (cap_high v h) (omega arith)) (λ h. rw (cap_low v h) (omega arith))

pub cap_held : (v : ℕ) → v ≤ most_bytes + 1 → cap v ≡ v
cap_held v l = below_or_not most_bytes v (λ h. cap_high v h ∙ omega arith) (λ h. cap_low v h)

-- two numbers above 2^48 are held alike
both_high : (v w : ℕ) → most_bytes < v → most_bytes < w → cap v ≡ cap w
both_high v w a b = cap_high v a ∙ sym (cap_high w b)

pub cap_scaled : (v m : ℕ) → 0 < m → cap (cap v * m) ≡ cap (v * m)
cap_scaled v m p =
    below_or_not most_bytes v
    (λ h.
    rw (cap_high v h)
    (both_high ((most_bytes + 1) * m) (v * m) (omega (arith, le-mul_of_pos_right (most_bytes + 1) p)) (omega (arith, le-mul_of_pos_right v p))))
    (λ h. rw (cap_low v h))

-- a number that the machine holds as the most it can is above 2^48
pub cap_saturated : (v : ℕ) → cap (min v (2 ^ 64 - 1)) ≡ cap v
cap_saturated v = below_or_not most_bytes v (λ h. both_high (min v (2 ^ 64 - 1)) v (omega arith) h) (λ h. ap cap (omega arith))

module _ (base : ℕ) (p : 0 < base) (s : List ℕ) where
  value_none : (at v : ℕ) → digits_value base s at zero v ≡ v
  unfolding digits_value
  value_none at v = refl

  pub value_one : (at n v : ℕ) → digits_value base s at (suc n) v ≡ digits_value base s (suc at) n (v * base + digit_of (byte_at s at))
  unfolding digits_value
  value_one at n v = refl

  value_grows : (at n v : ℕ) → v ≤ digits_value base s at n v
  value_grows at zero v = rw value_none (omega arith)
  value_grows at (suc n) v =
      rw value_one (omega (arith, le-mul_of_pos_right v p, value_grows (suc at) n (v * base + digit_of (byte_at s at))))

  pub value_cap : (at n v : ℕ) → cap (digits_value base s at n (cap v)) ≡ cap (digits_value base s at n v)
  value_cap at n v =
      below_or_not most_bytes v
      (λ h.
      rw (cap_high v h)
      (both_high (digits_value base s at n (most_bytes + 1)) (digits_value base s at n v) (omega (arith, value_grows at n (most_bytes + 1))) (omega (arith, value_grows at n v))))
      (λ h. rw (cap_low v h))

  -- a loop at i that goes up to an end, with the value held so far
  pub value_next : (i end v r : ℕ) → i < end → r ≡ cap (v * base + digit_of (byte_at s i)) → cap (digits_value base s i (end - i) v) ≡ cap (digits_value base s (i + 1) (end - (i + 1)) r)
  value_next i end v r h e =
      let w : ℕ = v * base + digit_of (byte_at s i) in
      let more : end - i ≡ suc (end - (i + 1)) = omega arith in
      rw (more, value_one, e, value_cap (i + 1) (end - (i + 1)) w, add-one)

  pub value_end : (i end v : ℕ) → end ≤ i → v ≤ most_bytes + 1 → cap (digits_value base s i (end - i) v) ≡ v
  value_end i end v h l =
      let none : end - i ≡ 0 = omega arith in
      rw (none, value_none) (cap_held v l)
