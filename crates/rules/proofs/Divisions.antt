-- Quotients rounded up and down, for every divisor. Assumes nothing.
--     ceiling_le, le_ceiling    a quotient rounded up is at most c just where c times the divisor is enough
--     ceiling_some              it is 0 for 0 alone
--     up_low, up_high           a number rounded up is at or above it, by less than the divisor
--     down_low, down_high       a number rounded down is at or below it, by less than the divisor
--     rounds_to_none            just what is less than the divisor is rounded down to 0
--     down_keeps                a multiple at or below a number is at or below it rounded down
use Rattle.std.proofs.Common.{◌≡◌, ℕ, suc, ◌+◌, ◌-◌, ◌*◌, ◌/◌, ◌<◌, ◌≤◌, eqb, ltb, sym, ap, ◌∙◌, mul-le-mul_right, div-lt_iff_lt-mul, one-mul, le-div_iff_mul-le, zero-mul, div-mul-le_self, arith, le-ltb, lt-ltb, eq-eqb, ne_eqb}
use native.Mathlib.Nat.{lt-div-mul-add}
use Rattle.search.proofs.Bools.{below_or_not}
use Rattle.frames.specs.Areas.{ceiling}
use Rattle.rules.specs.Declare.{round_up, round_down}

pub ceiling_le : (x d c : ℕ) → 0 < d → x ≤ c * d → ceiling x d ≤ c
ceiling_le x d c hd h =
    below_or_not c (ceiling x d)
    (λ l. absurd (let k : suc c * d ≤ x + (d - 1) = (le-div_iff_mul-le hd).0 l in omega arith)) (λ l. l)

pub le_ceiling : (x d c : ℕ) → 0 < d → ceiling x d ≤ c → x ≤ c * d
le_ceiling x d c hd h =
    let k : x + (d - 1) < suc c * d = (div-lt_iff_lt-mul hd).0 (omega arith) in
    omega arith

pub ceiling_some : (x d : ℕ) → 0 < d → 1 ≤ x → 1 ≤ ceiling x d
ceiling_some x d h some =
    let all : 1 * d ≤ x + (d - 1) = rw one-mul (omega arith) in
    (le-div_iff_mul-le {k = d} {x = 1} {y = x + (d - 1)} h).1 all

module _ (x d : ℕ) (h : 0 < d) where
  pub down_low : round_down x d ≤ x
  down_low = div-mul-le_self x d

  pub down_high : x < round_down x d + d
  down_high = lt-div-mul-add {a = x} {b = d} h

  pub up_low : x ≤ round_up x d
  up_low = let above = lt-div-mul-add {a = x + (d - 1)} {b = d} h in omega arith

  pub up_high : round_up x d < x + d
  up_high = let below = div-mul-le_self (x + (d - 1)) d in omega arith

  down_small : x < d → round_down x d ≡ 0
  down_small l =
      below_or_not 0 (x / d) (λ some. absurd (let k : 1 * d ≤ x = (le-div_iff_mul-le h).0 some in omega arith))
      (λ none. let z : x / d ≡ 0 = omega arith in ap (λ (q : ℕ). q * d) z ∙ zero-mul d)

  pub rounds_to_none : eqb (round_down x d) 0 ≡ ltb x d
  rounds_to_none =
      below_or_not x d (λ l. eq-eqb (round_down x d) 0 (down_small l) ∙ sym (lt-ltb x d l))
      (λ l. ne_eqb (round_down x d) 0 (λ z. absurd (omega (arith, down_high))) ∙ sym (le-ltb x d l))

pub down_keeps : (x d c : ℕ) → 0 < d → c * d ≤ x → c * d ≤ round_down x d
down_keeps x d c hd h = mul-le-mul_right d ((le-div_iff_mul-le hd).1 h)
