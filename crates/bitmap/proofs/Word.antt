-- The laws of one word's bits. Assumes nothing.
--     Change f v            f makes a bit v and leaves the rest: `setting` says so of set_in and 1, `clearing` of clear_in and 0
--     bit_here, bit_other   what f does to the bit, and to another
--     change_in_lem             what a run's change within a word comes to, as a sum
--     set_run_in, clear_run_in    the same as the code makes it
use Prim.Native.Nat.{ℕ, zero, suc, ◌+◌, ◌-◌, ◌*◌, ◌/◌, ◌%◌, ◌^◌, ◌≤◌, ◌<◌}
use native.Mathlib.Nat.{add-mul, mul_assoc, add-zero, pow-suc, mod-lt, div-add-mod', zero-mul, mod-one, mul_right_comm}
use native.Mathlib.Numerals.{add-one}
use native.Mathlib.Omega.{arith}
use mathlib.Core.Path.{◌≡◌, sym, ap, subst, ◌∙◌}
use mathlib.Core.Logic.{◌≢◌}
use lib.Arith.{digits_div, digits_mod}
use lib.Bits.{bit_and, bit_or, or_add_and, and_comm, and_high}
use lib.Pow.{pow_pos, pow_mono, split, high, low, field, mod-mod-pow, mod-pow-add, shr-shr}
use Rattle.std.proofs.lemmas.Nat.{and-not}
use Rattle.search.proofs.Bools.{below_or_not}
use Rattle.bitmap.specs.Bits.{bit_of, set_in, clear_in}
use Rattle.bitmap.specs.Steps.Words.{bits_of, change_in}

pub bit_lt : (w s : ℕ) → bit_of w s < 2
bit_lt w s = mod-lt (w / 2 ^ s) (omega arith)

-- the digits above bit s, bit s, and those below
pub parts : (w s : ℕ) → w ≡ (w / 2 ^ suc s * 2 + bit_of w s) * 2 ^ s + w % 2 ^ s
parts w s =
    let halves : w / 2 ^ s / 2 * 2 + bit_of w s ≡ w / 2 ^ s = div-add-mod' (w / 2 ^ s) 2 in
    let next : w / 2 ^ s / 2 ≡ w / 2 ^ suc s = shr-shr w s 1 ∙ ap (λ (x : ℕ). w / 2 ^ x) (add-one s) in
    rw (← next, halves) (sym (split w s))

-- f makes bit s of w the bit v, and leaves the others
pub record Change (f : ℕ → ℕ → ℕ) (v : ℕ) : Type 0 where
  pub bit : v < 2
  pub sum : (w s : ℕ) → f w s + bit_of w s * 2 ^ s ≡ w + v * 2 ^ s

pub setting : Change set_in 1
setting = record { bit = omega arith; sum = sums }
  where
    sums : (w s : ℕ) → set_in w s + bit_of w s * 2 ^ s ≡ w + 1 * 2 ^ s
    sums w s =
        let one : (1 - bit_of w s) * 2 ^ s + bit_of w s * 2 ^ s ≡ 1 * 2 ^ s = sym (add-mul (1 - bit_of w s) (bit_of w s) (2 ^ s)) ∙ ap (λ (x : ℕ). x * 2 ^ s) (omega (arith, bit_lt w s)) in
        omega arith

pub clearing : Change clear_in 0
clearing = record { bit = omega arith; sum = λ w s. omega (arith, parts w s, add-mul (w / 2 ^ suc s * 2) (bit_of w s) (2 ^ s)) }

-- a bit below place s goes by the digits below s, and one from s on by those from s on
low_bit : (x s t : ℕ) → t < s → bit_of x t ≡ bit_of (x % 2 ^ s) t
low_bit x s t h =
    let same : s ≡ (s - suc t + 1) + t = omega arith in
    sym
    (ap (λ (y : ℕ). bit_of (x % 2 ^ y) t) same ∙ ap (λ (y : ℕ). y % 2) (field x (s - suc t + 1) t) ∙ mod-mod-pow (x / 2 ^ t) (s - suc t) 1)

high_bit : (x s t : ℕ) → s ≤ t → bit_of x t ≡ bit_of (x / 2 ^ s) (t - s)
high_bit x s t h =
    let same : t ≡ s + (t - s) = omega arith in
    ap (λ (y : ℕ). x / 2 ^ y % 2) same ∙ ap (λ (y : ℕ). y % 2) (sym (shr-shr x s (t - s)))

double : (a s : ℕ) → a * 2 ^ suc s ≡ a * 2 ^ s * 2
double a s = ap (λ (x : ℕ). a * x) (pow-suc 2 s) ∙ sym (mul_assoc a (2 ^ s) 2)

-- ---- a run of bits as a number: one bit more at its start
bits_first : (w s d : ℕ) → bits_of w s (suc d) ≡ bits_of w (suc s) d * 2 + bit_of w s
bits_first w s d =
    ap (λ (x : ℕ). w / 2 ^ s % 2 ^ x) (sym (add-one d)) ∙ mod-pow-add (w / 2 ^ s) d 1
    ∙ ap (λ (x : ℕ). x % 2 ^ d * 2 + bit_of w s) (shr-shr w s 1 ∙ ap (λ (x : ℕ). w / 2 ^ x) (add-one s))

module _ {f : ℕ → ℕ → ℕ} {v : ℕ} (ch : Change f v) where
  new_parts : (w s : ℕ) → f w s ≡ (w / 2 ^ suc s * 2 + v) * 2 ^ s + w % 2 ^ s
  new_parts w s =
      omega (arith, ch.sum w s, parts w s, add-mul (w / 2 ^ suc s * 2) (bit_of w s) (2 ^ s), add-mul (w / 2 ^ suc s * 2) v (2 ^ s))

  from_bit : (w s : ℕ) → f w s / 2 ^ s ≡ w / 2 ^ suc s * 2 + v
  from_bit w s = ap (λ (x : ℕ). x / 2 ^ s) (new_parts w s) ∙ high (w / 2 ^ suc s * 2 + v) s (mod-lt w (pow_pos s))

  above_bit : (w s : ℕ) → f w s / 2 ^ suc s ≡ w / 2 ^ suc s
  above_bit w s =
      sym (shr-shr (f w s) s 1 ∙ ap (λ (x : ℕ). f w s / 2 ^ x) (add-one s)) ∙ ap (λ (x : ℕ). x / 2) (from_bit w s)
      ∙ digits_div (w / 2 ^ suc s) ch.bit

  below_bit : (w s : ℕ) → f w s % 2 ^ s ≡ w % 2 ^ s
  below_bit w s = ap (λ (x : ℕ). x % 2 ^ s) (new_parts w s) ∙ low (w / 2 ^ suc s * 2 + v) s (mod-lt w (pow_pos s))

  pub bit_here : (w s : ℕ) → bit_of (f w s) s ≡ v
  bit_here w s = ap (λ (x : ℕ). x % 2) (from_bit w s) ∙ digits_mod (w / 2 ^ suc s) ch.bit

  pub bit_other : (w s t : ℕ) → t ≢ s → bit_of (f w s) t ≡ bit_of w t
  bit_other w s t ne =
      below_or_not t s
      (λ h. low_bit (f w s) s t h ∙ ap (λ (x : ℕ). bit_of x t) (below_bit w s) ∙ sym (low_bit w s t h))
      (λ h.
      let more : suc s ≤ t = omega arith in
      high_bit (f w s) (suc s) t more ∙ ap (λ (x : ℕ). bit_of x (t - suc s)) (above_bit w s) ∙ sym (high_bit w (suc s) t more))

  -- the change of a run within a word: what the run held goes, and v at each of its bits comes
  pub change_in_lem : (w s d : ℕ) → change_in f w s d + (bits_of w s d * 2 ^ s + v * 2 ^ s) ≡ w + v * 2 ^ (s + d)
  unfolding change_in
  change_in_lem w s zero = rw (add-zero s, mod-one (w / 2 ^ s), zero-mul (2 ^ s)) (omega arith)
  change_in_lem w s (suc d) =
      let rest : change_in f (f w s) (suc s) d + (bits_of w (suc s) d * 2 ^ suc s + v * 2 ^ suc s) ≡ f w s + v * 2 ^ (suc s + d) =
      subst (λ (x : ℕ). change_in f (f w s) (suc s) d + (x % 2 ^ d * 2 ^ suc s + v * 2 ^ suc s) ≡ f w s + v * 2 ^ (suc s + d)) (above_bit w s)
      (change_in_lem (f w s) (suc s) d) in
      let last : 2 ^ (suc s + d) ≡ 2 ^ (s + suc d) = ap (λ (x : ℕ). 2 ^ x) (omega arith) in
      let twice : bits_of w (suc s) d * 2 * 2 ^ s ≡ bits_of w (suc s) d * 2 ^ s * 2 = mul_right_comm (bits_of w (suc s) d) 2 (2 ^ s) in
      rw (bits_first w s d, ← last)
      (omega
      (arith, ch.sum w s, double (bits_of w (suc s) d) s, double v s, add-mul (bits_of w (suc s) d * 2) (bit_of w s) (2 ^ s)))

-- ---- the change of a run within a word, as the code makes it: by a mask of ones, or by its complement
pub set_run_in : (w s d : ℕ) → bit_or w (2 ^ (d + s) - 2 ^ s) ≡ change_in set_in w s d
set_run_in w s d =
    let same : 2 ^ (d + s) ≡ 2 ^ (s + d) = ap (λ (x : ℕ). 2 ^ x) (omega arith) in
    let room : 2 ^ s ≤ 2 ^ (d + s) = pow_mono (omega arith) in
    omega (arith, or_add_and w (2 ^ (d + s) - 2 ^ s), and_high w d s, change_in_lem setting w s d)

pub clear_run_in : (w s d m : ℕ) → w < 2 ^ 64 → m < 2 ^ 64 → m ≡ 2 ^ (d + s) - 2 ^ s → bit_and w (2 ^ 64 - 1 - m) ≡ change_in clear_in w s d
clear_run_in w s d m h k e =
    let run : bit_and w m ≡ bits_of w s d * 2 ^ s = rw e (and_high w d s) in
    omega (arith, and-not 64 m w k h, and_comm w (2 ^ 64 - 1 - m), and_comm w m, run, change_in_lem clearing w s d)
