-- The law of little-endian numbers, over the width. Assumes nothing.
--     little_none, little_more    no byte; one byte more at the low end
--     little_fits                 up to eight bytes fit 64 bits
--     Passed                      a number is read from its highest byte down, as far as some bytes left of it
--     passed_none, passed_more    no byte is read; one byte more is
--     passed_fits                 the number in the bytes read fits 64 bits
--     passed_all                  every byte is read
use Prim.Native.Nat.{ℕ, zero, suc, ◌+◌, ◌-◌, ◌*◌, ◌^◌, ◌<◌, ◌≤◌}
use native.Mathlib.Nat.{lt_of_lt_of_le}
use native.Mathlib.Omega.{arith}
use mathlib.Core.Path.{◌≡◌, refl, sym, ap, ◌∙◌}
use mathlib.Core.List.{List, [], ◌∷◌}
use lib.ListN.{length, get_or, take, drop, length-drop, get_or-append}
use lib.Seq.{get_or-drop, get_or-append_seam}
use Rattle.std.specs.List.{push}
use Rattle.std.proofs.lemmas.List.{length-take-le, length_push, get_or-take}
use lib.Pow.{pow-add, pow_mono}
use Rattle.records.specs.Records.{little}

pub little_none : (s : List ℕ) (at : ℕ) → little s at 0 ≡ 0
unfolding little
little_none s at = refl

pub little_more : (s : List ℕ) (at n : ℕ) → little s at (suc n) ≡ get_or s at 0 + 256 * little s (suc at) n
unfolding little
little_more s at n = refl

module _ (s : List ℕ) (byte : (k : ℕ) → get_or s k 0 < 256) where
  little_below : (at n : ℕ) → little s at n < 2 ^ (8 * n)
  little_below at zero = rw little_none (omega arith)
  little_below at (suc n) =
      let e : 2 ^ (8 * suc n) ≡ 2 ^ (8 * n) * 2 ^ 8 = ap (λ (k : ℕ). 2 ^ k) (omega arith) ∙ pow-add 2 (8 * n) 8 in
      rw (little_more, e) (omega (arith, byte at, little_below (suc at) n))

  pub little_fits : (at n : ℕ) → n ≤ 8 → little s at n < 2 ^ 64
  little_fits at n h = lt_of_lt_of_le (little_below at n) (pow_mono {i = 8 * n} {j = 64} (omega arith))

-- The bytes that are left of a number are its lowest, and the value is the number in the others.
pub record Passed (bytes : List ℕ) (at width : ℕ) (left : List ℕ) (value : ℕ) : Type 0 where
  pub most : length left ≤ width
  pub same : (o : ℕ) → o < length left → get_or left o 0 ≡ get_or bytes (at + o) 0
  pub worth : value ≡ little bytes (at + length left) (width - length left)

pub passed_none :
    (bytes : List ℕ) (at width : ℕ) {left : List ℕ} → at + width ≤ length bytes
    → left ≡ take (at + width - at) (drop at bytes) → Passed bytes at width left 0
passed_none bytes at width {left} inside e =
    let inner : length left ≡ at + width - at = ap length e ∙ length-take-le (at + width - at) (drop at bytes) (simp length-drop (omega arith)) in
    let all : length left ≡ width = omega arith in
    let none : width - length left ≡ 0 = omega arith in
    record {
      most = omega arith;
      same = λ o h. rw e (get_or-take (at + width - at) (drop at bytes) o 0 (omega arith) ∙ get_or-drop at bytes o 0);
      worth = rw (none, little_none) refl;
    }

-- the last of the bytes left is passed
pub passed_more :
    {bytes : List ℕ} {at width : ℕ} {left rest : List ℕ} {value : ℕ} (byte : ℕ) → left ≡ push rest byte
    → Passed bytes at width left value → Passed bytes at width rest (value * 256 + byte)
passed_more {bytes} {at} {width} {left} {rest} {value} byte e p =
    let n = length rest in
    let longer : length left ≡ n + 1 = ap length e ∙ length_push rest byte in
    let here : get_or bytes (at + n) 0 ≡ byte =
    sym (p.same n (omega arith)) ∙ ap (λ (l : List ℕ). get_or l n 0) e ∙ get_or-append_seam rest byte [] 0 in
    let fewer : width - n ≡ suc (width - length left) = omega arith in
    let next : suc (at + n) ≡ at + length left = omega arith in
    record {
      most = omega arith;
      same = λ o h. sym (get_or-append rest (byte ∷ []) 0 o h) ∙ ap (λ (l : List ℕ). get_or l o 0) (sym e) ∙ p.same o (omega arith);
      worth = rw (fewer, little_more, next, here) (omega (arith, p.worth));
    }

pub passed_all :
    {bytes : List ℕ} {at width : ℕ} {left : List ℕ} {value : ℕ} → length left ≡ 0 → Passed bytes at width left value
    → value ≡ little bytes at width
passed_all {bytes} {at} {width} {left} e p =
    let start : at + length left ≡ at = omega arith in
    let whole : width - length left ≡ width = omega arith in
    p.worth ∙ rw (start, whole) refl

pub passed_fits :
    {bytes : List ℕ} {at width : ℕ} {left : List ℕ} {value : ℕ} → ((k : ℕ) → get_or bytes k 0 < 256) → width ≤ 8
    → Passed bytes at width left value → value < 2 ^ 64
passed_fits {bytes} {at} {width} {left} byte h p = rw p.worth (little_fits bytes byte (at + length left) (width - length left) (omega arith))
