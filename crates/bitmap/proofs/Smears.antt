-- A word smeared: a bit is set where it or one of the next is. Assumes nothing.
--     or_clear, shift_bit    a bit of two words joined, and of a word shifted down
--     and_set                a bit of what two words have in common
--     not_clear, ones_set    a bit of a word's complement; of a word of ones
--     smear_none, smear_more, smear_to    of one bit; of as many more as are told of already, at the most
--     hits_set, hits_open    the bits that a step looks for
use Prim.Native.Nat.{ℕ, ◌+◌, ◌-◌, ◌*◌, ◌/◌, ◌%◌, ◌^◌, ◌≤◌, ◌<◌, min, max}
use native.Mathlib.Omega.{arith}
use native.Mathlib.Nat.{add_comm, add-zero, add-mul, pow-suc, mod-lt, zero-div}
use mathlib.Core.Path.{◌≡◌, sym, ap, ap₂, subst, ◌∙◌}
use mathlib.Core.Bool.{Bool, true, not, ◌&&◌}
use lib.Arith.{digits_mod}
use lib.Bits.{bit_and, bit_or, and_step, and_shr, or_step, or_shr}
use lib.Dec.{eqb}
use lib.Pow.{pow_pos, pow_mono, shr-shr, shr_lt, split, high, ones_split}
use borrow.Author.Tests.{eqb-true, eqb-false, ne_eqb}
use Rattle.search.specs.Search.{every}
use Rattle.search.proofs.Bools.{by_cases, below_or_not, and_left, and_right, and_both}
use Rattle.search.proofs.Ranges.{every_all, all_every, every_none, every_next, every_part}
use Rattle.bitmap.specs.Bits.{bit_of}
use Rattle.bitmap.specs.Steps.Looks.{wanted_in, Smears, Hits}
use Rattle.bitmap.proofs.Word.{bit_lt}

both_clear : (p q : ℕ) → eqb (max p q) 0 ≡ (eqb p 0 && eqb q 0)
both_clear p q =
    by_cases (eqb p 0)
    (λ a. let z = eqb-true p 0 a in let same : max p q ≡ q = omega arith in rw a (ap (λ (x : ℕ). eqb x 0) same))
    (λ a. let n = eqb-false p 0 a in rw a (ne_eqb (max p q) 0 (λ z. n (omega arith))))

or_clear : (a b s : ℕ) → eqb (bit_of (bit_or a b) s) 0 ≡ (eqb (bit_of a s) 0 && eqb (bit_of b s) 0)
or_clear a b s =
    let x = a / 2 ^ s in
    let y = b / 2 ^ s in
    let last : bit_of (bit_or a b) s ≡ max (bit_of a s) (bit_of b s) =
    ap (λ (z : ℕ). z % 2) (or_shr a b s ∙ or_step x y) ∙ digits_mod (bit_or (x / 2) (y / 2)) (omega (arith, bit_lt a s, bit_lt b s))
    in
    ap (λ (z : ℕ). eqb z 0) last ∙ both_clear (bit_of a s) (bit_of b s)

both_set : (p q : ℕ) → not (eqb (min p q) 0) ≡ (not (eqb q 0) && not (eqb p 0))
both_set p q =
    by_cases (eqb q 0)
    (λ a. let z = eqb-true q 0 a in let none : min p q ≡ 0 = omega arith in rw a (ap (λ (x : ℕ). not (eqb x 0)) none))
    (λ a.
    let n = eqb-false q 0 a in
    let same : eqb (min p q) 0 ≡ eqb p 0 =
    by_cases (eqb p 0)
    (λ b. let z = eqb-true p 0 b in let none : min p q ≡ p = omega arith in ap (λ (x : ℕ). eqb x 0) none)
    (λ b. let m = eqb-false p 0 b in ne_eqb (min p q) 0 (λ z. absurd (omega arith)) ∙ sym b)
    in
    rw a (ap not same))

and_set : (a b s : ℕ) → not (eqb (bit_of (bit_and a b) s) 0) ≡ (not (eqb (bit_of b s) 0) && not (eqb (bit_of a s) 0))
and_set a b s =
    let x = a / 2 ^ s in
    let y = b / 2 ^ s in
    let last : bit_of (bit_and a b) s ≡ min (bit_of a s) (bit_of b s) =
    ap (λ (z : ℕ). z % 2) (and_shr a b s ∙ and_step x y) ∙ digits_mod (bit_and (x / 2) (y / 2)) (omega (arith, bit_lt a s, bit_lt b s))
    in
    ap (λ (z : ℕ). not (eqb z 0)) last ∙ both_set (bit_of a s) (bit_of b s)

pub shift_bit : (x d s : ℕ) → bit_of (x / 2 ^ d) s ≡ bit_of x (s + d)
shift_bit x d s = ap (λ (z : ℕ). z % 2) (shr-shr x d s ∙ ap (λ (z : ℕ). x / 2 ^ z) (add_comm d s))

-- a bit of the complement
flip : (h k : ℕ) → 0 < k → h < 2 ^ k → (2 ^ k - 1 - h) % 2 ≡ 1 - h % 2
flip h k some less =
    let even : 2 ^ k ≡ 2 ^ (k - 1) * 2 = ap (λ (x : ℕ). 2 ^ x) (omega arith) ∙ pow-suc 2 (k - 1) in
    omega arith

complement_bit : (x s : ℕ) → x < 2 ^ 64 → s < 64 → bit_of (2 ^ 64 - 1 - x) s ≡ 1 - bit_of x s
complement_bit x s h l =
    let n = 64 - s in
    let top = x / 2 ^ s in
    let rest = x % 2 ^ s in
    let width : 64 ≡ n + s = omega arith in
    let all : 2 ^ 64 - 1 ≡ (2 ^ n - 1) * 2 ^ s + (2 ^ s - 1) = ap (λ (y : ℕ). 2 ^ y - 1) width ∙ ones_split n s in
    let high_part : top < 2 ^ n = shr_lt n s (subst (λ (y : ℕ). x < 2 ^ y) width h) in
    let less : rest < 2 ^ s = mod-lt x (pow_pos s) in
    let other : 2 ^ n - 1 ≡ (2 ^ n - 1 - top) + top = omega arith in
    let parts : (2 ^ n - 1) * 2 ^ s ≡ (2 ^ n - 1 - top) * 2 ^ s + top * 2 ^ s = ap (λ (y : ℕ). y * 2 ^ s) other ∙ add-mul (2 ^ n - 1 - top) top (2 ^ s) in
    let whole : 2 ^ 64 - 1 - x ≡ (2 ^ n - 1 - top) * 2 ^ s + (2 ^ s - 1 - rest) = omega (arith, all, split x s) in
    ap (λ (y : ℕ). y / 2 ^ s % 2) whole ∙ ap (λ (y : ℕ). y % 2) (high (2 ^ n - 1 - top) s (omega arith)) ∙ flip top n (omega arith) high_part

pub not_clear : (x s : ℕ) → x < 2 ^ 64 → s < 64 → not (eqb (bit_of (2 ^ 64 - 1 - x) s) 0) ≡ eqb (bit_of x s) 0
not_clear x s h l =
    rw (complement_bit x s h l)
    (by_cases (eqb (bit_of x s) 0)
    (λ e. let z = eqb-true (bit_of x s) 0 e in rw e (ap (λ (y : ℕ). not (eqb (1 - y) 0)) z))
    (λ e.
    let n = eqb-false (bit_of x s) 0 e in
    let one : bit_of x s ≡ 1 = omega (arith, bit_lt x s) in
    rw e (ap (λ (y : ℕ). not (eqb (1 - y) 0)) one)))

pub ones_set : (s : ℕ) → s < 64 → not (eqb (bit_of (2 ^ 64 - 1) s) 0) ≡ true
ones_set s l = not_clear 0 s (omega arith) l ∙ rw (zero-div (2 ^ s))

-- two ranges that meet
every_join : (p : ℕ → Bool) (i d e : ℕ) → e ≤ d → (every p i d && every p (i + e) d) ≡ every p i (d + e)
every_join p i d e h =
    by_cases (every p i (d + e))
    (λ t. and_both _ _ (every_part p i (d + e) i d (omega arith) (omega arith) t) (every_part p i (d + e) (i + e) d (omega arith) (omega arith) t) ∙ sym t)
    (λ f.
    by_cases (every p i d && every p (i + e) d)
    (λ t.
    let first = and_left (every p i d) (every p (i + e) d) t in
    let last = and_right (every p i d) (every p (i + e) d) t in
    t ∙ sym (all_every p i (d + e) (λ k a b. below_or_not k (i + d) (λ l. every_all p i d first k a l) (λ l. every_all p (i + e) d last k (omega arith) (omega arith)))))
    (λ g. g ∙ sym f))

pub smear_none : (w : ℕ) → Smears 1 w w
smear_none w s =
    let p : ℕ → Bool = λ k. eqb (bit_of w k) 0 in
    sym (every_next p s 0 ∙ rw (every_none p s, add-zero s))

pub smear_more : (w x d e : ℕ) → e ≤ d → Smears d w x → Smears (d + e) w (bit_or x (x / 2 ^ e))
smear_more w x d e h told s =
    let p : ℕ → Bool = λ k. eqb (bit_of w k) 0 in
    or_clear x (x / 2 ^ e) s ∙
    ap₂ (λ (a b : Bool). a && b) (told s) (ap (λ (z : ℕ). eqb z 0) (shift_bit x e s) ∙ told (s + e)) ∙ every_join p s d e h

pub smear_to : (w x d n : ℕ) → d ≤ n → n - d ≤ d → Smears d w x → Smears n w (bit_or x (x / 2 ^ (n - d)))
smear_to w x d n low h told =
    let sum : d + (n - d) ≡ n = omega arith in
    subst (λ (k : ℕ). Smears k w (bit_or x (x / 2 ^ (n - d)))) sum (smear_more w x d (n - d) h told)

-- ---- what is wanted of a word

-- a bit past a word's end is clear
high_clear : (w k : ℕ) → w < 2 ^ 64 → 64 ≤ k → eqb (bit_of w k) 0 ≡ true
high_clear w k h l =
    let room : 2 ^ 64 ≤ 2 ^ (0 + k) = pow_mono {i = 64} {j = 0 + k} (omega arith) in
    let none : w / 2 ^ k < 2 ^ 0 = shr_lt 0 k (omega arith) in
    let zero' : w / 2 ^ k ≡ 0 = omega arith in
    ap (λ (y : ℕ). eqb (y % 2) 0) zero'

-- so a range may end there
every_high : (p : ℕ → Bool) (i d e : ℕ) → d ≤ e → ((k : ℕ) → i + d ≤ k → p k ≡ true) → every p i e ≡ every p i d
every_high p i d e h true' =
    by_cases (every p i d)
    (λ t. all_every p i e (λ k a b. below_or_not k (i + d) (λ l. every_all p i d t k a l) (λ l. true' k l)) ∙ sym t)
    (λ f. by_cases (every p i e) (λ t. t ∙ sym (every_part p i e i d (omega arith) (omega arith) t)) (λ g. g ∙ sym f))

-- of the bits that may be looked for
of_starts : (starts x s : ℕ) {b : Bool} → not (eqb (bit_of x s) 0) ≡ b → not (eqb (bit_of (bit_and x starts) s) 0) ≡ (not (eqb (bit_of starts s) 0) && b)
of_starts starts x s e = and_set x starts s ∙ ap (λ (b : Bool). not (eqb (bit_of starts s) 0) && b) e

pub hits_set : (w : ℕ) → Hits 0 (2 ^ 64 - 1) w w
unfolding wanted_in
hits_set w s l = rw (ones_set s l)

pub hits_open :
    (run starts reach w x : ℕ) → reach ≡ min (max run 1) 64 → w < 2 ^ 64 → x < 2 ^ 64 → Smears reach w x →
    Hits (max run 1) starts w (bit_and (2 ^ 64 - 1 - x) starts)
unfolding wanted_in
hits_open run starts reach w x e h k told s l =
    let most = max run 1 in
    let p : ℕ → Bool = λ k. eqb (bit_of w k) 0 in
    let short : every p s reach ≡ every p s (min most (64 - s)) =
    below_or_not most (64 - s)
    (λ in_word. ap (every p s) (omega arith))
    (λ to_end.
    let end : min most (64 - s) ≡ 64 - s = omega arith in
    every_high p s (64 - s) reach (omega arith) (λ k a. high_clear w k h (omega arith)) ∙ ap (every p s) (sym end))
    in
    rw (ne_eqb most 0 (λ z. omega arith)) (of_starts starts (2 ^ 64 - 1 - x) s (not_clear x s k l ∙ told s ∙ short))
