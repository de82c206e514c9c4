-- Numbers in decimal. Assumes nothing.
--     decimal_reads     reading the digits from left to right gives the number back
--     decimal_leads     only the number 0 begins with the digit 0
--     decimal_most      there are at most 20 digits
--     decimal_digits    each byte is a digit
--     counted_digits    the last digits of a number, as many as were counted, are all of them: a loop from the last digit back writes them
--     last_length       there are as many last digits as were asked for
--     counted           how many digits a number has, from the power of ten at which it stands
use Prim.Native.Nat.{ℕ, zero, suc, ◌+◌, ◌-◌, ◌*◌, ◌/◌, ◌%◌, ◌^◌, ◌≤◌, ◌<◌, max}
use native.Mathlib.Nat.{div-lt_iff_lt-mul, le-div_iff_mul-le, mod-lt, mod-eq_of_lt}
use native.Mathlib.Omega.{arith}
use mathlib.Core.Path.{◌≡◌, refl, sym, ap, subst, ◌∙◌}
use mathlib.Core.List.{List, [], ◌∷◌, ◌++◌}
use lib.ListN.{length, get_or, length-append, get_or-append}
use lib.Seq.{get_or_at}
use lib.Pow.{pow-add}
use borrow.Author.Tests.{lt-ltb, le-ltb}
use Rattle.search.proofs.Bools.{below_or_not}
use Rattle.text.specs.Writing.{decimal_up_to, decimal, DigitsCounted, last_digits}

digits_one : (more n : ℕ) → n < 10 → decimal_up_to (suc more) n ≡ (48 + n) ∷ []
unfolding decimal_up_to
digits_one more n h = rw (lt-ltb n 10 h, decimal_up_to)

digits_more : (more n : ℕ) → 10 ≤ n → decimal_up_to (suc more) n ≡ decimal_up_to more (n / 10) ++ ((48 + n % 10) ∷ [])
unfolding decimal_up_to
digits_more more n h = rw (le-ltb n 10 h, decimal_up_to)

digits_none : (n : ℕ) → decimal_up_to 0 n ≡ []
unfolding decimal_up_to
digits_none n = refl

pub decimal_is : (n : ℕ) → decimal n ≡ decimal_up_to 20 n
unfolding decimal
decimal_is n = refl

-- ---- dividing by ten takes a digit away
ten_more : (f : ℕ) → 10 ^ suc f ≡ 10 ^ f * 10
ten_more f = ap (λ (k : ℕ). 10 ^ k) (omega arith) ∙ pow-add 10 f 1

ten_pos : (f : ℕ) → 0 < 10 ^ f
ten_pos zero = omega arith
ten_pos (suc f) = rw ten_more (omega (arith, ten_pos f))

fewer : (f n : ℕ) → n < 10 ^ suc f → n / 10 < 10 ^ f
fewer f n h = (div-lt_iff_lt-mul {k = 10} {x = n} {y = 10 ^ f} (omega arith)).1 (subst (λ (k : ℕ). n < k) (ten_more f) h)

-- two digits do not go into one
some_left : (f n : ℕ) → 10 ≤ n → n < 10 ^ suc f → 0 < f
some_left zero n h l = absurd (omega (arith, l))
some_left (suc f) n h l = omega arith

module _ {ℓ} (P : ℕ → ℕ → Type ℓ) where
  -- what holds of one digit, and of one digit more, holds of every number and of every number of digits that is enough for it
  by_digits :
      ((f n : ℕ) → n < 10 → P (suc f) n) → ((f n : ℕ) → 10 ≤ n → 0 < f → P f (n / 10) → P (suc f) n)
      → (f n : ℕ) → 0 < f → n < 10 ^ f → P f n
  by_digits one more zero n some h = absurd (omega arith)
  by_digits one more (suc f) n some h =
      below_or_not n 10 (one f n)
      (λ l.
      let left = some_left f n l h in
      more f n l left (by_digits one more f (n / 10) left (fewer f n h)))

-- ---- read back
-- the number that the digits of a text give after a number, read from left to right
abbrev pub read_on : ℕ → List ℕ → ℕ
read_on v [] = v
read_on v (d ∷ ds) = read_on (v * 10 + (d - 48)) ds

read_after : (v : ℕ) (a : List ℕ) (d : ℕ) → read_on v (a ++ (d ∷ [])) ≡ read_on v a * 10 + (d - 48)
read_after v [] d = refl
read_after v (x ∷ a) d = read_after (v * 10 + (x - 48)) a d

reads : (f n : ℕ) → 0 < f → n < 10 ^ f → read_on 0 (decimal_up_to f n) ≡ n
reads =
    by_digits (λ f n. read_on 0 (decimal_up_to f n) ≡ n) (λ f n h. rw (digits_one f n h) (omega arith))
    (λ f n h some e. rw (digits_more f n h, read_after, e) (omega arith))

pub decimal_reads : (n : ℕ) → n < 2 ^ 64 → read_on 0 (decimal n) ≡ n
decimal_reads n h = rw decimal_is (reads 20 n (omega arith) (omega arith))

-- ---- no leading zero
digits_some : (f n : ℕ) → 0 < f → 0 < length (decimal_up_to f n)
digits_some zero n h = absurd (omega arith)
digits_some (suc f) n h =
    below_or_not n 10 (λ l. rw (digits_one f n l) (omega arith)) (λ l. rw (digits_more f n l) (simp length-append (omega arith)))

leads : (f n : ℕ) → 0 < f → n < 10 ^ f → get_or (decimal_up_to f n) 0 0 ≡ 48 → n ≡ 0
leads =
    by_digits (λ f n. get_or (decimal_up_to f n) 0 0 ≡ 48 → n ≡ 0) (λ f n h. rw (digits_one f n h) (λ e. omega arith))
    (λ f n h some ih.
    rw (digits_more f n h, get_or-append (decimal_up_to f (n / 10)) ((48 + n % 10) ∷ []) 0 0 (digits_some f (n / 10) some))
    (λ e. absurd (omega (arith, ih e))))

pub decimal_leads : (n : ℕ) → n < 2 ^ 64 → get_or (decimal n) 0 0 ≡ 48 → n ≡ 0
decimal_leads n h = rw decimal_is (leads 20 n (omega arith) (omega arith))

-- ---- at most 20 of them
digits_most : (f n : ℕ) → length (decimal_up_to f n) ≤ f
digits_most zero n = rw digits_none (omega arith)
digits_most (suc f) n =
    below_or_not n 10 (λ h. rw (digits_one f n h) (omega arith))
    (λ h. rw (digits_more f n h) (simp length-append (omega (arith, digits_most f (n / 10)))))

pub decimal_most : (n : ℕ) → length (decimal n) ≤ 20
decimal_most n = rw decimal_is (digits_most 20 n)

-- ---- each byte is a digit
abbrev pub Digit : ℕ → Type 0
Digit b = (48 ≤ b) × (b ≤ 57)

last_digit :
    (a : List ℕ) (d k : ℕ) → d < 10 → (k < length a → Digit (get_or a k 0)) → k < length (a ++ ((48 + d) ∷ []))
    → Digit (get_or (a ++ ((48 + d) ∷ [])) k 0)
last_digit a d k small before h =
    below_or_not k (length a) (λ l. rw (get_or-append a ((48 + d) ∷ []) 0 k l) (before l))
    (λ l.
    let e : length a ≡ k = omega (arith, length-append a ((48 + d) ∷ [])) in
    rw (get_or_at a (48 + d) [] 0 k e) (omega arith))

all_digits : (f n k : ℕ) → k < length (decimal_up_to f n) → Digit (get_or (decimal_up_to f n) k 0)
all_digits zero n k = rw digits_none (λ h. absurd (omega arith))
all_digits (suc f) n k =
    below_or_not n 10
    (λ h.
    rw (digits_one f n h)
    (λ l.
    let e : k ≡ 0 = omega arith in
    rw e (omega arith)))
    (λ h. rw (digits_more f n h) (λ l. last_digit (decimal_up_to f (n / 10)) (n % 10) k (mod-lt n (omega arith)) (all_digits f (n / 10) k) l))

pub decimal_digits : (n k : ℕ) → k < length (decimal n) → Digit (get_or (decimal n) k 0)
decimal_digits n k = rw decimal_is (all_digits 20 n k)

-- ---- the last digits of a number, as many as it has, are all of them
exactly : (f n : ℕ) → decimal_up_to f n ≡ last_digits (length (decimal_up_to f n)) n
exactly zero n = rw digits_none
exactly (suc f) n =
    below_or_not n 10 (λ h. rw (digits_one f n h) (ap (λ (k : ℕ). (48 + k) ∷ []) (sym (mod-eq_of_lt h))))
    (λ h.
    let more : length (decimal_up_to f (n / 10) ++ ((48 + n % 10) ∷ [])) ≡ suc (length (decimal_up_to f (n / 10))) = simp length-append (omega arith) in
    rw (digits_more f n h, more) (ap (λ (l : List ℕ). l ++ ((48 + n % 10) ∷ [])) (exactly f (n / 10))))

pub last_length : (k n : ℕ) → length (last_digits k n) ≡ k
last_length zero n = refl
last_length (suc k) n = simp length-append (omega (arith, last_length k (n / 10)))

pub counted_digits : (n count : ℕ) → DigitsCounted n count → last_digits count n ≡ decimal n
counted_digits n count c = rw (c.all, decimal_is) (sym (exactly 20 n))

-- ---- counting them
long : (k f n : ℕ) → k < f → (0 < k → 10 ^ k ≤ n) → n < 10 ^ suc k → length (decimal_up_to f n) ≡ k + 1
long k zero n few low high = absurd (omega (arith, few))
long zero (suc f) n few low high = rw (digits_one f n (omega arith)) (omega arith)
long (suc k) (suc f) n few low high =
    let power : 10 * 10 ^ k ≤ n = omega (arith, ten_more k, low (omega arith)) in
    let some : 0 < 10 ^ k = ten_pos k in
    let less : 10 ^ k ≤ n / 10 = (le-div_iff_mul-le {k = 10} {x = 10 ^ k} {y = n} (omega arith)).1 (omega (arith, power)) in
    let rest : length (decimal_up_to f (n / 10)) ≡ k + 1 = long k f (n / 10) (omega arith) (λ _. less) (fewer (suc k) n high) in
    rw (digits_more f n (omega (arith, power, some))) (simp length-append (omega (arith, rest)))

-- the power of ten at which a number stands, or at which 1 does where it is 0, tells how many digits it has
pub counted : (n k : ℕ) → 10 ^ k ≤ max n 1 → max n 1 < 10 * 10 ^ k → k < 20 → DigitsCounted n (k + 1)
counted n k low high few =
    let enough : 0 < k → 10 ^ k ≤ n = λ h.
    let one : k ≡ suc (k - 1) = omega arith in
    let ten : 10 ^ k ≡ 10 ^ (k - 1) * 10 = ap (λ (j : ℕ). 10 ^ j) one ∙ ten_more (k - 1) in
    omega (arith, ten, ten_pos (k - 1), low) in
    let below : n < 10 ^ suc k = omega (arith, ten_more k, high) in
    record { all = sym (rw decimal_is (long k 20 n few enough below)); most = omega arith }
