-- The bits of a word at which a run may begin. Assumes nothing.
--     spreads, spreads_one    a word has every 2^order-th bit, where that is computed; one bit, from 2^6 on
--     starts_known            shifted, it has the bits of all that are some steps of 2^order behind the first
use Prim.Native.Nat.{ℕ, ◌+◌, ◌-◌, ◌*◌, ◌%◌, ◌^◌, ◌≤◌}
use native.Mathlib.Omega.{arith}
use native.Mathlib.Nat.{add-mul-mod_self_right, mod-lt, mod-eq_of_lt, mul_assoc}
use mathlib.Core.Path.{◌≡◌, refl, sym, ap, ◌∙◌}
use mathlib.Core.Bool.{Bool, true}
use lib.Dec.{eqb}
use lib.Pow.{pow-add, pow_mono, mod-mod-pow}
use borrow.Author.Tests.{eqb-true}
use Rattle.search.specs.Search.{lowest_from, some, every}
use Rattle.search.proofs.Bools.{below_or_not}
use Rattle.search.proofs.Ranges.{every_all}
use Rattle.bitmap.specs.Bits.{bit_of}
use Rattle.device_calls.specs.Steps.DeviceSteps.{Spreads, Starts}

-- what is computed of all 64 bits holds of each
abbrev has_all : ℕ → ℕ → Bool
has_all order r = every (λ s. eqb (bit_of (r * 2 ^ (s % 2 ^ order) % 2 ^ 64) s) 1) 0 64

pub spreads : (order r : ℕ) → has_all order r ≡ true → Spreads order r
spreads order r e s h = eqb-true _ 1 (every_all (λ s. eqb (bit_of (r * 2 ^ (s % 2 ^ order) % 2 ^ 64) s) 1) 0 64 e s (omega arith) (omega arith))

spreads_6 : Spreads 6 1
unfolding every some lowest_from
spreads_6 = spreads 6 1 refl

-- from 2^6 on there is one bit to a word
pub spreads_one : (order : ℕ) → 6 ≤ order → Spreads order 1
spreads_one order h s l =
    let wide : 2 ^ 6 ≤ 2 ^ order = pow_mono {i = 6} {j = order} h in
    let same : s % 2 ^ order ≡ s % 2 ^ 6 = mod-eq_of_lt (omega arith) ∙ sym (mod-eq_of_lt (omega arith)) in
    ap (λ (x : ℕ). bit_of (1 * 2 ^ x % 2 ^ 64) s) same ∙ spreads_6 s l

-- some steps on, a bit is as far past one of the word's as the first is
in_step : (first order q : ℕ) → (first + q * 2 ^ order) % 64 % 2 ^ order ≡ first % 64 % 2 ^ order
in_step first order q =
    below_or_not order 6
    (λ h.
    let sum : 6 ≡ (6 - order) + order = omega arith in
    let whole : 2 ^ 6 ≡ 2 ^ ((6 - order) + order) = ap (λ (k : ℕ). 2 ^ k) sum in
    let below : (x : ℕ) → x % 2 ^ 6 % 2 ^ order ≡ x % 2 ^ order = λ x. ap (λ (d : ℕ). x % d % 2 ^ order) whole ∙ mod-mod-pow x (6 - order) order in
    below (first + q * 2 ^ order) ∙ add-mul-mod_self_right first q (2 ^ order) ∙ sym (below first))
    (λ h.
    let sum : order ≡ (order - 6) + 6 = omega arith in
    let wide : 2 ^ order ≡ 2 ^ (order - 6) * 2 ^ 6 = ap (λ (k : ℕ). 2 ^ k) sum ∙ pow-add 2 (order - 6) 6 in
    let words : q * 2 ^ order ≡ q * 2 ^ (order - 6) * 64 = ap (λ (x : ℕ). q * x) wide ∙ sym (mul_assoc q (2 ^ (order - 6)) 64) in
    let same : (first + q * 2 ^ order) % 64 ≡ first % 64 = ap (λ (x : ℕ). (first + x) % 64) words ∙ add-mul-mod_self_right first (q * 2 ^ (order - 6)) 64 in
    ap (λ (x : ℕ). x % 2 ^ order) same)

pub starts_known : (first order r : ℕ) → Spreads order r → Starts first order (r * 2 ^ (first % 64 % 2 ^ order) % 2 ^ 64)
starts_known first order r sp q =
    let s = (first + q * 2 ^ order) % 64 in
    ap (λ (x : ℕ). bit_of (r * 2 ^ x % 2 ^ 64) s) (sym (in_step first order q)) ∙ sp s (mod-lt (first + q * 2 ^ order) (omega arith))
