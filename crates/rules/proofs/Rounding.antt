-- The amounts of a request that is not bad, rounded. Assumes nothing.
--     Asked, asked                what the tests of a request say
--     Blocks, alignment_blocks    an alignment for a declaration is a number of blocks, and so is what is rounded to it
--     limit_high, limit_given     the limit is in memory, and not above what was given unless that vanishes
--     limit_keeps                 what ends at or below both, at a multiple of the alignment, ends at or below the limit
--     Amounts, amounts            how large the rounded amounts can be
use Rattle.std.proofs.Common.{◌≡◌, ℕ, suc, ◌+◌, ◌-◌, ◌*◌, ◌/◌, ◌%◌, ◌^◌, ◌<◌, ◌≤◌, Bool, true, false, not, ◌&&◌, ◌||◌, eqb, ltb, ◌≢◌, sym, ap, ◌∙◌, subst, mul_assoc, mul_comm, mul-pos, one-mul, mul-div_cancel, arith, pow_pos, pow_mono, pow-add, ltb-false, ltb-true, eq-eqb, ne_eqb, eqb-true}
use native.Mathlib.Nat.{mul-mod_left, max-eq_left, max-eq_right, pow-succ'}
use borrow.Author.Tests.{eqb-false, not-false}
use Rattle.search.proofs.Bools.{by_cases, below_or_not, or_left, or_right}
use Rattle.search.proofs.Ranges.{some_yes}
use Rattle.frames.specs.Areas.{is_multiple}
use Rattle.text.specs.Numbers.{most_bytes}
use Rattle.regions.specs.Amounts.{is_power_of_two, is_alignment}
use Rattle.rules.specs.declared.Request.{Request}
use Rattle.rules.specs.declared.Record.{Record}
use Rattle.rules.specs.Declare.{bad_request, alignment_for, base_for, size_for, limit_rounded, limit_vanishes, limit_for, end_byte}
use Rattle.rules.specs.Limits.{most_block_order, page_bytes}
use Rattle.rules.specs.Shape.{memory_right}
use Rattle.rules.proofs.Divisions.{up_low, up_high, down_low, down_keeps}
use Rattle.rules.proofs.Shapes.{MemoryFacts, memory_known}

pub record Asked (r : Request) : Type 0 where
  pub base_high : r.base ≤ most_bytes
  pub size_high : r.size ≤ most_bytes
  pub alignment_high : r.alignment ≤ most_bytes
  pub size_some : 1 ≤ r.size
  pub aligned : is_alignment r.alignment ≡ true

pub asked : (r : Request) → bad_request r ≡ false → Asked r
asked r e =
    let a : Bool = ltb most_bytes r.base in
    let b : Bool = ltb most_bytes r.size in
    let c : Bool = ltb most_bytes r.limit in
    let d : Bool = ltb most_bytes r.alignment in
    let f : Bool = eqb r.size 0 in
    let g : Bool = not (is_alignment r.alignment) in
    let abcdf = or_left (a || b || c || d || f) g e in
    let abcd = or_left (a || b || c || d) f abcdf in
    let abc = or_left (a || b || c) d abcd in
    let ab = or_left (a || b) c abc in
    let some = eqb-false r.size 0 (or_right (a || b || c || d) f abcdf) in
    record {
      base_high = ltb-false most_bytes r.base (or_left a b ab);
      size_high = ltb-false most_bytes r.size (or_right a b ab);
      alignment_high = ltb-false most_bytes r.alignment (or_right (a || b || c) d abcd);
      size_some = omega arith;
      aligned = not-false (is_alignment r.alignment) (or_right (a || b || c || d || f) g e);
    }

-- so many blocks of 2^block_order pages, in bytes
pub record Blocks (amount block_order : ℕ) : Type 0 where
  pub times : ℕ
  pub some : 1 ≤ times
  pub is : amount ≡ times * 2 ^ block_order * page_bytes

-- a power of two at or above a block is a number of blocks
power_blocks : (k block_order : ℕ) → page_bytes * 2 ^ block_order ≤ 2 ^ k → Blocks (2 ^ k) block_order
power_blocks k block_order h =
    below_or_not k (12 + block_order)
    (λ low.
    let less : 2 ^ suc k ≤ 2 ^ (12 + block_order) = pow_mono {i = suc k} {j = 12 + block_order} low in
    let parts : 2 ^ (12 + block_order) ≡ page_bytes * 2 ^ block_order = pow-add 2 12 block_order in
    let twice : 2 ^ suc k ≡ 2 * 2 ^ k = pow-succ' 2 k in
    let positive = pow_pos k in
    absurd (omega arith))
    (λ high.
    let e = k - (12 + block_order) in
    let whole : k ≡ e + (block_order + 12) = omega arith in
    record {
      times = 2 ^ e;
      some = pow_pos e;
      is = ap (λ (x : ℕ). 2 ^ x) whole ∙ pow-add 2 e (block_order + 12) ∙ ap (λ (x : ℕ). 2 ^ e * x) (pow-add 2 block_order 12) ∙ sym (mul_assoc (2 ^ e) (2 ^ block_order) page_bytes);
    })

one_block : (block_order : ℕ) → Blocks (page_bytes * 2 ^ block_order) block_order
one_block block_order = record { times = 1; some = omega arith; is = mul_comm page_bytes (2 ^ block_order) ∙ ap (λ (x : ℕ). x * page_bytes) (sym (one-mul (2 ^ block_order))) }

pub alignment_blocks : (m : Record) (r : Request) → is_alignment r.alignment ≡ true → Blocks (alignment_for m r) m.memory.block_order
unfolding alignment_for is_power_of_two
alignment_blocks m r e =
    let block = page_bytes * 2 ^ m.memory.block_order in
    below_or_not r.alignment block (λ low. subst (λ (x : ℕ). Blocks x m.memory.block_order) (sym (max-eq_right {n = r.alignment} {m = block} (omega arith))) (one_block m.memory.block_order))
    (λ high.
    subst (λ (x : ℕ). Blocks x m.memory.block_order) (sym (max-eq_left {n = r.alignment} {m = block} high))
    (by_cases (eqb r.alignment 0)
    (λ z.
    let none = eqb-true r.alignment 0 z in
    let positive = pow_pos m.memory.block_order in
    absurd (omega arith))
    (λ n.
    let w = some_yes (λ k. eqb r.alignment (2 ^ k)) 0 64 (power e n) in
    let is = eqb-true r.alignment (2 ^ w.at) w.hit in
    subst (λ (x : ℕ). Blocks x m.memory.block_order) (sym is) (power_blocks w.at m.memory.block_order (rw is at high)))))
  where
    power : is_alignment r.alignment ≡ true → eqb r.alignment 0 ≡ false → is_power_of_two r.alignment ≡ true
    power e n = sym (ap (λ (b : Bool). b || is_power_of_two r.alignment) n) ∙ e

-- so many times an amount of blocks: its pages, which are a multiple of a block
module _ (c amount block_order : ℕ) (b : Blocks amount block_order) where
  pub pages_of : c * amount / page_bytes ≡ c * (b.times * 2 ^ block_order)
  pages_of =
      ap (λ (x : ℕ). c * x / page_bytes) b.is ∙
      ap (λ (x : ℕ). x / page_bytes) (sym (mul_assoc c (b.times * 2 ^ block_order) page_bytes)) ∙
      mul-div_cancel (c * (b.times * 2 ^ block_order)) {n = page_bytes} (omega arith)

  pub bytes_of : c * amount ≡ c * (b.times * 2 ^ block_order) * page_bytes
  bytes_of = ap (λ (x : ℕ). c * x) b.is ∙ sym (mul_assoc c (b.times * 2 ^ block_order) page_bytes)

  pub in_pages : c * amount ≡ c * amount / page_bytes * page_bytes
  in_pages = bytes_of ∙ ap (λ (x : ℕ). x * page_bytes) (sym pages_of)

  pub pages_multiple : is_multiple (c * amount / page_bytes) (2 ^ block_order) ≡ true
  pages_multiple =
      eq-eqb (c * amount / page_bytes % 2 ^ block_order) 0
      (ap (λ (x : ℕ). x % 2 ^ block_order) (pages_of ∙ sym (mul_assoc c b.times (2 ^ block_order))) ∙ mul-mod_left (c * b.times) (2 ^ block_order))

  pub pages_some : 1 ≤ c → 1 ≤ c * amount / page_bytes
  pages_some some = rw pages_of (mul-pos {m = c} {n = b.times * 2 ^ block_order} some (mul-pos {m = b.times} {n = 2 ^ block_order} b.some (pow_pos block_order)))

-- ---- the amounts
pub alignment_some : (m : Record) (r : Request) → 0 < alignment_for m r
unfolding alignment_for
alignment_some m r = omega (arith, pow_pos m.memory.block_order)

pub limit_high : (m : Record) (r : Request) → limit_for m r ≤ end_byte m
unfolding limit_for
limit_high m r =
    let limit = limit_rounded m r in
    by_cases (eqb limit 0 || ltb (end_byte m) limit) (λ e. rw e (omega arith))
    (λ e. rw e (ltb-false (end_byte m) limit (or_right (eqb limit 0) (ltb (end_byte m) limit) e)))

pub limit_given : (m : Record) (r : Request) → r.limit ≢ 0 → limit_vanishes m r ≡ false → limit_for m r ≤ r.limit
unfolding limit_for
limit_given m r given stays =
    let limit = limit_rounded m r in
    let low : limit ≤ r.limit = down_low r.limit (alignment_for m r) (alignment_some m r) in
    let some : eqb limit 0 ≡ false = sym (ap (λ (b : Bool). not b && eqb limit 0) (ne_eqb r.limit 0 given)) ∙ stays in
    by_cases (ltb (end_byte m) limit) (λ e. rw (some, e) (omega (arith, ltb-true (end_byte m) limit e))) (λ e. rw (some, e) low)

pub limit_keeps : (m : Record) (r : Request) (c : ℕ) → c * alignment_for m r ≤ r.limit → c * alignment_for m r ≤ end_byte m → c * alignment_for m r ≤ limit_for m r
unfolding limit_for
limit_keeps m r c given inside =
    let limit = limit_rounded m r in
    by_cases (eqb limit 0 || ltb (end_byte m) limit) (λ e. rw e inside) (λ e. rw e (down_keeps r.limit (alignment_for m r) c (alignment_some m r) given))

pub record Amounts (m : Record) (r : Request) : Type 0 where
  pub blocks : Blocks (alignment_for m r) m.memory.block_order
  pub alignment_high : alignment_for m r ≤ most_bytes
  pub base_high : base_for m r ≤ 2 * most_bytes
  pub size_high : size_for m r ≤ 2 * most_bytes
  pub size_some : 1 ≤ size_for m r
  pub base_pages : base_for m r ≡ base_for m r / page_bytes * page_bytes
  pub size_pages : size_for m r ≡ size_for m r / page_bytes * page_bytes

alignment_most : (m : Record) (r : Request) → MemoryFacts m.memory.base.0 m.memory.frames m.memory.block_order → Asked r → alignment_for m r ≤ most_bytes
unfolding alignment_for
alignment_most m r k a =
    let power : 2 ^ m.memory.block_order ≤ 2 ^ most_block_order = pow_mono k.order_high in
    omega (arith, a.alignment_high)

pub amounts : (m : Record) (r : Request) → memory_right m.memory.base.0 m.memory.frames m.memory.block_order ≡ true → bad_request r ≡ false → Amounts m r
unfolding base_for size_for
amounts m r memory good =
    let a = asked r good in
    let d = alignment_for m r in
    let some = alignment_some m r in
    let high = alignment_most m r (memory_known _ _ _ memory) a in
    let blocks = alignment_blocks m r a.aligned in
    record {
      blocks = blocks;
      alignment_high = high;
      base_high = omega (arith, up_high r.base d some, a.base_high);
      size_high = omega (arith, up_high r.size d some, a.size_high);
      size_some = omega (arith, up_low r.size d some, a.size_some);
      base_pages = in_pages _ d m.memory.block_order blocks;
      size_pages = in_pages _ d m.memory.block_order blocks;
    }
