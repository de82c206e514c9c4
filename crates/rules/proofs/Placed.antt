-- Where an accepted declare puts its area: at a multiple of the alignment, in memory, on free ordinary frames. Assumes nothing.
--     Placed          the place; placed: the checks that an accepted declare passed find one
--     Declarable      so the area is right and vacant, and its bitmap has room
use Rattle.std.proofs.Common.{◌≡◌, ℕ, ◌+◌, ◌*◌, ◌/◌, ◌<◌, ◌≤◌, max, Bool, true, false, not, ◌&&◌, ltb, leb, length, sym, refl, ap, ◌∙◌, subst, mul-le-mul_right, arith, ltb-false, leb-false, leb-true}
use native.Mathlib.Nat.{le-max_right}
use borrow.Author.Tests.{not-false}
use Rattle.std.specs.Prelude.{if◌then◌else◌}
use Rattle.search.proofs.Bools.{by_cases, and_left, and_right, or_left, or_right}
use Rattle.search.proofs.Highest.{highest_greatest}
use Rattle.search.proofs.Ranges.{every_all}
use Rattle.frames.specs.declared.Area.{Area}
use Rattle.frames.specs.Units.{place}
use Rattle.frames.specs.Areas.{ceiling, end_of, word_count}
use Rattle.frames.specs.Tables.{Tables}
use Rattle.rules.specs.declared.Request.{Request}
use Rattle.rules.specs.declared.Record.{Record}
use Rattle.rules.specs.Record.{place_of}
use Rattle.rules.specs.Declare.{bad_request, alignment_for, base_for, size_for, limit_for, is_fixed, start_byte, end_byte, area_from, area_for, is_vacant, is_outside, first_multiple, multiples, fits_at, highest_fit, start_for}
use Rattle.rules.specs.Limits.{most_areas, page_bytes}
use Rattle.rules.specs.Shape.{words_needed}
use Rattle.rules.specs.PageCalls.{free_ordinary}
use Rattle.rules.proofs.Divisions.{up_low, ceiling_some}
use Rattle.rules.proofs.Rounding.{Blocks, asked, alignment_some, limit_high, alignment_blocks, pages_of, bytes_of, pages_multiple, pages_some}
use Rattle.rules.proofs.AreaRight.{AreaFacts}

-- where an accepted declare puts its area: at a multiple of the alignment, in memory, on vacant frames
pub record Placed (m : Record) (r : Request) (t : Tables) : Type 0 where
  pub at : ℕ
  pub is : start_for m r t ≡ at * alignment_for m r
  pub low : start_byte m ≤ at * alignment_for m r
  pub high : at * alignment_for m r + size_for m r ≤ end_byte m
  pub vacant : is_vacant m t (area_from m r (at * alignment_for m r)) ≡ true

module _ (m : Record) (r : Request) (t : Tables) (good : bad_request r ≡ false) where
  blocks : Blocks (alignment_for m r) m.memory.block_order
  blocks = alignment_blocks m r (asked r good).aligned

  at_base :
      is_fixed m r ≡ true → is_outside m r ≡ false → is_vacant m t (area_from m r (start_for m r t)) ≡ true → Placed m r t
  unfolding base_for
  at_base e inside vacant =
      let is : start_for m r t ≡ ceiling r.base (alignment_for m r) * alignment_for m r =
      ap (λ (b : Bool). if b then base_for m r else highest_fit m r t * alignment_for m r) e
      in
      record {
        at = ceiling r.base (alignment_for m r);
        is = is;
        low = ltb-false (base_for m r) (start_byte m) (or_left (ltb (base_for m r) (start_byte m)) (ltb (end_byte m) (base_for m r + size_for m r)) inside);
        high =
            ltb-false (end_byte m) (base_for m r + size_for m r)
            (or_right (ltb (base_for m r) (start_byte m)) (ltb (end_byte m) (base_for m r + size_for m r)) inside);
        vacant = ap (λ (x : ℕ). is_vacant m t (area_from m r x)) (sym is) ∙ vacant;
      }

  at_highest : is_fixed m r ≡ false → leb (first_multiple m r + multiples m r) (highest_fit m r t) ≡ false → Placed m r t
  unfolding highest_fit fits_at
  at_highest e found =
      let c = highest_fit m r t in
      let a = alignment_for m r in
      let greatest = highest_greatest (fits_at m r t) (first_multiple m r) (multiples m r) in
      let hit : fits_at m r t c ≡ true = greatest.hit (leb-false (first_multiple m r + multiples m r) c found) in
      let ends = leb (c * a + size_for m r) (limit_for m r) in
      let empty = is_vacant m t (area_from m r (c * a)) in
      let below = leb-true (c * a + size_for m r) (limit_for m r) (and_left ends empty hit) in
      let limit = limit_high m r in
      let above : first_multiple m r ≤ c = greatest.low in
      let wide : first_multiple m r * a ≤ c * a = mul-le-mul_right a above in
      let hold = up_low (max (base_for m r) (start_byte m)) a (alignment_some m r) in
      let least = le-max_right (base_for m r) (start_byte m) in
      record {
        at = c;
        is = ap (λ (b : Bool). if b then base_for m r else highest_fit m r t * alignment_for m r) e;
        low = omega arith;
        high = omega arith;
        vacant = and_right ends empty hit;
      }

  pub placed :
      (is_fixed m r && is_outside m r) ≡ false →
      (is_fixed m r && not (is_vacant m t (area_from m r (start_for m r t)))) ≡ false →
      (not (is_fixed m r) && leb (first_multiple m r + multiples m r) (highest_fit m r t)) ≡ false → Placed m r t
  placed inside vacant found =
      by_cases (is_fixed m r)
      (λ e.
      at_base e (sym (ap (λ (b : Bool). b && is_outside m r) e) ∙ inside)
      (not-false (is_vacant m t (area_from m r (start_for m r t)))
      (sym (ap (λ (b : Bool). b && not (is_vacant m t (area_from m r (start_for m r t)))) e) ∙ vacant)))
      (λ e. at_highest e (sym (ap (λ (b : Bool). not b && leb (first_multiple m r + multiples m r) (highest_fit m r t)) e) ∙ found))

  -- ---- the area that it declares

  module _ (order : r.order_per_bit ≤ m.memory.block_order) (p : Placed m r t) where
    abbrev pub area : Area
    area = area_from m r (p.at * alignment_for m r)

    abbrev size_times : ℕ
    size_times = ceiling r.size (alignment_for m r)

    size_is : size_for m r ≡ size_times * alignment_for m r
    unfolding size_for
    size_is = refl

    pub area_right_lem : AreaFacts m area
    area_right_lem =
        let b = blocks in
        let from = pages_of p.at (alignment_for m r) m.memory.block_order b in
        let from_bytes = bytes_of p.at (alignment_for m r) m.memory.block_order b in
        let count = ap (λ (x : ℕ). x / page_bytes) size_is ∙ pages_of size_times (alignment_for m r) m.memory.block_order b in
        let count_bytes = size_is ∙ bytes_of size_times (alignment_for m r) m.memory.block_order b in
        let low = p.low in
        let high = p.high in
        record {
          some = rw size_is (pages_some size_times (alignment_for m r) m.memory.block_order b (ceiling_some r.size (alignment_for m r) (alignment_some m r) (asked r good).size_some));
          order = order;
          first = pages_multiple p.at (alignment_for m r) m.memory.block_order b;
          size = rw size_is (pages_multiple size_times (alignment_for m r) m.memory.block_order b);
          low = omega arith;
          high = omega arith;
        }

    -- each frame of the area is free and ordinary
    vacant_at_lem : (q : ℕ) → area.base.0 ≤ m.memory.base.0 + q → m.memory.base.0 + q < end_of area → free_ordinary m t (place q) ≡ true
    unfolding is_vacant
    vacant_at_lem q a b =
        let low = area_right_lem.low in
        every_all (λ q. free_ordinary m t (place q)) (place_of m area.base).0 area.count p.vacant q (omega arith) (omega arith)

-- ---- the checks that it passed

pub record Declarable (m : Record) (r : Request) (t : Tables) : Type 0 where
  pub more : m.memory.declared < most_areas
  pub right : AreaFacts m (area_for m r t)
  pub room : words_needed m + word_count (area_for m r t) ≤ length t.bitmap
  pub vacant : (q : ℕ) → (area_for m r t).base.0 ≤ m.memory.base.0 + q → m.memory.base.0 + q < end_of (area_for m r t) → free_ordinary m t (place q) ≡ true

pub declarable :
    (m : Record) (r : Request) (t : Tables) →
    leb most_areas m.memory.declared ≡ false →
    bad_request r ≡ false →
    ltb m.memory.block_order r.order_per_bit ≡ false →
    ltb (length t.bitmap) (words_needed m + word_count (area_for m r t)) ≡ false → Placed m r t → Declarable m r t
declarable m r t full good order room p =
    let low : r.order_per_bit ≤ m.memory.block_order = ltb-false m.memory.block_order r.order_per_bit order in
    let same : area m r t good low p ≡ area_for m r t = ap (area_from m r) (sym p.is) in
    record {
      more = leb-false most_areas m.memory.declared full;
      right = subst (AreaFacts m) same (area_right_lem m r t good low p);
      room = ltb-false (length t.bitmap) (words_needed m + word_count (area_for m r t)) room;
      vacant =
          subst (λ (x : Area). (q : ℕ) → x.base.0 ≤ m.memory.base.0 + q → m.memory.base.0 + q < end_of x → free_ordinary m t (place q) ≡ true) same
          (vacant_at_lem m r t good low p);
    }
