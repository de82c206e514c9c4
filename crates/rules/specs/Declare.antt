-- Document 01, "Boot and area declaration": declare (base, size, limit, alignment, k, fixed). Amounts are bytes.
use Rattle.std.specs.Prelude.{ℕ, suc, ◌+◌, ◌-◌, ◌*◌, ◌/◌, ◌^◌, max, Bool, not, ◌&&◌, ◌||◌, ltb, leb, List, [], ◌∷◌, length, ◌==◌, nat_le, nat_lt, if◌then◌else◌}
use Rattle.search.specs.Search.{every, highest_from}
use Rattle.answer.specs.Answers.{done}
use Rattle.frames.specs.declared.Area.{Area}
use Rattle.frames.specs.Units.{frame, place}
use Rattle.frames.specs.Areas.{ceiling, word_count, set_area}
use Rattle.frames.specs.Tables.{Tables, fill, with_bitmap}
use Rattle.text.specs.Numbers.{most_bytes}
use Rattle.regions.specs.Amounts.{is_alignment}
use Rattle.rules.specs.declared.Request.{Request}
use Rattle.rules.specs.declared.Record.{Record}
use Rattle.rules.specs.Record.{place_of, end_frame}
use Rattle.rules.specs.Limits.{most_areas, page_bytes}
use Rattle.rules.specs.Shape.{shape_wrong, words_needed}
use Rattle.rules.specs.Outcomes.{Outcome, outcome, Check, ◌⇒◌, checked}
use Rattle.rules.specs.PageCalls.{free_ordinary}

-- an amount passes 2^48, the size is 0, or the alignment is neither 0 nor a power of two
abbrev pub bad_request : Request → Bool
bad_request r =
    nat_lt most_bytes r.base || nat_lt most_bytes r.size || nat_lt most_bytes r.limit || nat_lt most_bytes r.alignment || r.size == 0 ||
    not (is_alignment r.alignment)

abbrev pub round_up : ℕ → ℕ → ℕ
round_up x d = ceiling x d * d

abbrev pub round_down : ℕ → ℕ → ℕ
round_down x d = x / d * d

-- A: the alignment, and a block at the least
unfoldable pub alignment_for : Record → Request → ℕ
alignment_for m r = max r.alignment (page_bytes * 2 ^ m.memory.block_order)

-- base and size round up to A
unfoldable pub base_for : Record → Request → ℕ
base_for m r = round_up r.base (alignment_for m r)

unfoldable pub size_for : Record → Request → ℕ
size_for m r = round_up r.size (alignment_for m r)

-- base 0 cancels fixed
abbrev pub is_fixed : Record → Request → Bool
is_fixed m r = r.fixed && not (base_for m r == 0)

-- memory in bytes: its first, and the one after its last
abbrev pub start_byte : Record → ℕ
start_byte m = m.memory.base.0 * page_bytes

abbrev pub end_byte : Record → ℕ
end_byte m = end_frame m * page_bytes

-- the limit rounds down to A
abbrev pub limit_rounded : Record → Request → ℕ
limit_rounded m r = round_down r.limit (alignment_for m r)

-- document 02, request (ii): a nonzero limit, as given, rounds to 0
abbrev pub limit_vanishes : Record → Request → Bool
limit_vanishes m r = not (r.limit == 0) && limit_rounded m r == 0

-- the limit, cut to memory: one that is now 0, or past the end of memory, becomes the end
unfoldable pub limit_for : Record → Request → ℕ
limit_for m r = if limit_rounded m r == 0 || nat_lt (end_byte m) (limit_rounded m r) then end_byte m else limit_rounded m r

-- where a fixed range ends
abbrev pub end_for : Record → Request → ℕ
end_for m r = base_for m r + size_for m r

-- document 02, request (viii): a fixed range ends above the limit as it now stands, unless that was given as 0
abbrev pub above_limit : Record → Request → Bool
above_limit m r = is_fixed m r && not (r.limit == 0) && nat_lt (limit_for m r) (end_for m r)

-- the area that begins at a byte
abbrev pub area_from : Record → Request → ℕ → Area
area_from m r at = record { base = frame (at / page_bytes); count = size_for m r / page_bytes; order_per_bit = r.order_per_bit }

-- the area would hold only free ordinary frames
unfoldable pub is_vacant : Record → Tables → Area → Bool
is_vacant m t a = every (λ q. free_ordinary m t (place q)) (place_of m a.base).0 a.count

-- a fixed range is outside memory
abbrev pub is_outside : Record → Request → Bool
is_outside m r = nat_lt (base_for m r) (start_byte m) || nat_lt (end_byte m) (end_for m r)

-- the multiples of A at or above base and in memory, up to the limit: the first, and how many
abbrev pub first_multiple : Record → Request → ℕ
first_multiple m r = ceiling (max (base_for m r) (start_byte m)) (alignment_for m r)

abbrev pub multiples : Record → Request → ℕ
multiples m r = suc (limit_for m r / alignment_for m r) - first_multiple m r

-- the area at the c-th multiple of A ends at or below the limit, and is vacant
unfoldable pub fits_at : Record → Request → Tables → ℕ → Bool
fits_at m r t c =
    nat_le (c * alignment_for m r + size_for m r) (limit_for m r) && is_vacant m t (area_from m r (c * alignment_for m r))

-- the highest multiple that fits; the one after the last where none does
unfoldable pub highest_fit : Record → Request → Tables → ℕ
highest_fit m r t = highest_from (fits_at m r t) (first_multiple m r) (multiples m r)

-- where the area begins
abbrev pub start_for : Record → Request → Tables → ℕ
start_for m r t = if is_fixed m r then base_for m r else highest_fit m r t * alignment_for m r

abbrev pub with_area : Record → Area → Record
with_area m a =
    record {
      memory =
          record {
            base = m.memory.base;
            frames = m.memory.frames;
            block_order = m.memory.block_order;
            declared = suc m.memory.declared;
          };
      areas = set_area m.areas m.memory.declared a;
    }

-- the area that is declared
abbrev pub area_for : Record → Request → Tables → Area
area_for m r t = area_from m r (start_for m r t)

abbrev pub declare_checks : Record → Request → Tables → List Check
declare_checks m r t =
    shape_wrong m t ⇒ 1 ∷
    leb most_areas m.memory.declared ⇒ 10 ∷
    bad_request r ⇒ 2 ∷
    ltb m.memory.block_order r.order_per_bit ⇒ 11 ∷
    limit_vanishes m r ⇒ 11 ∷
    above_limit m r ⇒ 11 ∷
    ltb (length t.bitmap) (words_needed m + word_count (area_for m r t)) ⇒ 14 ∷
    (is_fixed m r && is_outside m r) ⇒ 13 ∷
    (is_fixed m r && not (is_vacant m t (area_for m r t))) ⇒ 12 ∷
    (not (is_fixed m r) && nat_le (first_multiple m r + multiples m r) (highest_fit m r t)) ⇒ 13 ∷
    []

unfoldable pub declare : Record → Request → Tables → Outcome
declare m r t =
    let a = area_for m r t in
    checked m t (declare_checks m r t)
    (outcome (with_area m a) (done a.base.0 a.count) (with_bitmap t (fill t.bitmap (words_needed m) (word_count a) 0)))
