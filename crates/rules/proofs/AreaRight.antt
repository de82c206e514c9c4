-- The areas of a record of the right shape. Assumes nothing.
--     AreaFacts      what the shape says of one area; fits_facts: of one that fits; area_known, area_facts: of each that is declared
--     in_area        a frame of a declared area is not ordinary
--     ordinary_free, ordinary_is    the two halves of a free ordinary frame
use Rattle.std.proofs.Common.{◌≡◌, ℕ, ◌+◌, ◌^◌, ◌<◌, ◌≤◌, Bool, true, false, not, ◌&&◌, leb, ap, le-leb, leb-true}
use Rattle.search.specs.Search.{every}
use Rattle.search.proofs.Bools.{and_left, and_right}
use Rattle.frames.specs.declared.Area.{Area}
use Rattle.frames.specs.declared.Place.{Place}
use Rattle.frames.specs.Units.{place}
use Rattle.frames.specs.Areas.{is_multiple, end_of, are_disjoint}
use Rattle.frames.specs.Tables.{Tables}
use Rattle.frames.proofs.AreaFacts.{holds_yes, in_area as is_in_areas}
use Rattle.rules.specs.declared.Record.{Record}
use Rattle.rules.specs.Record.{area_at, frame_at, is_ordinary, end_frame}
use Rattle.rules.specs.Shape.{area_right, area_fits, shape_right}
use Rattle.rules.specs.PageCalls.{is_free, free_ordinary}
use Rattle.rules.proofs.Shapes.{Shape, shape_known}

pub record AreaFacts (m : Record) (a : Area) : Type 0 where
  pub some : 1 ≤ a.count
  pub order : a.order_per_bit ≤ m.memory.block_order
  pub first : is_multiple a.base.0 (2 ^ m.memory.block_order) ≡ true
  pub size : is_multiple a.count (2 ^ m.memory.block_order) ≡ true
  pub low : m.memory.base.0 ≤ a.base.0
  pub high : end_of a ≤ end_frame m

module _ (m : Record) (a : Area) where
  abbrev some_test : Bool
  some_test = leb 1 a.count

  abbrev order_test : Bool
  order_test = leb a.order_per_bit m.memory.block_order

  abbrev first_test : Bool
  first_test = is_multiple a.base.0 (2 ^ m.memory.block_order)

  abbrev size_test : Bool
  size_test = is_multiple a.count (2 ^ m.memory.block_order)

  abbrev low_test : Bool
  low_test = leb m.memory.base.0 a.base.0

  abbrev high_test : Bool
  high_test = leb (end_of a) (end_frame m)

  pub right_facts : area_right m.memory a ≡ true → AreaFacts m a
  unfolding area_right
  right_facts e =
      let e₅ = and_left (some_test && order_test && first_test && size_test && low_test) high_test e in
      let e₄ = and_left (some_test && order_test && first_test && size_test) low_test e₅ in
      let e₃ = and_left (some_test && order_test && first_test) size_test e₄ in
      let e₂ = and_left (some_test && order_test) first_test e₃ in
      record {
        some = leb-true 1 a.count (and_left some_test order_test e₂);
        order = leb-true a.order_per_bit m.memory.block_order (and_right some_test order_test e₂);
        first = and_right (some_test && order_test) first_test e₃;
        size = and_right (some_test && order_test && first_test) size_test e₄;
        low = leb-true m.memory.base.0 a.base.0 (and_right (some_test && order_test && first_test && size_test) low_test e₅);
        high = leb-true (end_of a) (end_frame m) (and_right (some_test && order_test && first_test && size_test && low_test) high_test e);
      }

  pub facts_right : AreaFacts m a → area_right m.memory a ≡ true
  unfolding area_right
  facts_right f =
      rw (
        le-leb 1 a.count f.some,
        le-leb a.order_per_bit m.memory.block_order f.order,
        f.first,
        f.size,
        le-leb m.memory.base.0 a.base.0 f.low,
        le-leb (end_of a) (end_frame m) f.high,
      )

pub fits_facts : (m : Record) (i : ℕ) → area_fits m i ≡ true → AreaFacts m (area_at m i)
unfolding area_fits
fits_facts m i e =
    right_facts m (area_at m i) (and_left (area_right m.memory (area_at m i)) (every (λ k. are_disjoint (area_at m k) (area_at m i)) 0 i) e)

pub area_known : (m : Record) (t : Tables) → Shape m t → (i : ℕ) → i < m.memory.declared → AreaFacts m (area_at m i)
area_known m t s i h = fits_facts m i (s.areas_fit i h)

pub area_facts : (m : Record) (t : Tables) → shape_right m t ≡ true → (i : ℕ) → i < m.memory.declared → AreaFacts m (area_at m i)
area_facts m t e = area_known m t (shape_known m t e)

pub in_area :
    (m : Record) (i q : ℕ) →
    i < m.memory.declared → (area_at m i).base.0 ≤ m.memory.base.0 + q → m.memory.base.0 + q < end_of (area_at m i) → is_ordinary m (place q) ≡ false
in_area m i q h low high =
    ap not (is_in_areas m.areas m.memory.declared (frame_at m (place q)) i h (holds_yes (area_at m i) (m.memory.base.0 + q) low high))

module _ (m : Record) (t : Tables) where
  pub ordinary_free : (p : Place) → free_ordinary m t p ≡ true → is_free t p ≡ true
  unfolding free_ordinary
  ordinary_free p e = and_left (is_free t p) (is_ordinary m p) e

  pub ordinary_is : (p : Place) → free_ordinary m t p ≡ true → is_ordinary m p ≡ true
  unfolding free_ordinary
  ordinary_is p e = and_right (is_free t p) (is_ordinary m p) e
