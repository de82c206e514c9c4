-- What a release does, from what its checks found. Assumes nothing.
--     Ranged, ranged                   what is known of a range whose area and arguments passed
--     release_refused, release_done    what the call does
--     freed                            the tables after the run is freed
use Prim.Native.Nat.{ℕ, ◌+◌, ◌-◌, ◌≤◌, ◌<◌}
use native.Mathlib.Omega.{arith}
use mathlib.Core.Path.{◌≡◌, sym, ap, ◌∙◌}
use mathlib.Core.Bool.{Bool, true, false, ◌||◌}
use mathlib.Core.List.{List}
use lib.Dec.{ltb, eqb}
use lib.ListN.{length}
use borrow.Author.Tests.{ltb-false, leb-false, eqb-false}
use Rattle.search.proofs.Bools.{below_or_not, or_left, or_right}
use Rattle.answer.specs.Answers.{done}
use Rattle.bitmap.specs.Bits.{clear_bits}
use Rattle.frames.specs.declared.Bit.{Bit}
use Rattle.frames.specs.declared.Frame.{Frame}
use Rattle.frames.specs.declared.Place.{Place}
use Rattle.frames.specs.Units.{most_number}
use Rattle.frames.specs.Areas.{end_of, bit_of_frame, bits_for}
use Rattle.frames.specs.Tables.{Tables, tables, fill}
use Rattle.rules.specs.declared.Record.{Record}
use Rattle.rules.specs.Record.{area_at, place_of}
use Rattle.rules.specs.Limits.{most_block_order}
use Rattle.rules.specs.Shape.{shape_right}
use Rattle.rules.specs.Outcomes.{outcome, refuse, First, Passed}
use Rattle.rules.specs.DeviceCalls.{bitmap_of, is_unknown, outside_area, free_run, release_checks, release}
use Rattle.rules.proofs.Checks.{checked_first, checked_passed}
use Rattle.rules.proofs.Shapes.{shape_known}
use Rattle.rules.proofs.AreaRight.{area_known}
use Rattle.rules.proofs.FirstWords.{first_word_exact}

module _ (m : Record) (i : ℕ) (f : Frame) (count : ℕ) (t : Tables) where
  abbrev bad_range : Bool
  bad_range = is_unknown m.memory i || eqb count 0 || outside_area (area_at m i) f count

  -- what is known of a range whose area and arguments are right
  pub record Ranged : Type 0 where
    pub order : (area_at m i).order_per_bit ≤ most_block_order
    pub in_area : (area_at m i).base.0 ≤ f.0
    pub in_marks : f.0 - m.memory.base.0 < length t.marks
    pub in_owners : f.0 - m.memory.base.0 < length t.owners
    pub positive : 0 < count
    pub words_high : bitmap_of m i ≤ most_number

  pub ranged : shape_right m t ≡ true → bad_range ≡ false → Ranged
  ranged s b =
      let k = shape_known m t s in
      let x : Bool = is_unknown m.memory i in
      let y : Bool = eqb count 0 in
      let z : Bool = outside_area (area_at m i) f count in
      let xy = or_left (x || y) z b in
      let declared : i < m.memory.declared = leb-false m.memory.declared i (or_left x y xy) in
      let positive : 0 < count = below_or_not 0 count (λ h. h) (λ h. absurd (eqb-false count 0 (or_right x y xy) (omega arith))) in
      let u : Bool = ltb f.0 (area_at m i).base.0 in
      let v : Bool = ltb (end_of (area_at m i)) (f.0 + count) in
      let uv = or_right (x || y) z b in
      let low : (area_at m i).base.0 ≤ f.0 = ltb-false f.0 (area_at m i).base.0 (or_left u v uv) in
      let high : f.0 + count ≤ end_of (area_at m i) = ltb-false (end_of (area_at m i)) (f.0 + count) (or_right u v uv) in
      let r = area_known m t k i declared in
      record {
        order = omega (arith, r.order, k.memory.order_high);
        in_area = low;
        in_marks = omega (arith, r.low, r.high, k.marks_length);
        in_owners = omega (arith, r.low, r.high, k.owners_length);
        positive = positive;
        words_high = omega (arith, first_word_exact m t s i (let h : i ≤ m.memory.declared = omega arith in h));
      }

  -- what the checks of a release by a device say
  module _ (device : ℕ) where
    pub release_refused : {n : ℕ} → First (release_checks m i f count device t) n → release m i f count device t ≡ refuse m t n
    unfolding release
    release_refused e = checked_first m t _ e

    pub release_done :
        {u : Tables} → Passed (release_checks m i f count device t) → u ≡ free_run m t i f count → release m i f count device t ≡ outcome m (done 0 0) u
    unfolding release
    release_done p e = checked_passed m t _ _ p ∙ ap (λ (x : Tables). outcome m (done 0 0) x) (sym e)

  -- the run's frames and bits
  pub freed : {marks words bitmap owners : List ℕ} {p : Place} {first : Bit} {start bits : ℕ} → p ≡ place_of m f → start ≡ bitmap_of m i → first ≡ bit_of_frame (area_at m i) f → bits ≡ bits_for (area_at m i) count →
      marks ≡ fill t.marks p.0 count 0 → words ≡ fill t.words p.0 count 0 → bitmap ≡ clear_bits t.bitmap start first.0 bits →
      owners ≡ fill t.owners p.0 count 0 → tables marks words bitmap owners ≡ free_run m t i f count
  unfolding free_run
  freed e st fi bi ms ws bs os = rw (ms, ws, bs, os, e, st, fi, bi)
