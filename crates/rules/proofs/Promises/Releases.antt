-- What an accepted release does, on any tables, and what can be granted then. Assumes nothing.
--     stays_clear, stays_grantable    what can be granted stays so where bits are cleared and no frame is taken
--     accepted_release
use Rattle.std.proofs.Common.{◌≡◌, ℕ, ◌+◌, ◌-◌, ◌*◌, ◌/◌, ◌%◌, ◌^◌, ◌<◌, ◌≤◌, Bool, true, false, not, ◌||◌, eqb, ltb, ◌⊎◌, List, get_or, sym, refl, ap, ◌∙◌, subst, inl, mul-le-mul_right, div-add-mod', arith, ltb-false, eqb-true, leb-false}
use Rattle.search.proofs.Bools.{below_or_not, or_left, or_right, not_flips}
use Rattle.bitmap.specs.Bits.{bit_of, is_clear, clear_in}
use Rattle.bitmap.proofs.Word.{clearing}
use Rattle.bitmap.proofs.Changes.{word_kept, cleared_clear, clear_outside}
use Rattle.bitmap.proofs.Runs.{change_length}
use Rattle.answer.specs.Answers.{done}
use Rattle.frames.specs.declared.Area.{Area}
use Rattle.frames.specs.declared.Frame.{Frame}
use Rattle.frames.specs.Units.{place, bit}
use Rattle.frames.specs.Marks.{kind_of, has_kind, free, movable, head}
use Rattle.frames.specs.Areas.{is_multiple, end_of, per_bit, bit_count, frame_of_bit, bit_of_frame, bits_for}
use Rattle.frames.specs.Tables.{Tables, mark_at, word_at, owner_at}
use Rattle.frames.proofs.FillFacts.{length_fill, get_d_fill_below, get_d_fill_above, get_d_fill_in}
use Rattle.rules.specs.declared.Record.{Record}
use Rattle.rules.specs.Record.{area_at, place_of}
use Rattle.rules.specs.Shape.{shape_right}
use Rattle.rules.specs.Outcomes.{outcome, Passed}
use Rattle.rules.specs.DeviceCalls.{is_unknown, bad_device, bitmap_of, place_of_bit, outside_area, off_bit, free_run, release_checks, release}
use Rattle.rules.specs.Promises.Changes.{Same, OnlyBits}
use Rattle.rules.specs.Promises.Grants.{Grantable}
use Rattle.rules.specs.Promises.Releases.{StillGrantable, ReleaseDoes, AcceptedRelease}
use Rattle.rules.proofs.Checks.{accepted_does}
use Rattle.rules.proofs.Shapes.{Shape, shape_known}
use Rattle.rules.proofs.AreaRight.{AreaFacts, area_known}
use Rattle.rules.proofs.Ledger.BitRuns.{run_fits}
use Rattle.rules.proofs.Promises.Changes.{filled_owners}
use Rattle.rules.proofs.Promises.Runs.{in_run_or_not}

-- ---- what can be granted stays so

-- a bit that was clear, of this bitmap or of another, is clear
pub stays_clear :
    (t t' : Tables) (start j d : ℕ) →
    OnlyBits t t' start j d true → (at k : ℕ) → is_clear t.bitmap at k ≡ true → is_clear t'.bitmap at k ≡ true
unfolding is_clear
stays_clear t t' start j d only at k was =
    below_or_not (at + k / 64) start (λ h. ap (λ (w : ℕ). eqb (bit_of w (k % 64)) 0) (only.words_before (at + k / 64) h) ∙ was)
    (λ h.
    let b : ℕ = 64 * ((at + k / 64) - start) + k % 64 in
    let word : start + b / 64 ≡ at + k / 64 = omega arith in
    let bit_in : b % 64 ≡ k % 64 = omega arith in
    let here : (l : List ℕ) → eqb (bit_of (get_or l (start + b / 64) 0) (b % 64)) 0 ≡ eqb (bit_of (get_or l (at + k / 64) 0) (k % 64)) 0 =
    λ l. rw (word, bit_in) in
    sym (here t'.bitmap) ∙
    in_run_or_not b j d (λ a c. only.run b a c) (λ c. only.others b (λ u v. absurd (omega arith)) ∙ here t.bitmap ∙ was)
    (λ c. only.others b (λ u v. absurd (omega arith)) ∙ here t.bitmap ∙ was))

-- a frame that a grant may take
abbrev pub Leaves : Tables → ℕ → Type 0
Leaves t q = (kind_of (mark_at t (place q)) ≡ free) ⊎ (kind_of (mark_at t (place q)) ≡ movable)

pub stays_grantable :
    (m : Record) (t t' : Tables) →
    ((at k : ℕ) → is_clear t.bitmap at k ≡ true → is_clear t'.bitmap at k ≡ true) →
    ((q : ℕ) → Leaves t q → Leaves t' q) → StillGrantable m t t'
stays_grantable m t t' bits frames i count align_order j known g =
    let c = g.candidate in
    record {
      candidate = record { aligned = c.aligned; inside = c.inside; clear = λ k a b. bits (bitmap_of m i) k (c.clear k a b) };
      leaves = λ q a b. frames q (g.leaves q a b);
    }

-- ---- a release that has passed its checks
module _ (m : Record) (i : ℕ) (f : Frame) (count device : ℕ) (t : Tables) (passed : Passed (release_checks m i f count device t)) where
  abbrev area : Area
  area = area_at m i

  abbrev p : ℕ
  p = (place_of m f).0

  abbrev j : ℕ
  j = (bit_of_frame area f).0

  shape : Shape m t
  shape = shape_known m t (not_flips (shape_right m t) passed.0)

  abbrev unknown : Bool
  unknown = is_unknown m.memory i || eqb count 0

  range : (unknown || outside_area area f count) ≡ false
  range = or_left (unknown || outside_area area f count) (bad_device device) passed.1.0

  known : i < m.memory.declared
  known = leb-false m.memory.declared i (or_left (is_unknown m.memory i) (eqb count 0) (or_left unknown (outside_area area f count) range))

  inside : outside_area area f count ≡ false
  inside = or_right unknown (outside_area area f count) range

  low : area.base.0 ≤ f.0
  low = ltb-false f.0 area.base.0 (or_left (ltb f.0 area.base.0) (ltb (end_of area) (f.0 + count)) inside)

  high : f.0 + count ≤ end_of area
  high = ltb-false (end_of area) (f.0 + count) (or_right (ltb f.0 area.base.0) (ltb (end_of area) (f.0 + count)) inside)

  facts : AreaFacts m area
  facts = area_known m t shape i known

  begins : area.base.0 + j * per_bit area ≡ f.0
  begins =
      let first = not (has_kind head (mark_at t (place_of m f))) in
      let on = not_flips (is_multiple (f.0 - area.base.0) (per_bit area)) (or_left (off_bit area f) first passed.1.1.0) in
      omega (arith, low, eqb-true ((f.0 - area.base.0) % per_bit area) 0 on, div-add-mod' (f.0 - area.base.0) (per_bit area))

  is_at : f.0 ≡ m.memory.base.0 + p
  is_at = omega (arith, low, facts.low)

  in_memory : p + count ≤ m.memory.frames
  in_memory = omega (arith, is_at, high, facts.high)

  fits : j + bits_for area count ≤ bit_count area
  fits = run_fits m area facts j count (omega (arith, begins, high))

  abbrev freed : Tables
  freed = free_run m t i f count

  freed_mark : (q : ℕ) → p ≤ q → q < p + count → mark_at freed (place q) ≡ 0
  unfolding free_run
  freed_mark q a b = get_d_fill_in 0 t.marks p count q a b (omega (arith, shape.marks_length, in_memory))

  freed_word : (q : ℕ) → p ≤ q → q < p + count → word_at freed (place q) ≡ 0
  unfolding free_run
  freed_word q a b = get_d_fill_in 0 t.words p count q a b (omega (arith, shape.words_length, in_memory))

  same_else : (q : ℕ) → (p ≤ q → q < p + count → ⊥) → Same t freed q
  unfolding free_run
  same_else q out =
      in_run_or_not q p count (λ a b. absurd (out a b))
      (λ h. record { mark = get_d_fill_below 0 t.marks p count q h; word = get_d_fill_below 0 t.words p count q h })
      (λ h. record { mark = get_d_fill_above 0 t.marks p count q h; word = get_d_fill_above 0 t.words p count q h })

  only_bits : OnlyBits t freed (bitmap_of m i) j (bits_for area count) true
  unfolding free_run
  only_bits =
      record {
        run = cleared_clear t.bitmap (bitmap_of m i) j (bits_for area count);
        others = λ k out. clear_outside t.bitmap (bitmap_of m i) j (bits_for area count) clearing k out;
        words_before = λ w h. word_kept clear_in t.bitmap (bitmap_of m i) j (bits_for area count) w (λ k a b e. omega arith);
      }

  can_leave_lem : (q : ℕ) → Leaves t q → Leaves freed q
  can_leave_lem q before =
      in_run_or_not q p count (λ a b. inl (ap kind_of (freed_mark q a b))) (λ h. as_before (λ u v. absurd (omega arith)))
      (λ h. as_before (λ u v. absurd (omega arith)))
    where
      as_before : (p ≤ q → q < p + count → ⊥) → Leaves freed q
      as_before out = subst (λ (x : ℕ). (kind_of x ≡ free) ⊎ (kind_of x ≡ movable)) (sym (same_else q out).mark) before

  can_grant :
      (count' align_order' j' : ℕ) →
      (frame_of_bit area (bit j')).0 % 2 ^ align_order' ≡ 0 →
      j ≤ j' →
      j' + bits_for area count' ≤ j + bits_for area count →
      (place_of_bit m i (bit j')).0 + count' ≤ p + count → Grantable m freed i count' align_order' j'
  can_grant count' align_order' j' aligned from to frames =
      let after : j * per_bit area ≤ j' * per_bit area = mul-le-mul_right (per_bit area) from in
      record {
        candidate = record { aligned = aligned; inside = omega (arith, fits); clear = λ k a b. only_bits.run k (omega arith) (omega arith) };
        leaves = λ q a b. inl (ap kind_of (freed_mark q (omega (arith, begins)) (omega arith)));
      }

  does : ReleaseDoes m i f count device t (outcome m (done 0 0) freed) p j
  unfolding free_run
  does =
      record {
        at = is_at;
        on_bit = begins;
        in_memory = in_memory;
        owner = eqb-true (owner_at t (place_of m f)) device (not_flips (eqb (owner_at t (place_of m f)) device) passed.1.1.1.0);
        answer = refl;
        machine = refl;
        lengths =
            record {
              marks = length_fill 0 t.marks p count;
              words = length_fill 0 t.words p count;
              bitmap = change_length clear_in t.bitmap (bitmap_of m i) j (bits_for area count);
              owners = simp (length_fill) refl;
            };
        marks = freed_mark;
        words = freed_word;
        kept = same_else;
        bits = only_bits;
        owners = filled_owners t freed p count 0 (omega (arith, shape.owners_length, in_memory));
        again = can_grant;
        still = stays_grantable m t freed (stays_clear t freed (bitmap_of m i) j (bits_for area count) only_bits) can_leave_lem;
      }

pub accepted_release : AcceptedRelease
unfolding release
accepted_release m i f count device t accepted =
    accepted_does (λ o. (p : ℕ) × (j : ℕ) × ReleaseDoes m i f count device t o p j) m t (release_checks m i f count device t) _ refl accepted
    (λ passed. ((place_of m f).0, (bit_of_frame (area_at m i) f).0, does m i f count device t passed))
