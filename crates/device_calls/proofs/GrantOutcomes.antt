-- What a grant does, from what its checks and its search found. Assumes nothing.
--     run_placed, taken                 the run's place; the tables after it is taken
--     run_known                         what is known of a run that lies in an area
--     run_looks                         the search looks at no words and at no owners
--     grant_refused                     the first checks refuse
--     run_is, none_found, run_fits      one can be granted, the one chosen; none can; it lies in the area
--     nowhere, granted                  the run's pages have nowhere to go; they have
use Prim.Native.Nat.{ℕ, ◌+◌, ◌-◌, ◌≤◌, ◌<◌}
use native.Mathlib.Omega.{arith}
use mathlib.Core.Path.{◌≡◌, refl, sym, ap, ap₂, subst, ◌∙◌}
use mathlib.Core.Bool.{Bool, true, false, ◌||◌}
use mathlib.Core.List.{List, []}
use lib.Dec.{leb, ltb, eqb}
use Rattle.std.specs.Prelude.{Some, None}
use lib.ListN.{length, take}
use borrow.Author.Tests.{eqb-true, ltb-true, leb-true, leb-false, ltb-false, eqb-false, le-leb, lt-leb, lt-ltb, le-ltb}
use Rattle.search.specs.Search.{how_many}
use Rattle.search.proofs.Bools.{by_cases, below_or_not, or_left, or_right, not_flips}
use Rattle.answer.specs.Answers.{done}
use Rattle.bitmap.specs.Bits.{set_bits}
use Rattle.frames.specs.declared.Area.{Area}
use Rattle.frames.specs.declared.Bit.{Bit}
use Rattle.frames.specs.declared.Frame.{Frame}
use Rattle.frames.specs.declared.Place.{Place}
use Rattle.frames.specs.Units.{place, most_number}
use Rattle.frames.specs.Marks.{has_kind, movable}
use Rattle.frames.specs.Areas.{bit_count, bits_for, frame_of_bit}
use Rattle.frames.specs.Scans.{marked}
use Rattle.frames.specs.Targets.{is_free_outside}
use Rattle.frames.specs.Tables.{Tables, tables, fill, with_bitmap, with_owners}
use Rattle.rules.specs.declared.Record.{Record}
use Rattle.rules.specs.Record.{area_at}
use Rattle.rules.specs.Limits.{most_frames, most_block_order, most_align_order, least_device, most_device}
use Rattle.rules.specs.Shape.{shape_right}
use Rattle.rules.specs.Outcomes.{outcome, refuse, First, here, there, Passed}
use Rattle.rules.specs.Targets.{is_target, targets}
use Rattle.rules.specs.DeviceCalls.{bad_device, is_unknown, bitmap_of, place_of_bit, is_candidate, is_grantable, chosen, movers, move_out, mark_run, take_run, grant_checks, grant}
use Rattle.rules.proofs.Checks.{checked_first, checked_stop, checked_pass, checked_end}
use Rattle.rules.proofs.Shapes.{shape_known}
use Rattle.rules.proofs.AreaRight.{area_known}
use Rattle.rules.proofs.FirstWords.{first_word_exact}
use Rattle.rules.proofs.Promises.Grants.{first_known}
use Rattle.rules.proofs.Promises.Shapes.{shape_is_right}
use Rattle.rules.proofs.Ledger.GrantedRun.{run_inside}
use Rattle.frames.proofs.AreaFacts.{holds_yes}
use Rattle.device_calls.specs.Steps.DeviceSteps.{SearchFits, LeavesArea, RunFits, run_for}
use Rattle.device_calls.proofs.Alignment.{lower_multiple}
use Rattle.device_calls.proofs.MoveFacts.{out_others}

-- ---- the tables after a run is taken
module _ (m : Record) (t : Tables) (i count : ℕ) (j : Bit) where
  abbrev first : Place
  first = place_of_bit m i j

  -- the place of a bit of the area, as the code comes to it
  pub run_placed : {a : Area} {f : Frame} {p : Place} → a ≡ area_at m i → f ≡ frame_of_bit a j → p ≡ place (f.0 - m.memory.base.0) → p ≡ first
  run_placed e f p = p ∙ ap (λ (x : Frame). place (x.0 - m.memory.base.0)) (f ∙ ap (λ (x : Area). frame_of_bit x j) e)

  -- tables with another bitmap and other owners
  abbrev beside : List ℕ → List ℕ → Tables → Tables
  beside bs os x = with_owners (with_bitmap x bs) os

  pub taken : (device : ℕ) {ms₁ ws₁ ms₂ ws₂ bs os : List ℕ} {p : Place} {start n : ℕ} → p ≡ first → tables ms₁ ws₁ [] [] ≡ move_out m (tables t.marks t.words [] []) i p count →
      tables ms₂ ws₂ [] [] ≡ mark_run (tables ms₁ ws₁ [] []) p count → start ≡ bitmap_of m i → n ≡ bits_for (area_at m i) count → bs ≡ set_bits t.bitmap start j.0 n →
      os ≡ fill t.owners p.0 count device → tables ms₂ ws₂ bs os ≡ take_run m t i count j device
  unfolding take_run
  taken device {ms₁} {ws₁} {ms₂} {ws₂} {bs} {os} {p} {start} {n} e out marks st ns bits owners =
      let moved : beside t.bitmap t.owners (tables ms₁ ws₁ [] []) ≡ move_out m t i first count =
      ap (beside t.bitmap t.owners) (out ∙ ap (λ (y : Place). move_out m (tables t.marks t.words [] []) i y count) e) ∙
      out_others m i t.bitmap t.owners (tables t.marks t.words [] []) first count in
      ap (beside bs os) (marks ∙ ap (λ (y : Place). mark_run (tables ms₁ ws₁ [] []) y count) e) ∙
      ap (λ (x : Tables). beside bs os (mark_run x first count)) moved ∙
      ap₂ (λ (x y : List ℕ). beside x y (mark_run (move_out m t i first count) first count)) (bits ∙ ap₂ (λ (x y : ℕ). set_bits t.bitmap x j.0 y) st ns)
      (owners ∙ ap (λ (y : Place). fill t.owners y.0 count device) e)

  targets_found : {a : Area} → a ≡ area_at m i → length t.marks ≡ m.memory.frames → how_many (is_free_outside t.marks m.memory.base a) 0 (length t.marks) ≡ targets m t i
  unfolding targets is_target is_free_outside
  targets_found e size = ap₂ (λ (x : Area) (n : ℕ). how_many (is_free_outside t.marks m.memory.base x) 0 n) e size

  movers_found : {p : Place} → p ≡ first → how_many (marked (has_kind movable) t.marks) p.0 count ≡ movers t first count
  unfolding movers
  movers_found e = ap (λ (q : Place). how_many (marked (has_kind movable) t.marks) q.0 count) e

  -- what is known of a run that lies in a declared area
  pub record RunKnown : Type 0 where
    pub order : (area_at m i).order_per_bit ≤ most_block_order
    pub words_high : bitmap_of m i ≤ most_number
    pub frame_high : (frame_of_bit (area_at m i) j).0 ≤ most_number
    pub count_high : count ≤ most_frames
    pub leaves : LeavesArea m i first.0 count
    pub marks_length : length t.marks ≡ m.memory.frames
    pub words_length : length t.words ≡ m.memory.frames

  pub run_known : RunFits m t i count j → RunKnown
  run_known f =
      let k = shape_known m t f.shape in
      let r = area_known m t k i f.known in
      let up : (frame_of_bit (area_at m i) j).0 + count ≤ m.memory.base.0 + m.memory.frames = omega (arith, f.in_area, r.high) in
      record {
        order = omega (arith, r.order, k.memory.order_high);
        words_high = omega (arith, first_word_exact m t f.shape i (let h : i ≤ m.memory.declared = omega (arith, f.known) in h));
        frame_high = omega (arith, k.memory.end_high);
        count_high = omega (arith, r.low, k.memory.frames_high);
        leaves =
            record {
              known = f.known;
              few = k.declared_high;
              room = omega (arith, r.low);
              held = λ q u v. holds_yes (area_at m i) (m.memory.base.0 + q) (omega (arith, r.low)) (omega (arith, r.low, f.in_area));
              apart = λ g n a b. ((shape_is_right m t).0 f.shape).disjoint g i n a b;
            };
        marks_length = k.marks_length;
        words_length = k.words_length;
      }

-- ---- the search for a run looks at no words and at no owners
abbrev looked : Tables → Tables
looked t = tables t.marks [] t.bitmap []

pub run_looks : (m : Record) (t : Tables) (i count align : ℕ) → run_for m (looked t) i count align ≡ run_for m t i count align
unfolding chosen is_grantable is_candidate
run_looks m t i count align = refl

module _ (m : Record) (i count align device : ℕ) (t : Tables) where
  -- ---- the checks before a run is looked for
  widened : {n : ℕ} → First (take 2 (grant_checks m i count align device t)) n → First (grant_checks m i count align device t) n
  widened (here e) = here e
  widened (there e (here f)) = there e (here f)
  widened {n = n} (there e (there _ none)) = elim none [ ]

  pub grant_refused : {n : ℕ} → First (take 2 (grant_checks m i count align device t)) n → grant m i count align device t ≡ refuse m t n
  unfolding grant
  grant_refused e = checked_first m t _ (widened e)

  -- they pass
  module _ (passed : Passed (take 2 (grant_checks m i count align device t))) where
    shaped : shape_right m t ≡ true
    shaped = not_flips (shape_right m t) passed.0

    abbrev unknown : Bool
    unknown = is_unknown m.memory i

    abbrev none : Bool
    none = eqb count 0

    abbrev too_aligned : Bool
    too_aligned = ltb most_align_order align

    range : (unknown || none || too_aligned) ≡ false
    range = or_left (unknown || none || too_aligned) (bad_device device) passed.1.0

    -- the device's number is one of a mark's width
    pub device_high : device ≤ most_device
    device_high = ltb-false most_device device (or_right (ltb device least_device) (ltb most_device device) (or_right (unknown || none || too_aligned) (bad_device device) passed.1.0))

    known : i < m.memory.declared
    known = leb-false m.memory.declared i (or_left unknown none (or_left (unknown || none) too_aligned range))

    positive : 0 < count
    positive = below_or_not 0 count (λ h. h) (λ h. absurd (eqb-false count 0 (or_right unknown none (or_left (unknown || none) too_aligned range)) (omega arith)))

    pub search_fits : SearchFits m i count align
    search_fits =
        let k = shape_known m t shaped in
        let r = area_known m t k i known in
        record {
          positive = positive;
          align_high = ltb-false most_align_order align (or_right (unknown || none) too_aligned range);
          bit_high = omega (arith, r.order, k.memory.order_high);
          begins = lower_multiple (area_at m i).base.0 (area_at m i).order_per_bit m.memory.block_order r.order (eqb-true _ 0 r.first);
          end_high = omega (arith, r.high, k.memory.end_high);
          count_high = omega (arith, r.high, r.low, k.memory.frames_high);
          words_high = omega (arith, first_word_exact m t shaped i (let h : i ≤ m.memory.declared = omega (arith, known) in h));
        }

    -- ---- the search
    abbrev all : ℕ
    all = bit_count (area_at m i)

    -- where it finds a bit, that is the one chosen
    pub run_is : {r : Bit} → Some r ≡ run_for m (looked t) i count align → (r ≡ chosen m t i count align) × (r.0 < all)
    run_is {r} e =
        let j = chosen m t i count align in
        by_cases (ltb j.0 all)
        (λ y.
        let same : Some r ≡ Some j = e ∙ run_looks m t i count align ∙ rw y in
        let is : r ≡ j = cc in
        (is, subst (λ (x : Bit). x.0 < all) (sym is) (ltb-true j.0 all y)))
        (λ n. let same : Some r ≡ None = e ∙ run_looks m t i count align ∙ rw n in cc)

    pub none_found : None ≡ run_for m (looked t) i count align → grant m i count align device t ≡ refuse m t 7
    unfolding grant
    none_found e =
        let j = chosen m t i count align in
        below_or_not j.0 all
        (λ h. let same : None ≡ Some j = e ∙ run_looks m t i count align ∙ rw (lt-ltb j.0 all h) in cc)
        (λ h. checked_pass m t _ _ _ passed.0 ∙ checked_pass m t _ _ _ passed.1.0 ∙ checked_stop m t _ _ _ (le-leb all j.0 h))

    module _ {r : Bit} (e : r ≡ chosen m t i count align) where
      chosen_is : chosen m t i count align ≡ r
      chosen_is = sym e

      none_left : leb all (chosen m t i count align).0 ≡ leb all r.0
      none_left = ap (λ (x : Bit). leb all x.0) chosen_is

      module _ (found : r.0 < all) where
        has_room_left : r.0 + bits_for (area_at m i) count ≤ all
        has_room_left =
            subst (λ (x : Bit). x.0 + bits_for (area_at m i) count ≤ all) chosen_is
            (first_known m t i count align (subst (λ (x : Bit). x.0 < all) (sym chosen_is) found)).grantable.candidate.inside

        -- the run lies in the area
        pub run_fits : RunFits m t i count r
        run_fits = record { shape = shaped; known = known; positive = positive; in_area = run_inside (area_at m i) r.0 count has_room_left }

        -- ---- n movable frames, and whether there are as many targets
        module _ {p : Place} (at : p ≡ place_of_bit m i r) {n : ℕ} (counted : n ≡ how_many (marked (has_kind movable) t.marks) p.0 count) {h : Bool} {a : Area}
            (it : a ≡ area_at m i) (enough : h ≡ leb n (how_many (is_free_outside t.marks m.memory.base a) 0 (length t.marks))) where
          is_movers : n ≡ movers t (place_of_bit m i r) count
          is_movers = counted ∙ movers_found m t i count r at

          is_enough : h ≡ leb n (targets m t i)
          is_enough = enough ∙ ap (leb n) (targets_found m t i count r it (shape_known m t shaped).marks_length)

          -- the last check
          too_few : ltb (targets m t i) (movers t (place_of_bit m i (chosen m t i count align)) count) ≡ ltb (targets m t i) n
          too_few = ap (λ (x : Bit). ltb (targets m t i) (movers t (place_of_bit m i x) count)) chosen_is ∙ ap (ltb (targets m t i)) (sym is_movers)

          pub nowhere : h ≡ false → grant m i count align device t ≡ refuse m t 8
          unfolding grant
          nowhere f =
              checked_pass m t _ _ _ passed.0 ∙ checked_pass m t _ _ _ passed.1.0 ∙ checked_pass m t _ _ _ (none_left ∙ lt-leb all r.0 found) ∙
              checked_stop m t _ _ _ (too_few ∙ lt-ltb (targets m t i) n (leb-false n (targets m t i) (sym is_enough ∙ f)))

          pub granted : {f : Frame} → h ≡ true → f ≡ frame_of_bit (area_at m i) r → grant m i count align device t ≡ outcome m (done f.0 n) (take_run m t i count r device)
          unfolding grant
          granted {f} y fe =
              checked_pass m t _ _ _ passed.0 ∙ checked_pass m t _ _ _ passed.1.0 ∙ checked_pass m t _ _ _ (none_left ∙ lt-leb all r.0 found) ∙
              checked_pass m t _ _ _ (too_few ∙ le-ltb (targets m t i) n (leb-true n (targets m t i) (sym is_enough ∙ y))) ∙ checked_end m t _ ∙
              ap (λ (x : Bit). outcome m (done (frame_of_bit (area_at m i) x).0 (movers t (place_of_bit m i x) count)) (take_run m t i count x device)) chosen_is ∙
              ap (λ (x : Frame). outcome m (done x.0 (movers t (place_of_bit m i r) count)) (take_run m t i count r device)) (sym fe) ∙
              ap (λ (k : ℕ). outcome m (done f.0 k) (take_run m t i count r device)) (sym is_movers)
