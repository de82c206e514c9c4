-- Pages that move out of a run of one area, one at a time. Assumes nothing.
--     moved_by                 a page stands at another place
--     not_before               a search answers no place below its first
--     target_found             the first free place that the code finds is the first target
--     out_none                 no page of the run moves
--     Moving, moving_start, moving_turn, moving_end    a loop that goes from one movable page to the next: what is moved, and where the search for the
--                              next target can go on
--     out_others               the bitmap and the owners play no part
--     Kept, out_keeps          the bitmap and the owners stay, and so do the lengths of the marks and the words
use Prim.Native.Nat.{ℕ, zero, suc, ◌+◌, ◌-◌, ◌≤◌, ◌<◌}
use native.Mathlib.Omega.{arith}
use native.Mathlib.Numerals.{add-one}
use mathlib.Core.Path.{◌≡◌, refl, sym, ap, ap₂, subst, ◌∙◌}
use mathlib.Core.Logic.{◌≢◌}
use mathlib.Core.Bool.{Bool, true, false, not, ◌&&◌}
use mathlib.Core.List.{List}
use lib.Dec.{ltb, eqb}
use lib.ListN.{length, get_or, set, length-set}
use lib.Seq.{get_or-set_same, get_or-set_other}
use borrow.Author.Tests.{eqb-true, eqb-false, ne_eqb, ltb-false}
use Rattle.std.specs.Prelude.{if◌then◌else◌}
use Rattle.search.specs.Search.{lowest, lowest_from}
use Rattle.search.proofs.Bools.{by_cases, clash, and_both, and_left_false, and_right_false, not_flips}
use Rattle.search.proofs.Lowest.{lowest_least, found_low, found_cong}
use Rattle.search.proofs.Ranges.{some_yes, some_hit, none_some}
use Rattle.frames.specs.declared.Place.{Place}
use Rattle.frames.specs.declared.order.Order.{Order}
use Rattle.frames.specs.declared.targets.Seeking.{Seeking}
use Rattle.frames.specs.Units.{place}
use Rattle.frames.specs.Marks.{kind_of, has_kind, free, movable}
use Rattle.frames.specs.Areas.{in_areas}
use Rattle.frames.specs.Scans.{marked, is_free_ordinary}
use Rattle.frames.specs.Orders.{in_use, Ordered}
use Rattle.frames.specs.Targets.{in_others_at, is_free_elsewhere, first_free, Seeks, NextTarget}
use Rattle.frames.specs.Tables.{Tables, tables, mark_at, word_at, fill, with_bitmap, with_owners}
use Rattle.frames.proofs.AreaFacts.{in_area as is_in_areas}
use Rattle.frames.proofs.FillFacts.{fill_none, fill_suc}
use Rattle.frames.proofs.TargetFacts.{seeks_kept}
use Rattle.rules.specs.declared.Record.{Record}
use Rattle.rules.specs.Record.{frame_at, is_ordinary}
use Rattle.rules.specs.PageCalls.{is_free, free_ordinary}
use Rattle.rules.specs.Targets.{in_area_at, is_target, first_target}
use Rattle.rules.specs.DeviceCalls.{move_page, move_out}
use Rattle.rules.specs.Promises.Shapes.{InArea}
use Rattle.rules.proofs.Targets.{first_same, in_it, target_outside, first_target_lem}
use Rattle.device_calls.specs.Steps.DeviceSteps.{page_moved, LeavesArea}

-- ---- one page
fill_one : (l : List ℕ) (i v : ℕ) → fill l i 1 v ≡ set l i v
fill_one l i v = fill_suc v l i 0 ∙ fill_none v (set l i v) (suc i)

pub moved_by : (t : Tables) (p q : Place) {ms ws : List ℕ} → ms ≡ fill t.marks q.0 1 (mark_at t p) → ws ≡ fill t.words q.0 1 (word_at t p) → tables (set ms p.0 0) (set ws p.0 0) t.bitmap t.owners ≡ page_moved t p q
moved_by t p q e f = ap₂ (λ (x y : List ℕ). tables (set x p.0 0) (set y p.0 0) t.bitmap t.owners) (e ∙ fill_one _ _ _) (f ∙ fill_one _ _ _)

-- ---- where a page goes

-- one of two places, by a test
pick : (b : Bool) (x y z : ℕ) → (b ≡ false → y ≡ z) → place (if b then x else y) ≡ (if b then place x else place z)
pick true x y z same = refl
pick false x y z same = ap place (same refl)

module _ (m : Record) (i : ℕ) (known : i < m.memory.declared) (apart : (f j : ℕ) → InArea m f i → InArea m f j → i ≡ j) where
  -- a frame of the area is in no other
  alone : (k : ℕ) → in_area_at m i (place k) ≡ true → (j : ℕ) → j < m.memory.declared → j ≢ i → in_area_at m j (place k) ≡ false
  alone k e j h other =
      by_cases (in_area_at m j (place k)) (λ y. absurd (other (sym (apart _ j (in_it m i k known e) (in_it m j k h y))))) (λ y. y)

  module _ (t : Tables) where
    abbrev elsewhere : ℕ → Bool
    elsewhere = is_free_elsewhere t.marks m.memory.base m.areas m.memory.declared i

    abbrev others : ℕ → Bool
    others = in_others_at m.memory.base m.areas m.memory.declared i

    in_others : (k : ℕ) → is_ordinary m (place k) ≡ false → others k ≡ not (in_area_at m i (place k))
    unfolding in_areas
    in_others k e =
        let test : ℕ → Bool = λ j. not (eqb j i) && in_area_at m j (place k) in
        by_cases (in_area_at m i (place k))
        (λ y.
        none_some test 0 m.memory.declared
        (λ j a b.
        by_cases (eqb j i) (λ s. and_left_false (not (eqb j i)) _ (ap not s))
        (λ s. and_right_false (not (eqb j i)) _ (alone k y j (omega arith) (eqb-false j i s)))) ∙
        sym (ap not y))
        (λ y.
        let w = some_yes (λ j. in_area_at m j (place k)) 0 m.memory.declared (not_flips (in_areas m.areas m.memory.declared (frame_at m (place k))) e) in
        let other : w.at ≢ i = λ s. clash (in_area_at m i (place k)) (subst (λ (j : ℕ). in_area_at m j (place k) ≡ true) s w.hit) y in
        some_hit test 0 m.memory.declared w.at w.low w.high
        (and_both (not (eqb w.at i)) (in_area_at m w.at (place k)) (ap not (ne_eqb w.at i other)) w.hit) ∙
        sym (ap not y))

    -- where no ordinary frame is free, the free places of the other areas are the targets
    same_targets : (k : ℕ) → free_ordinary m t (place k) ≡ false → elsewhere k ≡ is_target m t i (place k)
    unfolding is_free_elsewhere is_target free_ordinary
    same_targets k none =
        by_cases (is_free t (place k))
        (λ y.
        let area : is_ordinary m (place k) ≡ false =
        by_cases (is_ordinary m (place k)) (λ o. clash (is_free t (place k) && is_ordinary m (place k)) (and_both (is_free t (place k)) (is_ordinary m (place k)) y o) none) (λ o. o)
        in
        ap (λ (b : Bool). is_free t (place k) && b) (in_others k area))
        (λ y. and_left_false (is_free t (place k)) _ y ∙ sym (and_left_false (is_free t (place k)) _ y))

    pub target_found : length t.marks ≡ m.memory.frames → place (first_free t.marks m.memory.base m.areas m.memory.declared i) ≡ first_target m t i
    unfolding first_free first_target is_free_ordinary free_ordinary
    target_found size =
        let n = m.memory.frames in
        let ordinary : ℕ → Bool = λ k. free_ordinary m t (place k) in
        ap (λ (len : ℕ). place (if ltb (lowest ordinary len) len then lowest ordinary len else lowest elsewhere len)) size ∙
        pick (ltb (lowest ordinary n) n) (lowest ordinary n) (lowest elsewhere n) (lowest (λ k. is_target m t i (place k)) n)
        (λ e.
        let none : n ≤ lowest ordinary n = ltb-false (lowest ordinary n) n e in
        found_cong elsewhere (λ k. is_target m t i (place k)) n (λ k h. same_targets k (found_low ordinary n k (omega arith))))

-- a movable page at the place
abbrev moves : Tables → ℕ → Bool
moves t = marked (has_kind movable) t.marks

-- a search answers no place below its first
pub not_before : (test : ℕ → Bool) (i d : ℕ) {r : ℕ} → r ≡ lowest_from test i d → i ≤ r
not_before test i d e = omega (arith, (lowest_least test i d).low)

-- the bitmap and the owners stay, and the tables keep their lengths
pub record Kept (t u : Tables) : Type 0 where
  pub bitmap : u.bitmap ≡ t.bitmap
  pub owners : u.owners ≡ t.owners
  pub marks_length : length u.marks ≡ length t.marks
  pub words_length : length u.words ≡ length t.words

module _ (m : Record) (i : ℕ) where
  module _ (t : Tables) (p : Place) where
    stays : moves t p.0 ≡ false → move_page m t i p ≡ t
    unfolding move_page
    stays e = rw e

    goes : moves t p.0 ≡ true → move_page m t i p ≡ page_moved t p (first_target m t i)
    unfolding move_page
    goes e = rw e

  -- ---- a run of them
  out_suc : (t : Tables) (p : Place) (d : ℕ) → move_out m t i p (suc d) ≡ move_out m (move_page m t i p) i (place (suc p.0)) d
  unfolding move_out
  out_suc t p d = refl

  out_zero : (t : Tables) (p : Place) → move_out m t i p 0 ≡ t
  unfolding move_out
  out_zero t p = refl

  -- the next d places have no movable page
  out_pass : (t : Tables) (p d e : ℕ) → ((k : ℕ) → p ≤ k → k < p + d → moves t k ≡ false) → move_out m t i (place p) (d + e) ≡ move_out m t i (place (p + d)) e
  out_pass t p zero e none = ap₂ (λ (x y : ℕ). move_out m t i (place x) y) (omega arith) (omega arith)
  out_pass t p (suc d) e none =
      ap (move_out m t i (place p)) (let s : suc d + e ≡ suc (d + e) = omega arith in s) ∙ out_suc t (place p) (d + e) ∙
      ap (λ (x : Tables). move_out m x i (place (suc p)) (d + e)) (stays t (place p) (none p (omega arith) (omega arith))) ∙
      out_pass t (suc p) d e (λ k a b. none k (omega arith) (omega arith)) ∙
      ap (λ (x : ℕ). move_out m t i (place x) e) (omega arith)

  -- the search for the next movable page passes over the others
  out_skip : (t : Tables) (from end at : ℕ) → from ≤ end → at ≡ lowest_from (moves t) from (end - from) → move_out m t i (place from) (end - from) ≡ move_out m t i (place at) (end - at)
  out_skip t from end at h e =
      let l = lowest_least (moves t) from (end - from) in
      ap (move_out m t i (place from)) (let s : end - from ≡ (at - from) + (end - at) = omega (arith, l.low, l.high) in s) ∙
      out_pass t from (at - from) (end - at) (λ k u v. l.miss k u (omega (arith, l.low))) ∙
      ap (λ (x : ℕ). move_out m t i (place x) (end - at)) (omega (arith, l.low))

  pub out_none : (t : Tables) (p : Place) (count end at : ℕ) → end ≡ p.0 + count → at ≡ lowest_from (moves t) p.0 (end - p.0) → end ≤ at → t ≡ move_out m t i p count
  out_none t p count end at e f h =
      let d : end - at ≡ 0 = omega arith in
      sym
      (ap (move_out m t i p) (let c : count ≡ end - p.0 = omega arith in c) ∙ out_skip t p.0 end at (omega arith) f ∙
      ap (move_out m t i (place at)) d ∙ out_zero t (place at))

  -- ---- the bitmap and the owners play no part
  module _ (b o : List ℕ) where
    abbrev beside : Tables → Tables
    beside t = with_owners (with_bitmap t b) o

    move_others : (t : Tables) (p : Place) → beside (move_page m t i p) ≡ move_page m (beside t) i p
    move_others t p =
        by_cases (moves t p.0)
        (λ e. ap (λ (x : Tables). beside x) (goes t p e) ∙ ap (page_moved (beside t) p) (sym (first_same m i t (beside t) refl)) ∙ sym (goes (beside t) p e))
        (λ e. ap (λ (x : Tables). beside x) (stays t p e) ∙ sym (stays (beside t) p e))

    pub out_others : (t : Tables) (p : Place) (d : ℕ) → beside (move_out m t i p d) ≡ move_out m (beside t) i p d
    out_others t p zero = ap (λ (x : Tables). beside x) (out_zero t p) ∙ sym (out_zero (beside t) p)
    out_others t p (suc d) =
        ap (λ (x : Tables). beside x) (out_suc t p d) ∙ out_others (move_page m t i p) (place (suc p.0)) d ∙
        ap (λ (x : Tables). move_out m x i (place (suc p.0)) d) (move_others t p) ∙ sym (out_suc (beside t) p d)

  -- ---- what stays as pages move
  abbrev SameLengths : Tables → Tables → Type 0
  SameLengths t u = (length u.marks ≡ length t.marks) × (length u.words ≡ length t.words)

  move_lengths : (t : Tables) (p : Place) → SameLengths t (move_page m t i p)
  move_lengths t p = by_cases (moves t p.0) (λ e. rw (goes t p e) (simp length-set, simp length-set)) (λ e. rw (stays t p e) (refl, refl))

  out_lengths : (t : Tables) (p : Place) (d : ℕ) → SameLengths t (move_out m t i p d)
  out_lengths t p zero = rw (out_zero t p) (refl, refl)
  out_lengths t p (suc d) =
      let one = move_lengths t p in
      let rest = out_lengths (move_page m t i p) (place (suc p.0)) d in
      rw (out_suc t p d) (rest.0 ∙ one.0, rest.1 ∙ one.1)

  pub out_keeps : (t : Tables) (p : Place) (d : ℕ) → Kept t (move_out m t i p d)
  out_keeps t p d =
      let same = out_others t.bitmap t.owners t p d in
      let long = out_lengths t p d in
      record { bitmap = sym (ap (λ (x : Tables). x.bitmap) same); owners = sym (ap (λ (x : Tables). x.owners) same); marks_length = long.0; words_length = long.1 }

-- ---- a loop over the movable pages of a run, from its first movable place on
module _ (m : Record) (i : ℕ) (order : Order) (t₀ : Tables) (first end : ℕ) where
  -- what holds at the head of the loop: `at` is movable or the end, the pages from it on are still to move, and the search for targets can go on
  pub record Moving (t : Tables) (at : ℕ) (w : Seeking) : Type 0 where
    pub begun : first ≤ at
    pub high : at ≤ end
    pub here : at < end → moves t at ≡ true
    pub seeks : Seeks t.marks m.memory.base m.areas m.memory.declared order i w
    pub same_marks : length t.marks ≡ length t₀.marks
    pub same_words : length t.words ≡ length t₀.words
    pub rest : move_out m t₀ i (place first) (end - first) ≡ move_out m t i (place at) (end - at)

  pub moving_start : (p : ℕ) {w : Seeking} → p ≤ end → first ≡ lowest_from (moves t₀) p (end - p) →
      Seeks t₀.marks m.memory.base m.areas m.memory.declared order i w → Moving t₀ first w
  moving_start p h e s =
      let l = lowest_least (moves t₀) p (end - p) in
      record {
        begun = omega arith;
        high = omega (arith, l.high);
        here = λ u. subst (λ (x : ℕ). moves t₀ x ≡ true) (sym e) (l.hit (omega arith));
        seeks = s;
        same_marks = refl;
        same_words = refl;
        rest = refl;
      }

  module _ {p count : ℕ} (area : LeavesArea m i p count) (size : length t₀.marks ≡ m.memory.frames) (ord : Ordered m.areas (in_use m.areas m.memory.declared) order) where
    -- what is known of the targets after a page went to the first of them
    still_seeks : (t : Tables) (at : ℕ) {u : Tables} {to : Place} {w : Seeking} → length t.marks ≡ m.memory.frames → in_area_at m i (place at) ≡ true → moves t at ≡ true → to ≡ first_target m t i →
        u ≡ page_moved t (place at) to → Seeks t.marks m.memory.base m.areas m.memory.declared order i w → Seeks u.marks m.memory.base m.areas m.memory.declared order i w
    still_seeks t at {u} {to} {w} long here mover f e s =
        seeks_kept m.memory.base m.areas m.memory.declared order i t.marks u.marks at to.0
        (ap (λ (x : Tables). length x.marks) e ∙ simp length-set)
        (λ h.
        let first_inside : (first_target m t i).0 < m.memory.frames = omega (arith, ap (λ (q : Place). q.0) f) in
        let hit = first_target_lem m i area.known t first_inside in
        let away : to.0 ≢ at =
        λ same.
        clash (in_area_at m i (place at)) here
        (subst (λ (k : ℕ). in_area_at m i (place k) ≡ false) (sym (ap (λ (q : Place). q.0) f) ∙ same) (target_outside m i area.known t (first_target m t i).0 hit)) in
        ap (λ (x : Tables). has_kind free (get_or x.marks to.0 0)) e ∙
        ap (has_kind free)
        (get_or-set_other (set t.marks to.0 (mark_at t (place at))) at to.0 0 0 away ∙ get_or-set_same t.marks to.0 (mark_at t (place at)) 0 h) ∙
        not_free (mark_at t (place at)) mover)
        (λ q a b.
        ap (λ (x : Tables). get_or x.marks q 0) e ∙ get_or-set_other (set t.marks to.0 (mark_at t (place at))) at q 0 0 a ∙
        get_or-set_other t.marks to.0 q (mark_at t (place at)) 0 b)
        (is_in_areas m.areas m.memory.declared (frame_at m (place at)) i area.known here) (alone m i area.known area.apart at here) ord s
      where
        not_free : (k : ℕ) → has_kind movable k ≡ true → has_kind free k ≡ false
        not_free k y = rw (eqb-true (kind_of k) movable y)

    pub moving_turn : {t u : Tables} {at next : ℕ} {to : Place} {w r : Seeking} → Moving t at w → at < end → in_area_at m i (place at) ≡ true →
        to ≡ r.to → NextTarget t.marks m.memory.base m.areas order i w r →
        u ≡ page_moved t (place at) to → next ≡ lowest_from (moves u) (at + 1) (end - (at + 1)) → Moving u next r
    moving_turn {t} {u} {at} {next} {to} {w} {r} v h o f g e n =
        let it = g m.memory.declared ord v.seeks in
        let l = lowest_least (moves u) (at + 1) (end - (at + 1)) in
        let long = v.same_marks ∙ size in
        let found : to ≡ first_target m t i = f ∙ ap place it.0 ∙ target_found m i area.known area.apart t long in
        let moved : u ≡ move_page m t i (place at) = e ∙ ap (page_moved t (place at)) found ∙ sym (goes m i t (place at) (v.here h)) in
        record {
          begun = omega (arith, v.begun, l.low);
          high = omega (arith, l.high);
          here = λ y. subst (λ (x : ℕ). moves u x ≡ true) (sym n) (l.hit (omega arith));
          seeks = still_seeks t at long o (v.here h) found e it.1;
          same_marks = ap (λ (x : Tables). length x.marks) e ∙ simp length-set v.same_marks;
          same_words = ap (λ (x : Tables). length x.words) e ∙ simp length-set v.same_words;
          rest =
              v.rest ∙ ap (move_out m t i (place at)) (let d : end - at ≡ suc (end - (at + 1)) = omega arith in d) ∙ out_suc m i t (place at) (end - (at + 1)) ∙
              ap (λ (x : Tables). move_out m x i (place (suc at)) (end - (at + 1))) (sym moved) ∙
              ap (λ (k : ℕ). move_out m u i (place k) (end - (at + 1))) (sym (add-one at)) ∙ out_skip m i u (at + 1) end next (omega arith) n;
        }

  pub moving_end : (p : Place) (count : ℕ) {t : Tables} {at : ℕ} {w : Seeking} → Moving t at w → end ≤ at → end ≡ p.0 + count → first ≡ lowest_from (moves t₀) p.0 (end - p.0) →
      t ≡ move_out m t₀ i p count
  moving_end p count {t} {at} v h e f =
      let d : end - at ≡ 0 = omega arith in
      sym
      (ap (move_out m t₀ i p) (let c : count ≡ end - p.0 = omega arith in c) ∙ out_skip m i t₀ p.0 end first (omega arith) f ∙
      v.rest ∙ ap (move_out m t i (place at)) d ∙ out_zero m i t (place at))
