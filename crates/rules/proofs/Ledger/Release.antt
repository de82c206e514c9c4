-- Release keeps the invariant: its run is freed, and the live grant whose run it was ends. Assumes nothing.
use Rattle.std.proofs.Common.{◌≡◌, ℕ, ◌+◌, ◌-◌, ◌<◌, ◌≤◌, true, false, not, ◌||◌, eqb, ltb, sym, refl, ap, ◌∙◌, arith, ltb-false, eqb-true, leb-false}
use borrow.Author.Tests.{eqb-false, not-false}
use Rattle.std.specs.Prelude.{if◌then◌else◌}
use Rattle.search.specs.Search.{how_many}
use Rattle.search.proofs.Bools.{clash, or_left, or_right}
use Rattle.bitmap.specs.Bits.{clear_in, clear_bits}
use Rattle.answer.specs.Answers.{done}
use Rattle.search.proofs.Counts.{many_run}
use Rattle.frames.specs.declared.Frame.{Frame}
use Rattle.frames.specs.Units.{place}
use Rattle.frames.specs.Marks.{field_of, has_kind, is_granted, head}
use Rattle.frames.specs.Areas.{is_multiple, end_of, per_bit, bit_of_frame, bits_for}
use Rattle.frames.specs.Tables.{Tables, mark_at, word_at, owner_at, fill, fill_pages, with_bitmap, with_owners}
use Rattle.rules.specs.declared.Call.TheVariants as Call
use Rattle.rules.specs.declared.Record.{Record}
use Rattle.rules.specs.Record.{area_at, place_of, frame_at}
use Rattle.rules.specs.Shape.{shape_right}
use Rattle.rules.specs.PageCalls.{page_at}
use Rattle.rules.specs.Outcomes.{outcome}
use Rattle.rules.specs.DeviceCalls.{is_unknown, bad_device, outside_area, off_bit, later_frames, bitmap_of, free_run}
use Rattle.rules.specs.DeviceCalls as Device
use Rattle.rules.proofs.Shapes.{shape_known}
use Rattle.rules.specs.Ledger.Ledger.{Grant, Ledger, grant_of, grants_at, is_among, without, with_grants}
use Rattle.rules.specs.Steps.Invariant.{PlaceSound, OwnerSound, GrantSound, BitsSound, Sound}
use Rattle.rules.proofs.Checks.{checked_cases}
use Rattle.rules.specs.Promises.Changes.{OnlyOwners}
use Rattle.rules.proofs.Promises.Changes.{filled_owners}
use Rattle.rules.proofs.Ledger.Marks.{is_page, page_of, granted_page}
use Rattle.frames.proofs.FillFacts.{length_fill, get_d_fill_in}
use Rattle.rules.proofs.ShapeFacts.{shape_lengths}
use Rattle.rules.proofs.AreaRight.{area_facts}
use Rattle.rules.proofs.Ledger.FrameRuns.{RunChange, in_run_or_not, fill_run}
use Rattle.bitmap.proofs.Runs.{change_length}
use Rattle.rules.proofs.Ledger.Names.{PagesKept, names_kept}
use Rattle.rules.proofs.Ledger.Grants.{low_takes, among_at, without_among, grant_moved}
use Rattle.rules.proofs.Ledger.Kept.{Kept, kept_refused, pin_stays, done_kept}
use Rattle.rules.proofs.Ledger.ReleasedGrant.{Releasable, OneGrant, one_grant}
use Rattle.rules.proofs.Ledger.ReleaseBits.{freed_bits}

module _ (m : Record) (t : Tables) (l : Ledger) (s : Sound m t l) (i : ℕ) (f : Frame) (count : ℕ) (ok : Releasable m t i f count) (its : OneGrant m t l f count) where
  abbrev r : ℕ
  r = (place_of m f).0

  abbrev g : Grant
  g = grant_of f count

  abbrev rest_of : ℕ → ℕ
  rest_of q = grants_at (without l.grants g) (frame_at m (place q))

  module _ (t' : Tables) (run : RunChange t t' r count) (emptied : (q : ℕ) → r ≤ q → q < r + count → mark_at t' (place q) ≡ 0) (cleared : (q : ℕ) → r ≤ q → q < r + count → word_at t' (place q) ≡ 0) (unowned : OnlyOwners t t' r count 0) where
    abbrev l' : Ledger
    l' = with_grants l (without l.grants g) l.device_word l.device l.granted (l.released + count)

    pages : PagesKept m t t'
    pages =
        record {
          forth = λ q h e.
              in_run_or_not q r count (λ a b. clash (is_page (mark_at t (place q))) e (granted_page (mark_at t (place q)) (its.granted q a b))) (λ o. run.marks q o);
          back = λ q h e.
              in_run_or_not q r count (λ a b. clash (is_page (mark_at t' (place q))) e (ap is_page (emptied q a b))) (λ o. run.marks q o);
          words = λ q h e.
              in_run_or_not q r count (λ a b. clash (is_page (mark_at t (place q))) e (granted_page (mark_at t (place q)) (its.granted q a b))) (λ o. run.words q o);
        }

    freed_place : (q : ℕ) → q < m.memory.frames → PlaceSound m l' q (mark_at t' (place q)) (word_at t' (place q))
    freed_place q h =
        in_run_or_not q r count
        (λ a b.
        rw (emptied q a b, cleared q a b)
        (record { used = omega arith; empty = λ _. refl; ordinary = λ e. clash false e refl; granted = λ e. clash false e refl }))
        (λ o.
        let old = s.places q h in
        rw (run.marks q o, run.words q o) (record { used = old.used; empty = old.empty; ordinary = old.ordinary; granted = old.granted }))

    freed_grant : (h : Grant) → is_among (without l.grants g) h ≡ true → GrantSound m t' h
    freed_grant h e =
        let old = s.grants h (without_among l.grants g h e) in
        grant_moved m t t' h old
        (λ p a b.
        run.marks p
        (λ u v.
        let low = old.low in
        let none = its.alone p u v in
        let some = among_at (without l.grants g) h (frame_at m (place p)) e (low_takes h (frame_at m (place p)) (omega arith) (omega arith)) in
        omega arith))

    freed_covered : (q : ℕ) → q < m.memory.frames → rest_of q ≡ (if is_granted (mark_at t' (place q)) then 1 else 0)
    freed_covered q h =
        in_run_or_not q r count (λ a b. its.alone q a b ∙ ap (λ (x : ℕ). if is_granted x then 1 else 0) (sym (emptied q a b)))
        (λ o.
        let split = its.parted q in
        let none = its.outside q o in
        let same : rest_of q ≡ grants_at l.grants (frame_at m (place q)) = omega arith in
        same ∙ s.covered q h ∙ ap (λ (x : ℕ). if is_granted x then 1 else 0) (sym (run.marks q o)))

    freed_total : how_many (λ p. is_granted (mark_at t' (place p))) 0 m.memory.frames + (l.released + count) ≡ l.granted
    freed_total =
        let fewer =
        many_run (λ p. is_granted (mark_at t (place p))) (λ p. is_granted (mark_at t' (place p))) m.memory.frames r count its.in_memory its.granted
        (λ k a b. ap is_granted (emptied k a b)) (λ k h o. ap is_granted (sym (run.marks k o)))
        in
        let before = s.total in
        omega arith

    freed_owner : (q : ℕ) → q < m.memory.frames → OwnerSound m l' q (owner_at t' (place q)) (is_granted (mark_at t' (place q)))
    freed_owner q h =
        in_run_or_not q r count
        (λ a b.
        rw (emptied q a b, unowned.run q a b) (record { owned = λ e. clash false e refl; known = λ e. clash false e refl; none = λ _. refl }))
        (λ o.
        let old = s.owners q h in
        rw (run.marks q o, unowned.others q o) (record { owned = old.owned; known = old.known; none = old.none }))

    freed : shape_right m t' ≡ true → BitsSound m t' → Sound m t' l'
    freed shape bits =
        record {
          shape = shape;
          records = s.records;
          places = freed_place;
          names = λ x. names_kept m m t t' l l' refl pages x (record { live = refl; pinned = refl; word = refl }) (s.names x);
          grants = freed_grant;
          covered = freed_covered;
          total = freed_total;
          bits = bits;
          owners = freed_owner;
        }

    freed_stays : shape_right m t' ≡ true → BitsSound m t' → (x : ℕ) → l.pinned x ≡ true → page_at m t' x ≡ page_at m t x
    freed_stays shape bits x b =
        pin_stays m m t t' l l' x (s.names x) ((freed shape bits).names x) refl b b
        (λ p h e k. pages.forth p h (page_of x (mark_at t (place p)) e))

-- the checks of an accepted release
module _ (m : Record) (t : Tables) (l : Ledger) (s : Sound m t l) (i : ℕ) (f : Frame) (count device : ℕ) where
  pub releasable :
      (is_unknown m.memory i || eqb count 0 || outside_area (area_at m i) f count || bad_device device) ≡ false →
      (off_bit (area_at m i) f || not (has_kind head (mark_at t (place_of m f)))) ≡ false →
      (not (eqb (field_of (mark_at t (place_of m f))) count) || not (later_frames t (place_of m f) count)) ≡ false → Releasable m t i f count
  releasable e₂ e₃ e₉ =
      let range = or_left (is_unknown m.memory i || eqb count 0 || outside_area (area_at m i) f count) (bad_device device) e₂ in
      let known = or_left (is_unknown m.memory i || eqb count 0) (outside_area (area_at m i) f count) range in
      let outside = or_right (is_unknown m.memory i || eqb count 0) (outside_area (area_at m i) f count) range in
      let declared : i < m.memory.declared = leb-false m.memory.declared i (or_left (is_unknown m.memory i) (eqb count 0) known) in
      let area = area_facts m t s.shape i declared in
      let above = ltb-false f.0 (area_at m i).base.0 (or_left (ltb f.0 (area_at m i).base.0) (ltb (end_of (area_at m i)) (f.0 + count)) outside) in
      let below = ltb-false (end_of (area_at m i)) (f.0 + count) (or_right (ltb f.0 (area_at m i).base.0) (ltb (end_of (area_at m i)) (f.0 + count)) outside) in
      let nonzero = eqb-false count 0 (or_right (is_unknown m.memory i) (eqb count 0) known) in
      let low = area.low in
      let high = area.high in
      let mark = mark_at t (place_of m f) in
      let last = later_frames t (place_of m f) count in
      record {
        declared = declared;
        above = above;
        below = below;
        on_bit =
            not-false (is_multiple (f.0 - (area_at m i).base.0) (per_bit (area_at m i))) (or_left (off_bit (area_at m i) f) (not (has_kind head mark)) e₃);
        some = omega arith;
        low = omega arith;
        high = omega arith;
        first = not-false (has_kind head mark) (or_right (off_bit (area_at m i) f) (not (has_kind head mark)) e₃);
        field = eqb-true (field_of mark) count (not-false (eqb (field_of mark) count) (or_left (not (eqb (field_of mark) count)) (not last) e₉));
      }

  abbrev freed_tables : Tables
  freed_tables =
      with_owners
      (with_bitmap (fill_pages t (place_of m f) count 0 0)
      (clear_bits t.bitmap (bitmap_of m i) (bit_of_frame (area_at m i) f).0 (bits_for (area_at m i) count)))
      (fill t.owners (place_of m f).0 count 0)

  freed_shape : shape_right m freed_tables ≡ true
  freed_shape =
      shape_lengths m t freed_tables
      (record {
        marks = length_fill 0 t.marks (place_of m f).0 count;
        words = length_fill 0 t.words (place_of m f).0 count;
        bitmap = change_length clear_in t.bitmap (bitmap_of m i) (bit_of_frame (area_at m i) f).0 (bits_for (area_at m i) count);
        owners = length_fill 0 t.owners (place_of m f).0 count;
      }) ∙
      s.shape

  freed_run : RunChange t freed_tables (place_of m f).0 count
  freed_run = record { marks = (fill_run t (place_of m f).0 count 0 0).marks; words = (fill_run t (place_of m f).0 count 0 0).words }

  freed_kept : Releasable m t i f count → Kept (Call.Release i f count device) m t l (outcome m (done 0 0) freed_tables)
  freed_kept ok =
      let its = one_grant m t l s i f count ok in
      let inside : (place_of m f).0 + count ≤ m.memory.frames = its.in_memory in
      let shaped = shape_known m t s.shape in
      let emptied : (q : ℕ) → (place_of m f).0 ≤ q → q < (place_of m f).0 + count → mark_at freed_tables (place q) ≡ 0 =
      λ q a b. get_d_fill_in 0 t.marks (place_of m f).0 count q a b (rw shaped.marks_length (omega arith))
      in
      let cleared : (q : ℕ) → (place_of m f).0 ≤ q → q < (place_of m f).0 + count → word_at freed_tables (place q) ≡ 0 =
      λ q a b. get_d_fill_in 0 t.words (place_of m f).0 count q a b (rw shaped.words_length (omega arith))
      in
      let unowned : OnlyOwners t freed_tables (place_of m f).0 count 0 = filled_owners t freed_tables (place_of m f).0 count 0 (rw shaped.owners_length inside) in
      let bits = freed_bits m t l s i f count ok its freed_tables freed_run emptied refl in
      done_kept (Call.Release i f count device) m t freed_tables l
      (with_grants l (without l.grants (grant_of f count)) l.device_word l.device l.granted (l.released + count)) 0 0 refl
      (freed m t l s i f count ok its freed_tables freed_run emptied cleared unowned freed_shape bits)
      (λ x a b. (b, freed_stays m t l s i f count ok its freed_tables freed_run emptied cleared unowned freed_shape bits x b))

  pub release_kept : Kept (Call.Release i f count device) m t l (Device.release m i f count device t)
  unfolding Device.release free_run
  release_kept =
      checked_cases (Kept (Call.Release i f count device) m t l) m t _ _ refl (kept_refused (Call.Release i f count device) m t l s)
      (λ passed. freed_kept (releasable passed.1.0 passed.1.1.0 passed.1.1.1.1.0))
