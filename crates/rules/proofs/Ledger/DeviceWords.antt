-- Device store and device read keep the invariant: a store changes one granted frame's word and no mark. Assumes nothing.
use Rattle.std.proofs.Common.{◌≡◌, ℕ, ◌+◌, ◌<◌, ◌≤◌, Bool, true, false, ltb, leb, sym, refl, ap, ◌∙◌, arith, length-set, ltb-false, leb-false}
use borrow.Author.Tests.{not-false}
use Rattle.std.specs.Prelude.{if◌then◌else◌}
use Rattle.search.proofs.Bools.{clash, or_left, or_right}
use Rattle.frames.specs.declared.Frame.{Frame}
use Rattle.frames.specs.Units.{place}
use Rattle.frames.specs.Marks.{is_granted}
use Rattle.frames.specs.Tables.{Tables, mark_at, word_at, set_page}
use Rattle.rules.specs.declared.Call.TheVariants as Call
use Rattle.rules.specs.declared.Record.{Record}
use Rattle.rules.specs.Record.{place_of, end_frame}
use Rattle.rules.specs.PageCalls.{page_at}
use Rattle.rules.specs.DeviceCalls.{bad_device, outside_memory}
use Rattle.rules.specs.DeviceCalls as Device
use Rattle.rules.proofs.Shapes.{Shape, shape_known}
use Rattle.rules.specs.Ledger.Ledger.{Ledger, update, with_grants}
use Rattle.rules.specs.Steps.Invariant.{PlaceSound, Sound}
use Rattle.rules.proofs.Checks.{checked_cases}
use Rattle.rules.proofs.Ledger.Marks.{is_page, free_granted, granted_page}
use Rattle.rules.proofs.Ledger.Tables.{OneChange, set_one}
use Rattle.rules.proofs.ShapeFacts.{shape_lengths}
use Rattle.rules.proofs.Ledger.Names.{same_or_not, update_here, update_other, PagesKept, names_kept}
use Rattle.rules.proofs.Ledger.BitsSound.{bits_kept}
use Rattle.rules.proofs.Ledger.Grants.{GrantsKept, granted_same, grant_kept, total_kept}
use Rattle.rules.proofs.Ledger.Kept.{Kept, kept_refused, pin_stays, done_kept}

pub memory_low : (m : Record) (f : Frame) → outside_memory m.memory f ≡ false → m.memory.base.0 ≤ f.0
memory_low m f e = ltb-false f.0 m.memory.base.0 (or_left (ltb f.0 m.memory.base.0) (leb (end_frame m) f.0) e)

pub memory_high : (m : Record) (f : Frame) → outside_memory m.memory f ≡ false → f.0 < end_frame m
memory_high m f e = leb-false (end_frame m) f.0 (or_right (ltb f.0 m.memory.base.0) (leb (end_frame m) f.0) e)

module _ (m : Record) (t : Tables) (l : Ledger) (s : Sound m t l) (f : Frame) where
  abbrev at : ℕ
  at = (place_of m f).0

  module _ (word : ℕ) (low : m.memory.base.0 ≤ f.0) (high : f.0 < end_frame m) (granted : is_granted (mark_at t (place at)) ≡ true) where
    abbrev t' : Tables
    t' = set_page t (place at) (mark_at t (place at)) word

    abbrev l' : Ledger
    l' = with_grants l l.grants (update l.device_word f.0 word) l.device l.granted l.released

    shaped : Shape m t
    shaped = shape_known m t s.shape

    one : OneChange t t' at (mark_at t (place at)) word
    one = set_one t at (mark_at t (place at)) word (rw shaped.marks_length (omega arith)) (rw shaped.words_length (omega arith))

    same_mark : (q : ℕ) → mark_at t' (place q) ≡ mark_at t (place q)
    same_mark q = same_or_not q at (λ e. rw e one.mark_here) (λ n. one.marks q n)

    pages : PagesKept m t t'
    pages =
        record {
          forth = λ q h e. same_mark q;
          back = λ q h e. same_mark q;
          words = λ q h e.
              same_or_not q at
              (λ k. clash (is_page (mark_at t (place q))) e (ap (λ (x : ℕ). is_page (mark_at t (place x))) k ∙ granted_page (mark_at t (place at)) granted))
              (λ n. one.words q n);
        }

    kept : GrantsKept m t t'
    kept = record { forth = λ q h e. same_mark q; back = λ q h e. same_mark q }

    fits : (q : ℕ) → q < m.memory.frames → PlaceSound m l' q (mark_at t' (place q)) (word_at t' (place q))
    fits q h =
        let old = s.places q h in
        rw (same_mark q)
        (same_or_not q at
        (λ e.
        record {
          used = old.used;
          empty = λ k. clash (is_granted (mark_at t (place q))) (ap (λ (x : ℕ). is_granted (mark_at t (place x))) e ∙ granted) (free_granted (mark_at t (place q)) k);
          ordinary = old.ordinary;
          granted = λ k.
              let here : m.memory.base.0 + q ≡ f.0 = omega arith in
              ap (λ (x : ℕ). word_at t' (place x)) e ∙ one.word_here ∙ sym (update_here l.device_word f.0 word) ∙ ap (update l.device_word f.0 word) (sym here);
        })
        (λ n.
        record {
          used = old.used;
          empty = λ k. one.words q n ∙ old.empty k;
          ordinary = old.ordinary;
          granted = λ k.
              one.words q n ∙ old.granted k ∙ sym (update_other l.device_word f.0 word (m.memory.base.0 + q) (λ e. n (omega arith)));
        }))

    stored : Sound m t' l'
    stored =
        record {
          shape =
              shape_lengths m t t'
              (record { marks = length-set t.marks at (mark_at t (place at)); words = length-set t.words at word; bitmap = refl; owners = refl }) ∙
              s.shape;
          records = s.records;
          places = fits;
          names = λ x. names_kept m m t t' l l' refl pages x (record { live = refl; pinned = refl; word = refl }) (s.names x);
          grants = λ g e. grant_kept m t t' kept g (s.grants g e);
          covered = λ q h. s.covered q h ∙ ap (λ (b : Bool). if b then 1 else 0) (sym (granted_same m t t' kept q h));
          total = ap (λ (x : ℕ). x + l.released) (total_kept m t t' kept) ∙ s.total;
          bits = bits_kept m t t' s.shape kept refl s.bits;
          owners = λ q h.
              let old = s.owners q h in
              rw (same_mark q) (record { owned = old.owned; known = old.known; none = old.none });
        }

    stays : (x : ℕ) → l.pinned x ≡ true → page_at m t' x ≡ page_at m t x
    stays x b = pin_stays m m t t' l l' x (s.names x) (stored.names x) refl b b (λ p h e k. same_mark p)

  pub device_store_kept : (word device : ℕ) → Kept (Call.DeviceStore f word device) m t l (Device.device_store m f word device t)
  unfolding Device.device_store
  device_store_kept word device =
      checked_cases (Kept (Call.DeviceStore f word device) m t l) m t _ _ refl (kept_refused (Call.DeviceStore f word device) m t l s)
      (λ passed.
      let inside = or_left (outside_memory m.memory f) (bad_device device) passed.1.0 in
      let low = memory_low m f inside in
      let high = memory_high m f inside in
      let granted = not-false (is_granted (mark_at t (place_of m f))) passed.1.1.0 in
      done_kept (Call.DeviceStore f word device) m t (set_page t (place_of m f) (mark_at t (place_of m f)) word) l
      (with_grants l l.grants (update l.device_word f.0 word) l.device l.granted l.released) 0 0 refl (stored word low high granted)
      (λ x a b. (b, stays word low high granted x b)))

  pub device_read_kept : (device : ℕ) → Kept (Call.DeviceRead f device) m t l (Device.device_read m f device t)
  unfolding Device.device_read
  device_read_kept device =
      checked_cases (Kept (Call.DeviceRead f device) m t l) m t _ _ refl (kept_refused (Call.DeviceRead f device) m t l s)
      (λ passed. done_kept (Call.DeviceRead f device) m t t l l (word_at t (place_of m f)) 0 refl s (λ x a b. (b, refl)))
