-- Declare keeps the invariant: the new area shares no frame with another, and holds only free frames, so its bits are rightly clear. Assumes
-- nothing.
use Rattle.std.proofs.Common.{◌≡◌, ℕ, ◌+◌, ◌-◌, ◌*◌, ◌/◌, ◌<◌, ◌≤◌, Bool, true, false, not, sym, refl, ap, ◌∙◌, subst, arith}
use Rattle.search.specs.Search.{some}
use Rattle.search.proofs.Bools.{below_or_not}
use Rattle.search.proofs.Ranges.{none_some}
use Rattle.bitmap.specs.Bits.{is_clear}
use Rattle.frames.specs.declared.Area.{Area}
use Rattle.frames.specs.Units.{place}
use Rattle.frames.specs.Marks.{is_granted}
use Rattle.frames.specs.Areas.{is_multiple, end_of, per_bit, bit_count, word_count}
use Rattle.frames.specs.Tables.{Tables, mark_at}
use Rattle.rules.specs.declared.Call.TheVariants as Call
use Rattle.rules.specs.declared.Request.{Request}
use Rattle.rules.specs.declared.Record.{Record}
use Rattle.rules.specs.Record.{area_at}
use Rattle.rules.specs.Declare.{with_area, declare}
use Rattle.rules.specs.Shape.{words_needed}
use Rattle.rules.specs.DeviceCalls.{bitmap_of}
use Rattle.rules.specs.Outcomes.{outcome}
use Rattle.answer.specs.Answers.{done}
use Rattle.rules.specs.Ledger.Ledger.{Grant, Ledger}
use Rattle.rules.specs.Steps.Invariant.{GrantSound, has_granted, BitsSound, Sound}
use Rattle.rules.proofs.Ledger.Marks.{has_kind_lem, free_granted}
use Rattle.frames.proofs.FillFacts.{get_d_fill_in, get_d_fill_below}
use Rattle.rules.proofs.Ledger.Kept.{Kept, kept_refused, pin_stays}
use Rattle.rules.proofs.NewArea.{area_old, area_new, words_old, still_ordinary}
use Rattle.rules.proofs.Ledger.BitRuns.{zero_clear, same_word, bit_inside, word_before}
use Rattle.rules.proofs.AreaRight.{ordinary_free}
use Rattle.rules.proofs.Ledger.Names.{PagesKept, names_kept}
use Rattle.rules.proofs.Placement.{new_area, new_tables, Declarable, declare_cases, declared_shape, declared_records}

module _ (m : Record) (r : Request) (t : Tables) (l : Ledger) (s : Sound m t l) (d : Declarable m r t) where
  abbrev m' : Record
  m' = with_area m (new_area m r t)

  abbrev t' : Tables
  t' = new_tables m r t

  same_pages : PagesKept m t t'
  same_pages = record { forth = λ q h e. refl; back = λ q h e. refl; words = λ q h e. refl }

  grown : (g : Grant) → GrantSound m t g → GrantSound m' t' g
  grown g old =
      let area = old.in_area in
      let same = sym (area_old m t (new_area m r t) s.shape s.records d.more area.area area.declared) in
      let declared = area.declared in
      record {
        some = old.some;
        low = old.low;
        high = old.high;
        first = old.first;
        rest = old.rest;
        in_area = record {
          area = area.area;
          declared = omega arith;
          low = subst (λ (x : Area). x.base.0 ≤ g.first.0) same area.low;
          high = subst (λ (x : Area). g.first.0 + g.count ≤ end_of x) same area.high;
          on_bit = subst (λ (x : Area). is_multiple (g.first.0 - x.base.0) (per_bit x) ≡ true) same area.on_bit;
        };
      }

  abbrev a : Area
  a = new_area m r t

  -- some frame of bit j of an area is granted
  abbrev granted_in : ℕ → Area → Bool
  granted_in j x = some (λ p. is_granted (mark_at t (place p))) (x.base.0 + j * per_bit x - m.memory.base.0) (per_bit x)

  -- the other areas' words come before the new one's, and their frames' marks are the same
  old_bit : (i j : ℕ) → i < m.memory.declared → j < bit_count (area_at m' i) → is_clear t'.bitmap (bitmap_of m' i) j ≡ not (has_granted m' t' i j)
  old_bit i j h b =
      let same = area_old m t a s.shape s.records d.more i h in
      let inside : j < bit_count (area_at m i) = subst (λ (x : Area). j < bit_count x) same b in
      ap (λ (start : ℕ). is_clear t'.bitmap start j) (words_old m t a s.shape s.records d.more i (omega arith)) ∙
      same_word t'.bitmap t.bitmap (bitmap_of m i) j
      (get_d_fill_below 0 t.bitmap (words_needed m) (word_count a) (bitmap_of m i + j / 64) (word_before m t s.shape i m.memory.declared j h inside)) ∙
      s.bits.clear i j h inside ∙
      ap not (sym (ap (granted_in j) same))

  -- the new area's words are 0, and its frames free
  new_bit :
      (j : ℕ) →
      j < bit_count (area_at m' m.memory.declared) → is_clear t'.bitmap (bitmap_of m' m.memory.declared) j ≡ not (has_granted m' t' m.memory.declared j)
  new_bit j b =
      let same = area_new m t a s.shape s.records d.more in
      let inside : j < bit_count a = subst (λ (x : Area). j < bit_count x) same b in
      let frames = bit_inside a j inside in
      let low = d.right.low in
      let room = d.room in
      let none : granted_in j a ≡ false =
      none_some (λ p. is_granted (mark_at t (place p))) (a.base.0 + j * per_bit a - m.memory.base.0) (per_bit a)
      (λ q u v. free_granted (mark_at t (place q)) (ordinary_free m t (place q) (d.vacant q (omega arith) (omega arith))))
      in
      ap (λ (start : ℕ). is_clear t'.bitmap start j) (words_old m t a s.shape s.records d.more m.memory.declared (omega arith)) ∙
      zero_clear t'.bitmap (words_needed m) j
      (get_d_fill_in 0 t.bitmap (words_needed m) (word_count a) (words_needed m + j / 64) (omega arith) (omega arith) (omega arith)) ∙
      ap not (sym (ap (granted_in j) same ∙ none))

  declared_bits : BitsSound m' t'
  declared_bits =
      record {
        clear = λ i j h b.
            below_or_not i m.memory.declared (λ low. old_bit i j low b)
            (λ high.
            let here : i ≡ m.memory.declared = omega arith in
            subst (λ (k : ℕ). is_clear t'.bitmap (bitmap_of m' k) j ≡ not (has_granted m' t' k j)) (sym here)
            (new_bit j (subst (λ (k : ℕ). j < bit_count (area_at m' k)) here b)));
      }

  declared_sound : Sound m' t' l
  declared_sound =
      record {
        shape = declared_shape m r t s.shape s.records d;
        records = declared_records m r t s.shape s.records d;
        places = λ q h.
            let old = s.places q h in
            record {
              used = old.used;
              empty = old.empty;
              ordinary = λ e.
                  still_ordinary m t (new_area m r t) s.shape s.records d.more d.right d.vacant q (old.ordinary e)
                  (rw (has_kind_lem 3 (mark_at t (place q)) e));
              granted = old.granted;
            };
        names = λ x. names_kept m m' t t' l l refl same_pages x (record { live = refl; pinned = refl; word = refl }) (s.names x);
        grants = λ g e. grown g (s.grants g e);
        covered = s.covered;
        total = s.total;
        bits = declared_bits;
        owners = λ q h. let old = s.owners q h in record { owned = old.owned; known = old.known; none = old.none };
      }

  declared_kept :
      Kept (Call.Declare r) m t l (outcome m' (done (new_area m r t).base.0 (new_area m r t).count) t')
  declared_kept =
      record {
        sound = declared_sound;
        pins = λ x a b.
            record {
              was_pinned = b;
              frames = refl;
              base = refl;
              place = pin_stays m m' t t' l l x (s.names x) (declared_sound.names x) refl b b (λ p h e k. refl);
            };
      }

pub declare_kept : (m : Record) (r : Request) (t : Tables) (l : Ledger) → Sound m t l → Kept (Call.Declare r) m t l (declare m r t)
declare_kept m r t l s =
    declare_cases (Kept (Call.Declare r) m t l) m r t (kept_refused (Call.Declare r) m t l s) (declared_kept m r t l s)
