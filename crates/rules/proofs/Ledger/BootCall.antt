-- Boot: an accepted one leaves what the invariant says of an empty ledger. Assumes nothing.
use Rattle.std.proofs.Common.{◌≡◌, ℕ, suc, ◌+◌, ◌/◌, ◌<◌, ◌≤◌, Bool, true, false, not, ◌&&◌, eqb, List, [], ◌∷◌, length, replicate, sym, refl, ap, ◌∙◌, arith, ne_eqb, eqb-true}
use lib.ListN.{length-replicate, get_or-replicate}
use borrow.Author.Tests.{not-false}
use Rattle.std.specs.Prelude.{if◌then◌else◌}
use Rattle.search.proofs.Bools.{clash}
use Rattle.search.proofs.Counts.{many_zero}
use Rattle.search.proofs.Ranges.{none_some}
use Rattle.frames.specs.Units.{place, bit}
use Rattle.frames.specs.Marks.{is_granted}
use Rattle.frames.specs.Areas.{per_bit}
use Rattle.frames.specs.Tables.{Tables, mark_at, word_at, owner_at}
use Rattle.regions.specs.declared.Region.{Region}
use Rattle.text.specs.Reading.{Read, gives, refuses, ◌then◌, refuse_if}
use Rattle.regions.specs.Text.{most_regions, regions}
use Rattle.rules.specs.declared.Record.{Record}
use Rattle.rules.specs.Record.{bare_record, area_at, frame_at}
use Rattle.rules.specs.Limits.{most_area_numbers}
use Rattle.rules.specs.Shape.{memory_right, lengths_right, shape_right}
use Rattle.rules.specs.DeviceCalls.{bitmap_of, place_of_bit}
use Rattle.rules.specs.Declare.{with_area}
use Rattle.rules.specs.Boot.{zero_tables, request_of, declare_all, boot_record, booted, boot}
use Rattle.rules.proofs.Shapes.{shape_known}
use Rattle.rules.specs.Ledger.Ledger.{empty_ledger, is_among}
use Rattle.rules.specs.Ledger.Lists.{is_refused}
use Rattle.rules.specs.Steps.Invariant.{BitsSound, Sound}
use Rattle.frames.proofs.FillFacts.{length_fill}
use Rattle.rules.specs.Promises.Changes.{SameLengths}
use Rattle.rules.proofs.ShapeFacts.{shape_lengths}
use Rattle.rules.proofs.Ledger.BitRuns.{zero_clear, place_inside, word_inside}
use Rattle.rules.proofs.Ledger.Grants.{at_none, among_none}
use Rattle.rules.proofs.Placement.{new_area, new_tables, declare_cases, declared_shape, declared_records}
use Rattle.rules.proofs.BareShape.{bare_shape}
use Rattle.regions.proofs.Refusals.{Sound as ReadSound, sound_regions}

-- the record that a boot makes has the right shape, or its refusal has a number
abbrev pub Fine : Tables → Read Record → Type 0
Fine t (gives m at) = (shape_right m t ≡ true) × (length m.areas ≡ most_area_numbers)
Fine t (refuses number at) = 0 < number

fine_lengths : (t t' : Tables) → SameLengths t t' → (r : Read Record) → Fine t' r → Fine t r
fine_lengths t t' s (gives m at) f = (sym (shape_lengths m t t' s) ∙ f.0, f.1)
fine_lengths t t' s (refuses number at) f = f

fine_then :
    (t : Tables) (P : List Region → Type 0) (r : Read (List Region)) (next : List Region → ℕ → Read Record) →
    ReadSound P r → ((rs : List Region) (at : ℕ) → Fine t (next rs at)) → Fine t (r then next)
fine_then t P (gives rs at) next n all = all rs at
fine_then t P (refuses number at) next n all = n

fine_if : (t : Tables) (test : Bool) (number at : ℕ) (r : Read Record) → 0 < number → (test ≡ false → Fine t r) → Fine t (refuse_if test number at r)
fine_if t true number at r h f = h
fine_if t false number at r h f = f refl

-- the regions' declarations keep the shape
declare_all_lem : (rs : List Region) (i : ℕ) (m : Record) (t : Tables) → shape_right m t ≡ true → length m.areas ≡ most_area_numbers → Fine t (declare_all rs i m t)
unfolding declare_all
declare_all_lem [] i m t shape records = (shape, records)
declare_all_lem (r ∷ rs) i m t shape records =
    declare_cases
    (λ o. Fine t (if eqb o.answer.refusal 0 then declare_all rs (suc i) o.machine o.left else refuses o.answer.refusal i)) m (request_of r) t
    (λ number h. rw (ne_eqb number 0 (omega arith)) h)
    (λ d.
    let next = with_area m (new_area m (request_of r) t) in
    fine_lengths t (new_tables m (request_of r) t) (record { marks = refl; words = refl; bitmap = length_fill 0 t.bitmap _ _; owners = refl }) (declare_all rs (suc i) next (new_tables m (request_of r) t))
    (declare_all_lem rs (suc i) next (new_tables m (request_of r) t) (declared_shape m (request_of r) t shape records d) (declared_records m (request_of r) t shape records d)))

module _ (base frames block_order : ℕ) (text : List ℕ) (t : Tables) where
  pub boot_fine : Fine (zero_tables t) (boot_record base frames block_order text t)
  unfolding boot_record
  boot_fine =
      fine_if (zero_tables t) (not (memory_right base frames block_order && lengths_right frames t)) 1 0 _ (omega arith)
      (λ e.
      fine_then (zero_tables t) (λ rs. length rs ≤ most_regions) (regions text) _ (sound_regions text)
      (λ rs at.
      declare_all_lem rs 0 (bare_record base frames block_order) (zero_tables t) (bare_shape base frames block_order t (not-false (memory_right base frames block_order && lengths_right frames t) e))
      refl))

-- ---- an accepted boot

module _ (m : Record) (t : Tables) (shape : shape_right m (zero_tables t) ≡ true) (records : length m.areas ≡ most_area_numbers) where
  zero_mark : (q : ℕ) → q < m.memory.frames → mark_at (zero_tables t) (place q) ≡ 0
  zero_mark q h =
      let s = shape_known m (zero_tables t) shape in
      let n = sym (length-replicate (length t.marks) 0) ∙ s.marks_length in
      get_or-replicate (length t.marks) q 0 0 (rw n h)

  zero_word : (q : ℕ) → q < m.memory.frames → word_at (zero_tables t) (place q) ≡ 0
  zero_word q h =
      let s = shape_known m (zero_tables t) shape in
      let n = sym (length-replicate (length t.words) 0) ∙ s.words_length in
      get_or-replicate (length t.words) q 0 0 (rw n h)

  zero_owner : (q : ℕ) → q < m.memory.frames → owner_at (zero_tables t) (place q) ≡ 0
  zero_owner q h =
      let s = shape_known m (zero_tables t) shape in
      let n = sym (length-replicate (length t.owners) 0) ∙ s.owners_length in
      get_or-replicate (length t.owners) q 0 0 (rw n h)

  zero_bits : BitsSound m (zero_tables t)
  zero_bits =
      record {
        clear = λ i j h b.
            let inside : bitmap_of m i + j / 64 < length t.bitmap = rw length-replicate at (word_inside m (zero_tables t) shape i j h b) in
            zero_clear (replicate (length t.bitmap) 0) (bitmap_of m i) j (get_or-replicate (length t.bitmap) (bitmap_of m i + j / 64) 0 0 inside) ∙
            sym
            (ap not
            (none_some (λ p. is_granted (mark_at (zero_tables t) (place p))) (place_of_bit m i (bit j)).0 (per_bit (area_at m i))
            (λ q u v. ap is_granted (zero_mark q (place_inside m (zero_tables t) shape i j q h b v)))));
      }

  zero_sound : Sound m (zero_tables t) empty_ledger
  zero_sound =
      record {
        shape = shape;
        records = records;
        places = λ q h.
            rw (zero_mark q h, zero_word q h)
            (record { used = omega arith; empty = λ _. refl; ordinary = λ e. clash false e refl; granted = λ _. refl });
        names = λ x.
            record {
              standing = λ e. clash false e refl;
              absent = λ e q h. rw (zero_mark q h);
              pinned_live = λ e. e;
              allowed = λ e. clash false e refl;
            };
        grants = λ g e. clash (is_among [] g) e (among_none g);
        covered = λ q h. at_none (frame_at m (place q)) ∙ rw (zero_mark q h);
        total =
            let none = many_zero (λ p. is_granted (mark_at (zero_tables t) (place p))) 0 m.memory.frames (λ k a b. ap is_granted (zero_mark k (omega arith))) in
            omega arith;
        bits = zero_bits;
        owners = λ q h.
            rw (zero_mark q h, zero_owner q h) (record { owned = λ e. clash false e refl; known = λ e. clash false e refl; none = λ _. refl });
      }

outcome_sound :
    (given : Record) (t : Tables) (r : Read Record) →
    Fine (zero_tables t) r →
    is_refused (booted given t r) ≡ false → Sound (booted given t r).machine (booted given t r).left empty_ledger
outcome_sound given t (gives m at) f e = zero_sound m t f.0 f.1
outcome_sound given t (refuses number at) f e = let none = eqb-true number 0 (not-false (eqb number 0) e) in absurd (omega arith)

pub boot_sound :
    (given : Record) (base frames block_order : ℕ) (text : List ℕ) (t : Tables) →
    is_refused (boot given base frames block_order text t) ≡ false →
    Sound (boot given base frames block_order text t).machine (boot given base frames block_order text t).left empty_ledger
unfolding boot
boot_sound given base frames block_order text t e =
    outcome_sound given t (boot_record base frames block_order text t) (boot_fine base frames block_order text t) e
