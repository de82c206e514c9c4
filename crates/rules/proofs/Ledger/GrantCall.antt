-- Grant keeps the invariant: the pages of its run leave, and then the run, which is free and no other grant's, is marked. Assumes nothing.
use Rattle.std.proofs.Common.{◌≡◌, ℕ, suc, ◌+◌, ◌-◌, ◌*◌, ◌%◌, ◌^◌, ◌<◌, ◌≤◌, true, false, ◌&&◌, ◌||◌, eqb, ltb, leb, List, length, sym, refl, ap, ◌∙◌, subst, arith, length-set, ltb-false, eq-eqb, leb-false, leb-true}
use native.Mathlib.Nat.{mul-mod_left}
use borrow.Author.Tests.{eqb-false}
use Rattle.search.specs.Search.{every}
use Rattle.search.proofs.Bools.{and_left, and_right, or_left, or_right}
use Rattle.search.proofs.Lowest.{found_passes}
use Rattle.search.proofs.Ranges.{every_all}
use Rattle.bitmap.specs.Bits.{is_clear, set_in, set_bits}
use Rattle.frames.specs.declared.Area.{Area}
use Rattle.frames.specs.Units.{frame, place, bit}
use Rattle.frames.specs.Marks.{mark_of, has_kind, can_leave, head}
use Rattle.frames.specs.Areas.{is_multiple, end_of, per_bit, bit_count, frame_of_bit, bits_for}
use Rattle.frames.specs.Tables.{Tables, mark_at, set_page, fill, with_bitmap, with_owners}
use Rattle.rules.specs.declared.Call.TheVariants as Call
use Rattle.rules.specs.declared.Record.{Record}
use Rattle.rules.specs.Record.{area_at}
use Rattle.rules.specs.Limits.{most_align_order}
use Rattle.rules.specs.Shape.{shape_right}
use Rattle.rules.specs.PageCalls.{page_at}
use Rattle.rules.specs.DeviceCalls.{is_unknown, bad_device, bitmap_of, place_of_bit, is_candidate, is_grantable, chosen, movers, move_out, mark_run, take_run}
use Rattle.rules.specs.DeviceCalls as Device
use Rattle.rules.specs.Targets.{targets}
use Rattle.rules.proofs.Shapes.{shape_known}
use Rattle.rules.specs.Ledger.Ledger.{Grant, Ledger, grant_of, with_grant}
use Rattle.rules.specs.Steps.Invariant.{GrantInArea, BitsSound, Sound}
use Rattle.rules.proofs.Checks.{checked_cases}
use Rattle.rules.proofs.Ledger.Marks.{is_page, page_of}
use Rattle.frames.proofs.AreaFacts.{holds_yes}
use Rattle.frames.proofs.FillFacts.{length_fill}
use Rattle.rules.proofs.ShapeFacts.{shape_lengths}
use Rattle.rules.proofs.AreaRight.{AreaFacts, area_facts}
use Rattle.bitmap.proofs.Runs.{change_length}
use Rattle.bitmap.proofs.Word.{setting}
use Rattle.rules.proofs.Ledger.BitsSound.{bits_run, run_granted}
use Rattle.rules.proofs.Ledger.MoveOut.{CanEmpty, Emptied, move_out_lem}
use Rattle.rules.proofs.Ledger.Kept.{Kept, kept_refused, pin_stays, done_kept}
use Rattle.rules.proofs.Ledger.GrantedRun.{run_inside, RunMarked, run_marked, now_granted, grant_sound, run_pins}

-- what an accepted grant has checked of its run
pub record Grantable (m : Record) (t : Tables) (i count device j : ℕ) : Type 0 where
  pub declared : i < m.memory.declared
  pub some : 1 ≤ count
  pub fits : j + bits_for (area_at m i) count ≤ bit_count (area_at m i)
  pub known : bad_device device ≡ false
  pub leave : (q : ℕ) → (place_of_bit m i (bit j)).0 ≤ q → q < (place_of_bit m i (bit j)).0 + count → can_leave (mark_at t (place q)) ≡ true

module _ (m : Record) (t : Tables) (l : Ledger) (s : Sound m t l) (i count device : ℕ) where
  grantable :
      (align_order : ℕ) →
      (is_unknown m.memory i || eqb count 0 || ltb most_align_order align_order || bad_device device) ≡ false →
      leb (bit_count (area_at m i)) (chosen m t i count align_order).0 ≡ false → Grantable m t i count device (chosen m t i count align_order).0
  unfolding chosen is_grantable is_candidate
  grantable align_order e₂ e₇ =
      let j = (chosen m t i count align_order).0 in
      let known =
      or_left (is_unknown m.memory i || eqb count 0) (ltb most_align_order align_order)
      (or_left (is_unknown m.memory i || eqb count 0 || ltb most_align_order align_order) (bad_device device) e₂)
      in
      let pass : is_grantable m t i count align_order (bit j) ≡ true =
      found_passes (λ j. is_grantable m t i count align_order (bit j)) (bit_count (area_at m i)) (leb-false (bit_count (area_at m i)) j e₇)
      in
      let every_leave = every (λ q. can_leave (mark_at t (place q))) (place_of_bit m i (bit j)).0 count in
      let candidate = and_left (is_candidate m t i count align_order (bit j)) every_leave pass in
      let multiple = is_multiple (frame_of_bit (area_at m i) (bit j)).0 (2 ^ align_order) in
      let lies = leb (j + bits_for (area_at m i) count) (bit_count (area_at m i)) in
      let clear = every (is_clear t.bitmap (bitmap_of m i)) j (bits_for (area_at m i) count) in
      let nonzero = eqb-false count 0 (or_right (is_unknown m.memory i) (eqb count 0) known) in
      record {
        declared = leb-false m.memory.declared i (or_left (is_unknown m.memory i) (eqb count 0) known);
        some = omega arith;
        fits = leb-true (j + bits_for (area_at m i) count) (bit_count (area_at m i)) (and_right multiple lies (and_left (multiple && lies) clear candidate));
        known = or_right (is_unknown m.memory i || eqb count 0 || ltb most_align_order align_order) (bad_device device) e₂;
        leave = λ q a b. every_all (λ q. can_leave (mark_at t (place q))) (place_of_bit m i (bit j)).0 count (and_right (is_candidate m t i count align_order (bit j)) every_leave pass) q a b;
      }

  module _ (j : ℕ) (ok : Grantable m t i count device j) (enough : movers t (place_of_bit m i (bit j)) count ≤ targets m t i) where
    abbrev r : ℕ
    r = (place_of_bit m i (bit j)).0

    abbrev a : Area
    a = area_at m i

    area : AreaFacts m a
    area = area_facts m t s.shape i ok.declared

    ends : a.base.0 + j * per_bit a + count ≤ end_of a
    ends = run_inside a j count ok.fits

    in_memory : r + count ≤ m.memory.frames
    in_memory = let low = area.low in let high = area.high in let e = ends in let some = ok.some in omega arith

    can_empty : CanEmpty m i t r count
    unfolding movers
    can_empty =
        record {
          inside = in_memory;
          leave = ok.leave;
          area = λ q u v.
              let low = area.low in
              let e = ends in
              holds_yes a (m.memory.base.0 + q) (omega arith) (omega arith);
          room = enough;
        }

    abbrev t₁ : Tables
    t₁ = move_out m t i (place r) count

    out : Emptied m i t t₁ l r count
    out = move_out_lem m i ok.declared l count r t s can_empty

    abbrev t₂ : Tables
    t₂ =
        with_owners (with_bitmap (mark_run t₁ (place r) count) (set_bits t.bitmap (bitmap_of m i) j (bits_for a count)))
        (fill t.owners r count device)

    marked : RunMarked t₁ t₂ r count device
    marked =
        let shaped = shape_known m t₁ out.sound.shape in
        let inside = in_memory in
        subst
        (λ (os : List ℕ). RunMarked t₁ (with_owners (with_bitmap (mark_run t₁ (place r) count) (set_bits t.bitmap (bitmap_of m i) j (bits_for a count))) (fill os r count device)) r count device)
        out.owners
        (run_marked t₁ (set_bits t.bitmap (bitmap_of m i) j (bits_for a count)) r count device ok.some (rw shaped.marks_length inside)
        (rw shaped.words_length inside) (rw shaped.owners_length inside))

    shape₂ : shape_right m t₂ ≡ true
    shape₂ =
        shape_lengths m t₁ t₂
        (record {
          marks = length_fill 5 (set_page t₁ (place r) (mark_of count head) 0).marks (suc r) (count - 1) ∙ length-set t₁.marks r (mark_of count head);
          words = length_fill 0 (set_page t₁ (place r) (mark_of count head) 0).words (suc r) (count - 1) ∙ length-set t₁.words r 0;
          bitmap = change_length set_in t.bitmap (bitmap_of m i) j (bits_for a count) ∙ ap length (sym out.bitmap);
          owners = length_fill device t.owners r count ∙ ap length (sym out.owners);
        }) ∙
        out.sound.shape

    abbrev answered : ℕ
    answered = (frame_of_bit a (bit j)).0

    first_frame : m.memory.base.0 + r ≡ answered
    first_frame = let low = area.low in omega arith

    abbrev this_grant : Grant
    this_grant = grant_of (frame answered) count

    this_lies_in : GrantInArea m this_grant
    this_lies_in =
        record {
          area = i;
          declared = ok.declared;
          low = omega arith;
          high = ends;
          on_bit = eq-eqb ((answered - a.base.0) % per_bit a) 0
              (ap (λ (x : ℕ). x % per_bit a) (let same : answered - a.base.0 ≡ j * per_bit a = omega arith in same) ∙ mul-mod_left j (per_bit a));
        }

    bits₂ : BitsSound m t₂
    bits₂ =
        bits_run m t₁ t₂ out.sound.shape i j count ok.declared ok.fits ends set_in 1 setting
        (ap (λ (ws : List ℕ). set_bits ws (bitmap_of m i) j (bits_for a count)) (sym out.bitmap)) marked.outside.marks
        (run_granted m t₁ t₂ out.sound.shape i j count ok.declared ok.fits ends ok.some
        (now_granted m t₁ t₂ l out.sound r count device ok.some in_memory out.emptied marked))
        out.sound.bits

    abbrev after : Ledger
    after = with_grant l this_grant device

    abbrev entered : ℕ → Ledger
    entered x = with_grant l (grant_of (frame x) count) device

    granted : Sound m t₂ after
    granted =
        subst (λ (x : ℕ). Sound m t₂ (entered x)) first_frame
        (grant_sound m t₁ t₂ l out.sound r count device ok.some in_memory out.emptied marked shape₂ ok.known
        (subst (λ (x : ℕ). GrantInArea m (grant_of (frame x) count)) (sym first_frame) this_lies_in) bits₂)

    granted_stays : (x : ℕ) → l.pinned x ≡ true → page_at m t₂ x ≡ page_at m t x
    granted_stays x b =
        pin_stays m m t t₂ l after x (s.names x) (granted.names x) refl b b
        (λ p h e k.
        let unmoved = out.pins p k in
        run_pins m t₁ t₂ l out.sound r count device ok.some in_memory out.emptied marked p h (ap (has_kind 2) unmoved ∙ k)
        (ap is_page unmoved ∙ page_of x (mark_at t (place p)) e) ∙
        unmoved)

  pub grant_kept : (align_order : ℕ) → Kept (Call.Grant i count align_order device) m t l (Device.grant m i count align_order device t)
  unfolding Device.grant take_run
  grant_kept align_order =
      checked_cases (Kept (Call.Grant i count align_order device) m t l) m t _ _ refl (kept_refused (Call.Grant i count align_order device) m t l s)
      (λ passed.
      let j : ℕ = (chosen m t i count align_order).0 in
      let ok : Grantable m t i count device j = grantable align_order passed.1.0 passed.1.1.0 in
      let enough : movers t (place_of_bit m i (bit j)) count ≤ targets m t i = ltb-false (targets m t i) (movers t (place_of_bit m i (bit j)) count) passed.1.1.1.0 in
      done_kept (Call.Grant i count align_order device) m t (t₂ j ok enough) l (after j ok enough) (answered j ok enough) (movers t (place_of_bit m i (bit j)) count) refl
      (granted j ok enough) (λ x a b. (b, granted_stays j ok enough x b)))
