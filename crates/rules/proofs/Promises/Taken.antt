-- What an accepted grant does, and that freed room is used again. Assumes nothing.
use Rattle.std.proofs.Common.{◌≡◌, ℕ, suc, ◌+◌, ◌-◌, ◌*◌, ◌/◌, ◌%◌, ◌^◌, ◌<◌, ◌≤◌, true, false, not, ◌||◌, eqb, ltb, ◌⊎◌, length, sym, refl, ap, ◌∙◌, subst, inl, inr, arith, length-set, pow_pos, ltb-false, le-ltb, eq-eqb, ne_eqb, eqb-true, leb-false}
use native.Mathlib.Nat.{add-sub_cancel_left, mul-mod_left, eq_of_mul-eq-mul_right}
use borrow.Author.Tests.{eqb-false, lt-leb}
use Rattle.search.proofs.Bools.{by_cases, below_or_not, or_left, or_right, or_neither, not_flips, clash}
use Rattle.search.proofs.Ranges.{all_every}
use Rattle.answer.specs.Answers.{done}
use Rattle.bitmap.specs.Bits.{set_in}
use Rattle.bitmap.proofs.Word.{setting}
use Rattle.bitmap.proofs.Changes.{word_kept, set_not_clear, clear_outside}
use Rattle.bitmap.proofs.Runs.{change_length}
use Rattle.frames.specs.declared.Area.{Area}
use Rattle.frames.specs.declared.Frame.{Frame}
use Rattle.frames.specs.Units.{frame, place, bit}
use Rattle.frames.specs.Marks.{kind_of, field_of, mark_of, has_kind, free, movable, head, later}
use Rattle.frames.specs.Areas.{end_of, per_bit, bit_count, bits_for, frame_of_bit}
use Rattle.frames.specs.Tables.{Tables, mark_at}
use Rattle.frames.proofs.FillFacts.{length_fill}
use Rattle.rules.specs.declared.Record.{Record}
use Rattle.rules.specs.Record.{area_at}
use Rattle.rules.specs.Limits.{most_align_order}
use Rattle.rules.specs.Shape.{shape_right}
use Rattle.rules.specs.Outcomes.{Outcome, outcome, Passed}
use Rattle.rules.specs.Targets.{is_target, targets}
use Rattle.rules.specs.DeviceCalls.{is_unknown, bad_device, not_owner, bitmap_of, place_of_bit, chosen, movers, move_out, take_run, grant_checks, grant, outside_area, off_bit, later_frames, release_checks, release}
use Rattle.rules.proofs.Checks.{checked_passed, accepted_passed}
use Rattle.rules.proofs.ShapeFacts.{shape_lengths}
use Rattle.rules.proofs.Shapes.{Shape, shape_known}
use Rattle.rules.specs.Promises.Grants.{Grantable, movable_in}
use Rattle.rules.specs.Promises.Changes.{Same, SameLengths, OnlyBits}
use Rattle.rules.specs.Promises.Moves.{Target, targets_before, MovesTo, GrantDoes, AcceptedGrant}
use Rattle.rules.specs.Promises.Releases.{ReleaseDoes, FreedRoom, FreedRoomIsUsed}
use Rattle.rules.proofs.Targets.{in_no_target, target_known, target_test}
use Rattle.rules.proofs.Promises.Grants.{first_known}
use Rattle.rules.proofs.Promises.Releases.{Leaves, stays_clear, stays_grantable, accepted_release}
use Rattle.rules.proofs.Promises.Moves.{Ready, Moved, moved_all}
use Rattle.rules.proofs.Promises.Changes.{filled_owners}
use Rattle.rules.proofs.Promises.Runs.{in_run_or_not, frames_inside, words_inside, count_le, at_is, run_inside, run_in_area, marked_first, marked_rest, marked_word, marked_other}

head_kind : (count : ℕ) → has_kind head (mark_of count head) ≡ true
head_kind count = eq-eqb (kind_of (mark_of count head)) head (omega arith)

head_field : (count : ℕ) → field_of (mark_of count head) ≡ count
head_field count = omega arith

grant_passes :
    (m : Record) (i count align_order device : ℕ) (t : Tables) →
    (grant m i count align_order device t).answer.refusal ≡ 0 → Passed (grant_checks m i count align_order device t)
unfolding grant
grant_passes m i count align_order device t e = accepted_passed m t (grant_checks m i count align_order device t) _ refl e

module _ (m : Record) (i count align_order device : ℕ) (t : Tables) (passed : Passed (grant_checks m i count align_order device t)) where
  abbrev j : ℕ
  j = (chosen m t i count align_order).0

  abbrev p : ℕ
  p = (place_of_bit m i (bit j)).0

  abbrev area : Area
  area = area_at m i

  -- ---- what the checks say
  right : shape_right m t ≡ true
  right = not_flips (shape_right m t) passed.0

  shape : Shape m t
  shape = shape_known m t right

  arguments : (is_unknown m.memory i || eqb count 0 || ltb most_align_order align_order) ≡ false
  arguments = or_left (is_unknown m.memory i || eqb count 0 || ltb most_align_order align_order) (bad_device device) passed.1.0

  good : bad_device device ≡ false
  good = or_right (is_unknown m.memory i || eqb count 0 || ltb most_align_order align_order) (bad_device device) passed.1.0

  known : i < m.memory.declared
  known = leb-false m.memory.declared i (or_left (is_unknown m.memory i) (eqb count 0) (or_left (is_unknown m.memory i || eqb count 0) (ltb most_align_order align_order) arguments))

  some : 0 < count
  some =
      below_or_not 0 count (λ h. h)
      (λ h. absurd (eqb-false count 0 (or_right (is_unknown m.memory i) (eqb count 0) (or_left (is_unknown m.memory i || eqb count 0) (ltb most_align_order align_order) arguments)) (omega arith)))

  found : j < bit_count area
  found = leb-false (bit_count area) j passed.1.1.0

  room : movers t (place p) count ≤ targets m t i
  room = ltb-false (targets m t i) (movers t (place p) count) passed.1.1.1.0

  grantable : Grantable m t i count align_order j
  grantable = (first_known m t i count align_order found).grantable

  inside : j + bits_for area count ≤ bit_count area
  inside = grantable.candidate.inside

  -- ---- what the grant leaves
  abbrev moved_out : Tables
  moved_out = move_out m t i (place p) count

  ready : Ready m i known t p count
  unfolding movers
  ready =
      record {
        sized = record { marks = shape.marks_length; words = shape.words_length };
        inside = omega (arith, run_inside m t shape i count j known inside, count_le m t shape i count j known inside);
        in_area = λ q a b. run_in_area m t shape i count j known inside q a (omega (arith, count_le m t shape i count j known inside));
        room = room;
      }

  out : Moved m i known t moved_out p count
  out = moved_all m i known t p count ready

  marks_room : p + count ≤ length moved_out.marks
  marks_room = omega (arith, ready.inside, out.sized.marks)

  words_room : p + count ≤ length moved_out.words
  words_room = omega (arith, ready.inside, out.sized.words)

  abbrev left : Tables
  left = take_run m t i count (bit j) device

  same_after : (q : ℕ) → (p ≤ q → q < p + count → ⊥) → (Target m t i q → movable_in t p count ≤ targets_before m t i q) → Same t left q
  unfolding movers take_run
  same_after q outside bound =
      let a = marked_other moved_out p count some marks_room words_room q outside in
      let b = out.stays q outside (λ h e. bound (target_known m i known t q h e)) in
      record { mark = a.0 ∙ b.mark; word = a.1 ∙ b.word }

  no_target : (q : ℕ) → p ≤ q → q < p + bits_for area count * per_bit area → Target m t i q → ⊥
  no_target q a b w =
      clash (is_target m t i (place q)) (target_test m i known t q w) (in_no_target m i known t q (run_in_area m t shape i count j known inside q a b))

  moves_after : (q : ℕ) → p ≤ q → q < p + count → has_kind movable (mark_at t (place q)) ≡ true → (r : ℕ) × MovesTo m i t left p q r
  unfolding take_run
  moves_after q a b e =
      let w = out.arrives q a b e in
      let f = w.1 in
      let outside : p ≤ w.0 → w.0 < p + count → ⊥ = λ u v. no_target w.0 u (omega (arith, count_le m t shape i count j known inside)) f.target in
      let k = marked_other moved_out p count some marks_room words_room w.0 outside in
      (w.0, record { target = f.target; in_order = f.in_order; mark = k.0 ∙ f.mark; word = k.1 ∙ f.word })

  -- a frame outside the run can leave if it could before: it is as it was, or a movable page went there
  leaves_after : (q : ℕ) → (p ≤ q → q < p + count → ⊥) → Leaves t q → Leaves left q
  unfolding movers take_run
  leaves_after q outside before =
      below_or_not (targets_before m t i q) (movable_in t p count)
      (λ l.
      by_cases (is_target m t i (place q))
      (λ e.
      below_or_not q m.memory.frames
      (λ h.
      inr
      (ap kind_of (marked_other moved_out p count some marks_room words_room q outside).0 ∙
      eqb-true (kind_of (mark_at moved_out (place q))) movable (out.filled q h e l)))
      (λ h. as_before (λ w. absurd (omega (arith, w.in_memory)))))
      (λ e. as_before (λ w. clash (is_target m t i (place q)) (target_test m i known t q w) e)))
      (λ l. as_before (λ w. l))
    where
      as_before : (Target m t i q → movable_in t p count ≤ targets_before m t i q) → Leaves left q
      as_before bound = subst (λ (x : ℕ). (kind_of x ≡ free) ⊎ (kind_of x ≡ movable)) (sym (same_after q outside bound).mark) before

  bit_inside : (k : ℕ) → k < j + bits_for area count → bitmap_of m i + k / 64 < length t.bitmap
  bit_inside k h = omega (arith, inside, words_inside m t shape i known)

  abbrev answered : ℕ
  answered = (frame_of_bit area (bit j)).0

  -- the outcome
  abbrev after : Outcome
  after = outcome m (done answered (movers t (place p) count)) left

  grant_after : grant m i count align_order device t ≡ after
  unfolding grant
  grant_after = checked_passed m t _ _ passed

  same_lengths : SameLengths t left
  unfolding take_run
  same_lengths =
      record {
        marks = simp (length_fill, length-set) (out.sized.marks ∙ sym shape.marks_length);
        words = simp (length_fill, length-set) (out.sized.words ∙ sym shape.words_length);
        bitmap = change_length _ t.bitmap (bitmap_of m i) j _;
        owners = simp (length_fill) refl;
      }

  does_after : GrantDoes m i count device t after p j
  unfolding movers take_run
  does_after =
      record {
        answer = ap (λ (x : ℕ). done x (movers t (place p) count)) (sym (at_is m t shape i count j known inside));
        on_bit = sym (at_is m t shape i count j known inside);
        in_memory = ready.inside;
        machine = refl;
        lengths = same_lengths;
        moved = moves_after;
        kept = same_after;
        first = marked_first moved_out p count some marks_room words_room;
        rest = marked_rest moved_out p count some marks_room words_room;
        words = marked_word moved_out p count some marks_room words_room;
        spare = λ q a b. same_after q (λ u v. absurd (omega arith)) (λ w. absurd (no_target q (omega arith) b w));
        bits =
            record {
              run = λ k a b. set_not_clear t.bitmap (bitmap_of m i) j (bits_for area count) k a b (bit_inside k b);
              others = λ k n. clear_outside t.bitmap (bitmap_of m i) j (bits_for area count) setting k n;
              words_before = λ w h. word_kept set_in t.bitmap (bitmap_of m i) j (bits_for area count) w (λ k a b e. omega arith);
            };
        owners = filled_owners t left p count device (omega (arith, shape.owners_length, ready.inside));
      }

  does : GrantDoes m i count device t (grant m i count align_order device t) p j
  does = subst (λ (o : Outcome). GrantDoes m i count device t o p j) (sym grant_after) does_after

  -- ---- the release of what was granted is accepted
  abbrev f : Frame
  f = frame answered

  right_left : shape_right m left ≡ true
  right_left = shape_lengths m t left same_lengths ∙ right

  head_there : mark_at left (place p) ≡ mark_of count head
  head_there = does_after.first

  later_there : later_frames left (place p) count ≡ true
  unfolding later_frames
  later_there = all_every _ (suc p) (count - 1) (λ q a b. ap (has_kind later) (does_after.rest q a (omega arith)))

  inside_area : (is_unknown m.memory i || eqb count 0 || outside_area area f count || bad_device device) ≡ false
  inside_area =
      let e : answered + count ≤ end_of area = omega (arith, frames_inside m t shape i count j known inside, count_le m t shape i count j known inside) in
      or_neither _ _
      (or_neither _ _ (or_neither _ _ (lt-leb m.memory.declared i known) (ne_eqb count 0 (λ z. absurd (omega (arith, some)))))
      (or_neither _ _ (le-ltb answered area.base.0 (omega arith)) (le-ltb (end_of area) (answered + count) e)))
      good

  on_bit : (off_bit area f || not (has_kind head (mark_at left (place p)))) ≡ false
  on_bit =
      or_neither _ _
      (ap not (eq-eqb _ 0 (ap (λ (x : ℕ). x % per_bit area) (add-sub_cancel_left area.base.0 (j * per_bit area)) ∙ mul-mod_left j (per_bit area))))
      (ap not (ap (has_kind head) head_there ∙ head_kind count))

  agrees : (not (eqb (field_of (mark_at left (place p))) count) || not (later_frames left (place p) count)) ≡ false
  agrees = or_neither _ _ (ap not (eq-eqb _ count (ap field_of head_there ∙ head_field count))) (ap not later_there)

  -- the run's first frame is the device's
  owned : not_owner m left f device ≡ false
  owned = ap not (eq-eqb _ device (does_after.owners.run p (omega arith) (omega (arith, some))))

  release_passes : Passed (release_checks m i f count device left)
  release_passes = (ap not right_left, (inside_area, (on_bit, (owned, (agrees, tt)))))

  abbrev u : Outcome
  u = release m i f count device left

  release_accepted : u.answer.refusal ≡ 0
  unfolding release
  release_accepted = ap (λ (o : Outcome). o.answer.refusal) (checked_passed m left _ _ release_passes)

  -- ---- and what it leaves, by what the two calls promise
  module _ (p' j' : ℕ) (r : ReleaseDoes m i f count device left u p' j') where
    same_place : p' ≡ p
    same_place = omega (arith, r.at, at_is m t shape i count j known inside)

    same_bit : j' ≡ j
    same_bit =
        let e : j' * per_bit area ≡ j * per_bit area = omega (arith, r.on_bit) in
        eq_of_mul-eq-mul_right (per_bit area) (pow_pos area.order_per_bit) j' j e

    -- the run's bits were clear, and nothing else changed in between
    only_bits : OnlyBits t u.left (bitmap_of m i) j' (bits_for area count) true
    only_bits =
        record {
          run = r.bits.run;
          others = λ k n. r.bits.others k n ∙ does_after.bits.others k (λ a b. n (omega (arith, same_bit)) (omega (arith, same_bit)));
          words_before = λ w h. r.bits.words_before w h ∙ does_after.bits.words_before w h;
        }

    -- a frame can leave now if it could before the grant: in the run it is free, and elsewhere it is as it was, or a movable page went there
    can_leave_lem : (q : ℕ) → Leaves t q → Leaves u.left q
    can_leave_lem q before =
        in_run_or_not q p' count (λ a b. inl (ap kind_of (r.marks q a b))) (λ h. outside (λ u v. absurd (omega arith)))
        (λ h. outside (λ u v. absurd (omega arith)))
      where
        outside : (p' ≤ q → q < p' + count → ⊥) → Leaves u.left q
        outside out_of_it =
            subst (λ (x : ℕ). (kind_of x ≡ free) ⊎ (kind_of x ≡ movable)) (sym (r.kept q out_of_it).mark)
            (leaves_after q (λ a b. out_of_it (omega (arith, same_place)) (omega (arith, same_place))) before)

    freed_room : FreedRoom m i count align_order t after u j'
    freed_room =
        record {
          accepted = release_accepted;
          on_bit = r.on_bit;
          again = r.again count align_order j' aligned (omega arith) (omega arith) (omega (arith, r.at, r.on_bit));
          still = stays_grantable m t u.left (stays_clear t u.left (bitmap_of m i) j' (bits_for area count) only_bits) can_leave_lem;
        }
      where
        aligned : (frame_of_bit area (bit j')).0 % 2 ^ align_order ≡ 0
        aligned = subst (λ (k : ℕ). (frame_of_bit area (bit k)).0 % 2 ^ align_order ≡ 0) (sym same_bit) grantable.candidate.aligned

  freed_after : (k : ℕ) × FreedRoom m i count align_order t after u k
  freed_after = let r = accepted_release m i f count device left release_accepted in (r.1, freed_room r.0 r.1 r.2)

  freed :
      let o = grant m i count align_order device t in
      (k : ℕ) × FreedRoom m i count align_order t o (release o.machine i (frame o.answer.first) count device o.left) k
  freed =
      subst (λ (o : Outcome). (k : ℕ) × FreedRoom m i count align_order t o (release o.machine i (frame o.answer.first) count device o.left) k)
      (sym grant_after) freed_after

pub accepted_grant : AcceptedGrant
accepted_grant m i count align_order device t e =
    let passed = grant_passes m i count align_order device t e in
    (p m i count align_order device t passed, j m i count align_order device t passed, does m i count align_order device t passed)

pub freed_room_is_used : FreedRoomIsUsed
freed_room_is_used m i count align_order device t e = freed m i count align_order device t (grant_passes m i count align_order device t e)
