-- Grant keeps demand 2: it answers as the plain quantifiers over all candidates say. Assumes nothing.
use Rattle.std.proofs.Common.{◌≡◌, ℕ, ◌<◌, ◌≤◌, Bool, false, ◌||◌, eqb, ltb, sym, ap, ◌∙◌, ap₂, arith, pow_pos, le-ltb, lt-ltb, le-leb, leb-false}
use borrow.Author.Tests.{eqb-false, lt-leb}
use Rattle.search.proofs.Bools.{below_or_not, clash, or_left, or_right}
use Rattle.search.proofs.Lowest.{found_passes, found_low}
use Rattle.answer.specs.declared.Answer.{Answer}
use Rattle.answer.specs.Answers.{done, refused}
use Rattle.bitmap.specs.Bits.{is_clear}
use Rattle.frames.specs.Units.{place, bit}
use Rattle.frames.specs.Marks.{can_leave, free, movable}
use Rattle.frames.specs.Areas.{per_bit, bit_count, bits_for, frame_of_bit}
use Rattle.frames.specs.Tables.{Tables, mark_at}
use Rattle.rules.specs.declared.Record.{Record}
use Rattle.rules.specs.Record.{area_at}
use Rattle.rules.specs.Limits.{most_align_order}
use Rattle.rules.specs.Outcomes.{Outcome, here, there}
use Rattle.rules.specs.DeviceCalls.{is_unknown, bad_device, bitmap_of, place_of_bit, is_candidate, is_grantable, chosen, movers, grant}
use Rattle.rules.specs.Targets.{targets}
use Rattle.rules.proofs.Checks.{checked_first, checked_passed}
use Rattle.rules.proofs.Divisions.{ceiling_some}
use Rattle.rules.proofs.Targets.{room_is}
use Rattle.rules.proofs.Says.{Says, says_is, says_true, says_leb, says_eqb, says_and, says_or, says_every}
use Rattle.rules.specs.Promises.Changes.{kind_at}
use Rattle.rules.specs.Promises.Grants.{Grantable, FirstGrantable, room_for, Asked, moved, GrantAnswers, GrantIsFirstFit}

module _ (m : Record) (t : Tables) (i count align_order : ℕ) where
  abbrev test : ℕ → Bool
  test j = is_grantable m t i count align_order (bit j)

  abbrev bits : ℕ
  bits = bit_count (area_at m i)

  abbrev first : ℕ
  first = (chosen m t i count align_order).0

  pub grantable_says : (j : ℕ) → Says (test j) (Grantable m t i count align_order j)
  unfolding is_grantable is_candidate
  grantable_says j =
      says_is
      (λ w. record { candidate = record { aligned = w.0.0.0; inside = w.0.0.1; clear = w.0.1 }; leaves = w.1 })
      (λ g. (((g.candidate.aligned, g.candidate.inside), g.candidate.clear), g.leaves))
      (says_and
      (says_and (says_and (says_eqb _ 0) (λ _. says_leb _ _))
      (λ _. says_every (is_clear t.bitmap (bitmap_of m i)) _ j (bits_for (area_at m i) count) (λ k. says_true (is_clear t.bitmap (bitmap_of m i) k))))
      (λ _.
      says_every (λ q. can_leave (mark_at t (place q))) _ (place_of_bit m i (bit j)).0 count
      (λ q. says_or (says_eqb (kind_at t q) free) (λ _. says_eqb (kind_at t q) movable))))

  -- a run of some frames has a bit
  pub in_range : 0 < count → (j : ℕ) → Grantable m t i count align_order j → j < bits
  in_range some j g = omega (arith, g.candidate.inside, ceiling_some count (per_bit (area_at m i)) (pow_pos (area_at m i).order_per_bit) some)

  -- none before the one chosen is grantable, and it is, where there is one
  before_first : (k : ℕ) → k < first → Grantable m t i count align_order k → ⊥
  unfolding chosen
  before_first k l g = clash (test k) ((grantable_says k).test g) (found_low test bits k l)

  pub first_known : first < bits → FirstGrantable m t i count align_order first
  unfolding chosen
  first_known h = record { grantable = (grantable_says first).fact (found_passes test bits h); lowest = before_first }

  module _ {device : ℕ} (asked : Asked m t i count align_order device) where
    some_of_known : (is_unknown m.memory i || eqb count 0) ≡ false
    some_of_known =
        or_left (is_unknown m.memory i || eqb count 0) (ltb most_align_order align_order)
        (or_left (is_unknown m.memory i || eqb count 0 || ltb most_align_order align_order) (bad_device device) asked.arguments)

    known : i < m.memory.declared
    known = leb-false m.memory.declared i (or_left (is_unknown m.memory i) (eqb count 0) some_of_known)

    count_pos : 0 < count
    count_pos = below_or_not 0 count (λ h. h) (λ h. absurd (eqb-false count 0 (or_right (is_unknown m.memory i) (eqb count 0) some_of_known) (omega arith)))

    -- the one found is the only first
    first_is : (j : ℕ) → FirstGrantable m t i count align_order j → first ≡ j
    first_is j f =
        below_or_not first j
        (λ h. absurd (f.lowest first h (first_known (omega (arith, in_range count_pos j f.grantable))).grantable))
        (λ h. below_or_not j first (λ l. absurd (before_first j l f.grantable)) (λ l. omega arith))

    first_in_range : (j : ℕ) → FirstGrantable m t i count align_order j → first < bits
    first_in_range j f = omega (arith, first_is j f, in_range count_pos j f.grantable)

    none_found : ((j : ℕ) → Grantable m t i count align_order j → ⊥) → bits ≤ first
    none_found none = below_or_not first bits (λ h. absurd (none first (first_known h).grantable)) (λ h. h)

    abbrev answer : Answer
    answer = (grant m i count align_order device t).answer

    answer_7 : bits ≤ first → answer ≡ refused 7
    unfolding grant
    answer_7 h = ap (λ (o : Outcome). o.answer) (checked_first m t _ (there asked.shape (there asked.arguments (here (le-leb bits first h)))))

    answer_8 : first < bits → room_for m t i < moved m t i count align_order first → answer ≡ refused 8
    unfolding grant movers
    answer_8 h l =
        ap (λ (o : Outcome). o.answer)
        (checked_first m t _ (there asked.shape (there asked.arguments (there (lt-leb bits first h) (here (lt-ltb (targets m t i) _ (omega (arith, room_is m i known t))))))))

    answer_done : first < bits → moved m t i count align_order first ≤ room_for m t i → answer ≡ done (frame_of_bit (area_at m i) (bit first)).0 (moved m t i count align_order first)
    unfolding grant movers
    answer_done h l =
        ap (λ (o : Outcome). o.answer)
        (checked_passed m t _ _ (asked.shape, (asked.arguments, (lt-leb bits first h, (le-ltb (targets m t i) _ (omega (arith, room_is m i known t)), tt)))))

    -- which of the three it is
    by_answer : {P : Type 0} → (bits ≤ first → answer ≡ refused 7 → P) →
        (first < bits → room_for m t i < moved m t i count align_order first → answer ≡ refused 8 → P) →
        (first < bits → moved m t i count align_order first ≤ room_for m t i → answer ≡ done (frame_of_bit (area_at m i) (bit first)).0 (moved m t i count align_order first) → P) → P
    by_answer seven eight accepted =
        below_or_not first bits
        (λ h. below_or_not (room_for m t i) (moved m t i count align_order first) (λ l. eight h l (answer_8 h l)) (λ l. accepted h l (answer_done h l)))
        (λ h. seven h (answer_7 h))

    -- a refusal that is another number
    not_both : {P : Type 0} {a c : Answer} → answer ≡ a → answer ≡ c → (a.refusal ≡ c.refusal → ⊥) → P
    not_both p q ne = absurd (ne (ap (λ (x : Answer). x.refusal) (sym p ∙ q)))

    other_refusal : {P : Type 0} {a : Answer} (n : ℕ) → answer ≡ a → answer.refusal ≡ n → (a.refusal ≡ n → ⊥) → P
    other_refusal n p q ne = absurd (ne (sym (ap (λ (x : Answer). x.refusal) p) ∙ q))

    abbrev Accepted : ℕ → ℕ → Type 0
    Accepted f n =
        (j : ℕ) × FirstGrantable m t i count align_order j × ((frame_of_bit (area_at m i) (bit j)).0 ≡ f) × (moved m t i count align_order j ≡ n) × (n ≤ room_for m t i)

    accepted_known : (f n : ℕ) → answer ≡ done f n → Accepted f n
    accepted_known f n e =
        by_answer (λ h r. not_both r e (λ q. absurd (omega arith))) (λ h l r. not_both r e (λ q. absurd (omega arith)))
        (λ h l r.
        let frames : (frame_of_bit (area_at m i) (bit first)).0 ≡ f = ap (λ (x : Answer). x.first) (sym r ∙ e) in
        let pages : moved m t i count align_order first ≡ n = ap (λ (x : Answer). x.second) (sym r ∙ e) in
        (first, first_known h, frames, pages, omega arith))

    accepted_test : (f n : ℕ) → Accepted f n → answer ≡ done f n
    accepted_test f n w =
        let e = first_is w.0 w.1 in
        let same : moved m t i count align_order first ≡ moved m t i count align_order w.0 = ap (moved m t i count align_order) e in
        answer_done (first_in_range w.0 w.1) (omega (arith, w.3, w.4)) ∙
        ap₂ done (ap (λ (k : ℕ). (frame_of_bit (area_at m i) (bit k)).0) e ∙ w.2) (same ∙ w.3)

    no_run_known : answer.refusal ≡ 7 → (j : ℕ) → Grantable m t i count align_order j → ⊥
    no_run_known e j g =
        by_answer (λ h r. before_first j (omega (arith, in_range count_pos j g)) g)
        (λ h l r. other_refusal 7 r e (λ q. absurd (omega arith))) (λ h l r. other_refusal 7 r e (λ q. absurd (omega arith)))

    no_target_known : answer.refusal ≡ 8 → (j : ℕ) × FirstGrantable m t i count align_order j × (room_for m t i < moved m t i count align_order j)
    no_target_known e =
        by_answer (λ h r. other_refusal 8 r e (λ q. absurd (omega arith))) (λ h l r. (first, first_known h, l))
        (λ h l r. other_refusal 8 r e (λ q. absurd (omega arith)))

    no_target_test : (j : ℕ) × FirstGrantable m t i count align_order j × (room_for m t i < moved m t i count align_order j) → answer.refusal ≡ 8
    no_target_test w =
        let same : moved m t i count align_order first ≡ moved m t i count align_order w.0 = ap (moved m t i count align_order) (first_is w.0 w.1) in
        ap (λ (x : Answer). x.refusal) (answer_8 (first_in_range w.0 w.1) (omega (arith, w.2)))

    pub answers : GrantAnswers m t i count align_order device
    answers =
        record {
          accepted = λ f n. (accepted_known f n, accepted_test f n);
          no_run = (no_run_known, λ none. ap (λ (x : Answer). x.refusal) (answer_7 (none_found none)));
          no_target = (no_target_known, no_target_test);
        }

pub grant_is_first_fit : GrantIsFirstFit
grant_is_first_fit m t i count align_order device asked = answers m t i count align_order asked
