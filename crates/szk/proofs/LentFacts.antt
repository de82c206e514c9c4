-- What is judged of the lists lent, and the laws of `exported`. Assumes nothing.
--     no_room, short_record, long_enough    what `Judged` asks in each of the three cases
--     room                                  lists that are not too short are long enough
--     stopped, performed                    what an exported function leaves is what `exported` says
--     stopped_buffer, performed_buffer      and so for a report's buffer
use Prim.Native.Nat.{ℕ, ◌≤◌, ◌<◌}
use mathlib.Core.Path.{◌≡◌, refl, sym, ap, ◌∙◌}
use mathlib.Core.Bool.{Bool, true, false}
use mathlib.Core.List.{List, ◌++◌}
use lib.ListN.{length, take, drop}
use borrow.Author.Tests.{lt-ltb, le-ltb, ltb-false, eq-eqb}
use Rattle.search.proofs.Bools.{by_cases, clash, or_left, or_right}
use Rattle.answer.specs.declared.Answer.{Answer}
use Rattle.answer.specs.Answers.{refused}
use Rattle.frames.specs.Tables.{Tables}
use Rattle.rules.specs.declared.Call.{Call}
use Rattle.rules.specs.declared.Counters.{Counters}
use Rattle.rules.specs.declared.Memory.{Memory}
use Rattle.rules.specs.declared.Record.{Record}
use Rattle.rules.specs.Limits.{most_area_numbers}
use Rattle.rules.specs.Outcomes.{Outcome, outcome}
use Rattle.rules.specs.Counters.{counted}
use Rattle.rules.specs.Calls.{perform}
use Rattle.rules.specs.Does.{record_with, with_all_areas}
use Rattle.rules.specs.Ledger.Roles.{role_of}
use Rattle.machine.specs.Does.{buffer_after}
use Rattle.setup.proofs.AllAreas.{asked}
use Rattle.szk.specs.Layout.{areas_start, record_length, answer_length, record_from, counters_from, own_numbers, answer_numbers, over}
use Rattle.szk.specs.Exported.{handed, is_short, told_short, given_back, exported, buffer_left}
use Rattle.szk.specs.Steps.Judged.{Judged}
use Rattle.szk.proofs.LayoutFacts.{length_areas, areas_kept}

module _ (numbers answer : List ℕ) where
  pub no_room : length answer < answer_length → Judged numbers answer true (told_short answer)
  no_room h = let e = lt-ltb (length answer) answer_length h in record { verdict = rw e refl; left = rw e refl }

  pub short_record : answer_length ≤ length answer → length numbers < record_length → Judged numbers answer true (over (answer_numbers (refused 1)) answer)
  short_record room h =
      let e = le-ltb (length answer) answer_length room in
      let f = lt-ltb (length numbers) record_length h in
      record { verdict = rw (e, f) refl; left = rw (e, f) refl }

  pub long_enough : answer_length ≤ length answer → record_length ≤ length numbers → Judged numbers answer false answer
  long_enough room h =
      let e = le-ltb (length answer) answer_length room in
      let f = le-ltb (length numbers) record_length h in
      record { verdict = rw (e, f) refl; left = rw (e, f) refl }

-- the lists are long enough for a call, and the answer is as it was
pub record Room (numbers answer after : List ℕ) : Type 0 where
  pub record_long : record_length ≤ length numbers
  pub answer_long : answer_length ≤ length answer
  pub after_long : answer_length ≤ length after
  pub kept : after ≡ answer

module _ {numbers answer after : List ℕ} {short : Bool} (j : Judged numbers answer short after) where
  pub room : short ≡ false → Room numbers answer after
  room e =
      let both = sym j.verdict ∙ e in
      let a = or_left (is_short answer answer_length) (is_short numbers record_length) both in
      let n = or_right (is_short answer answer_length) (is_short numbers record_length) both in
      let answer_long = ltb-false (length answer) answer_length a in
      let kept : after ≡ answer = rw (a, n) at j.left in
      record {
        record_long = ltb-false (length numbers) record_length n;
        answer_long = answer_long;
        after_long = rw kept answer_long;
        kept = kept;
      }

  -- a call that is not made
  pub stopped : (call : Call) (bytes : List ℕ) (t : Tables) → short ≡ true → handed numbers t after ≡ exported call bytes (handed numbers t answer)
  unfolding exported
  stopped call bytes t e =
      by_cases (is_short answer answer_length) (λ a. rw (j.left, a) refl)
      (λ a.
      by_cases (is_short numbers record_length) (λ n. rw (j.left, a, n) refl)
      (λ n. clash short e (rw (a, n) at j.verdict)))

  pub stopped_buffer : (call : Call) (buffer : List ℕ) (t : Tables) → short ≡ true → buffer ≡ buffer_left call buffer (handed numbers t answer)
  stopped_buffer call buffer t e =
      by_cases (role_of call).is_report (λ y. rw (y, sym j.verdict ∙ e)) (λ n. rw n)

  -- a call that is made: on the record and the counters that the numbers hold, whose areas' stay where they are; and what it returned is given back
  pub performed :
      (call : Call) (bytes : List ℕ) (t : Tables) {t' : Tables} {areas' numbers' answer' : List ℕ} {memory : Memory} {c : Counters} {memory' : Memory} {c' : Counters} {given : Answer} →
      short ≡ false →
      memory ≡ (record_from numbers).memory →
      c ≡ counters_from numbers →
      outcome (record_with memory' areas') given t' ≡ with_all_areas (perform call bytes) (record_with memory (record_from numbers).areas) t →
      c' ≡ counted call given.refusal c →
      length areas' ≡ most_area_numbers →
      numbers' ≡ over (own_numbers memory' c') (take areas_start numbers ++ (areas' ++ drop most_area_numbers (drop areas_start numbers))) →
      answer' ≡ over (answer_numbers given) after →
      handed numbers' t' answer' ≡ exported call bytes (handed numbers t answer)
  unfolding exported
  performed call bytes t {t'} {areas'} {numbers'} {answer'} {memory} {c} {memory'} {c'} {given} e loaded read called tallied long given_numbers given_answer =
      let here = room e in
      let m : Record = record_from numbers in
      let a = le-ltb (length answer) answer_length here.answer_long in
      let n = le-ltb (length numbers) record_length here.record_long in
      let kept = given_numbers ∙ areas_kept memory' c' areas' numbers here.record_long long in
      let counts = tallied ∙ ap (counted call given.refusal) read in
      let back : handed numbers' t' answer' ≡ given_back call (outcome (record_with memory' areas') given t') (handed numbers t answer) =
      rw (kept, given_answer, here.kept, counts) refl in
      let made =
      called ∙
      ap (λ (x : Memory). with_all_areas (perform call bytes) (record_with x m.areas) t) loaded ∙
      sym (asked (perform call bytes) m t (length_areas numbers here.record_long)) in
      back ∙ ap (λ (o : Outcome). given_back call o (handed numbers t answer)) made ∙ rw (a, n) refl

  pub performed_buffer :
      (call : Call) (buffer : List ℕ) (t : Tables) {buffer' : List ℕ} {memory : Memory} →
      short ≡ false →
      memory ≡ (record_from numbers).memory →
      buffer' ≡ buffer_after call buffer (record_with memory (record_from numbers).areas) t →
      buffer' ≡ buffer_left call buffer (handed numbers t answer)
  performed_buffer call buffer t e loaded written =
      let m : Record = record_from numbers in
      let all = eq-eqb (length m.areas) most_area_numbers (length_areas numbers (room e).record_long) in
      written ∙
      ap (λ (x : Memory). buffer_after call buffer (record_with x m.areas) t) loaded ∙
      by_cases (role_of call).is_report (λ y. rw (y, all, sym j.verdict ∙ e)) (λ n. rw n)
