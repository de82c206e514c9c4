-- A refused call changes nothing of what its caller lent but the answer, and the counters' number where it is counted; and a call that is not made is
-- refused. Assumes nothing.
use Prim.Native.Nat.{ℕ, ◌+◌, ◌%◌, ◌≤◌, ◌<◌}
use native.Mathlib.Omega.{arith}
use mathlib.Core.Path.{◌≡◌, refl, ap, ◌∙◌}
use mathlib.Core.Bool.{true, false, ◌||◌}
use mathlib.Core.List.{List, [], ◌∷◌, ◌++◌}
use mathlib.Core.Logic.{inl, inr, ⊎_elim, ◌≢◌}
use lib.ListN.{length, get_or, take, drop, set, take-append-drop}
use lib.Seq.{length-take-le, get_or-set_same}
use borrow.Author.Tests.{ltb-false}
use Rattle.search.proofs.Bools.{by_cases}
use Rattle.rules.specs.declared.Call.{Call}
use Rattle.rules.specs.declared.Counters.{Counters}
use Rattle.rules.specs.declared.Record.{Record}
use Rattle.rules.specs.Counters.{counters, counted}
use Rattle.rules.specs.Limits.{most_area_numbers}
use Rattle.rules.specs.Calls.{perform, bytes_after}
use Rattle.rules.specs.Ledger.Roles.{role_of}
use Rattle.rules.proofs.Promises.Unchanged.{refusal_changes_nothing}
use Rattle.szk.specs.Layout.{record_length, answer_length, record_from, counters_from, counters_number, numbers_of, over}
use Rattle.szk.specs.Exported.{Handed, is_short, told_short, exported, buffer_left}
use Rattle.szk.specs.Statement.{RefusalKeeps, DoneIsMade}
use Rattle.szk.proofs.ReadBack.{written_back}

-- a record that is given back as it was read changes no number
same_numbers : (numbers : List ℕ) → record_length ≤ length numbers → over (numbers_of (record_from numbers) (counters_from numbers)) numbers ≡ numbers
unfolding over
same_numbers numbers h =
    ap (λ (l : List ℕ). l ++ drop (length l) numbers) (written_back numbers h) ∙
    ap (λ (n : ℕ). take record_length numbers ++ drop n numbers) (length-take-le record_length numbers h) ∙
    take-append-drop record_length numbers

-- with other counters, it changes theirs
counters_set :
    (numbers : List ℕ) (c : Counters) → record_length ≤ length numbers → over (numbers_of (record_from numbers) c) numbers ≡ set numbers 4 (counters_number c)
unfolding over
counters_set (n₀ ∷ n₁ ∷ n₂ ∷ n₃ ∷ n₄ ∷ more) c h =
    ap (λ (l : List ℕ). n₀ ∷ n₁ ∷ n₂ ∷ n₃ ∷ counters_number c ∷ l)
    (ap (λ (n : ℕ). take most_area_numbers more ++ drop n more) (length-take-le most_area_numbers more (omega arith)) ∙ take-append-drop most_area_numbers more)
counters_set (n₀ ∷ n₁ ∷ n₂ ∷ n₃ ∷ []) c h = absurd (omega arith)
counters_set (n₀ ∷ n₁ ∷ n₂ ∷ []) c h = absurd (omega arith)
counters_set (n₀ ∷ n₁ ∷ []) c h = absurd (omega arith)
counters_set (n₀ ∷ []) c h = absurd (omega arith)
counters_set [] c h = absurd (omega arith)

-- the buffer is left as the call leaves its bytes
left_is :
    (call : Call) (bytes : List ℕ) (l : Handed) →
    (is_short l.answer answer_length || is_short l.numbers record_length) ≡ false →
    bytes_after call bytes (record_from l.numbers) l.tables ≡ bytes → buffer_left call bytes l ≡ bytes
left_is call bytes l long same = by_cases (role_of call).is_report (λ y. rw (y, long) (rw y at same)) (λ n. rw n)

left_short :
    (call : Call) (bytes : List ℕ) (l : Handed) → (is_short l.answer answer_length || is_short l.numbers record_length) ≡ true → buffer_left call bytes l ≡ bytes
left_short call bytes l short = by_cases (role_of call).is_report (λ y. rw (y, short)) (λ n. rw n)

-- an answer that is too short is told 1, where it has a number, and that is not counted
told_one : (answer : List ℕ) {P : Type 0} → get_or (told_short answer) 0 0 ≢ 0 → P × (get_or (told_short answer) 0 0 ≢ 1) → ⊥
told_one [] e k = e refl
told_one (x ∷ more) e k = k.1 refl

pub refusal_keeps : RefusalKeeps
unfolding exported over
refusal_keeps call bytes l =
    by_cases (is_short l.answer answer_length) (λ a.
    rw a
    (λ e. (refl, rw a at (left_short call bytes l (rw a)), inl (told_one l.answer e, refl))))
    (λ a.
    by_cases (is_short l.numbers record_length) (λ n. rw (a, n) (λ e. (refl, rw (a, n) at (left_short call bytes l (rw (a, n))), inl ((λ k. k.1 refl), refl))))
    (λ n.
    rw (a, n)
    (λ e.
    let c = counters_from l.numbers in
    let o = refusal_changes_nothing call bytes (record_from l.numbers) c l.tables e in
    let long = ltb-false (length l.numbers) record_length n in
    let after = counted call (perform call bytes (record_from l.numbers) l.tables).answer.refusal c in
    let kept : (k : Counters) → after ≡ k → over (numbers_of (perform call bytes (record_from l.numbers) l.tables).machine after) l.numbers ≡ over (numbers_of (record_from l.numbers) k) l.numbers =
    λ k same. ap (λ (m : Record). over (numbers_of m after) l.numbers) o.0 ∙ ap (λ (x : Counters). over (numbers_of (record_from l.numbers) x) l.numbers) same
    in (
      o.1,
      rw (a, n) at (left_is call bytes l (rw (a, n)) o.2),
      ⊎_elim
          (λ w. inr (w.0, kept (counters c.granted ((c.refused + 1) % 4294967296)) (λ i. counters (o.3 i) (w.1 i)) ∙ counters_set l.numbers (counters c.granted ((c.refused + 1) % 4294967296)) long))
          (λ w. inl (w.0, kept c (λ i. counters (o.3 i) (w.1 i)) ∙ same_numbers l.numbers long))
          o.4,
    ))))

-- an answer that is too short, and has a number, is told the refusal
told_short_lem : (answer : List ℕ) → 0 < length answer → get_or (told_short answer) 0 0 ≡ 1
told_short_lem answer h = get_or-set_same answer 0 1 0 h

pub done_is_made : DoneIsMade
unfolding exported over
done_is_made call bytes l some =
    by_cases (is_short l.answer answer_length) (λ a. rw a (λ e. let one = told_short_lem l.answer some in absurd (omega arith)))
    (λ a.
    by_cases (is_short l.numbers record_length) (λ n. rw (a, n) (λ e. absurd (omega arith)))
    (λ n e. (ltb-false (length l.answer) answer_length a, ltb-false (length l.numbers) record_length n)))
