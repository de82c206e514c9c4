-- How many frames a call is lent tables for, and what it is answered, by the lengths of the tables. Assumes nothing.
--     not_boot                any call but a boot is lent tables for the machine's frames
--     bare                    a call that is lent the numbers of all areas and neither a text nor a buffer is made with no bytes beside it
--     few_marks, few_words, few_owners    fewer entries than frames: refused with 1
--     enough                  else the call is made on the entries that are lent
--     answered                so what a call leaves of those entries, with the entries after them, is the answer
use Prim.Native.Nat.{ℕ, ◌≤◌, ◌<◌}
use mathlib.Core.Bool.{◌||◌}
use mathlib.Core.Path.{◌≡◌, refl, sym, ap, ◌∙◌}
use mathlib.Core.List.{List, [], ◌++◌}
use lib.ListN.{length, drop}
use borrow.Author.Tests.{lt-ltb, le-ltb}
use Rattle.search.proofs.Bools.{by_cases, or_right_true}
use Rattle.frames.specs.declared.Frame.{Frame}
use Rattle.frames.specs.Tables.{Tables, tables}
use Rattle.rules.specs.declared.Call.{Call}
use Rattle.rules.specs.declared.Memory.{Memory}
use Rattle.rules.specs.declared.Record.{Record}
use Rattle.answer.specs.declared.Answer.{Answer}
use Rattle.rules.specs.Outcomes.{Outcome, outcome, refuse}
use Rattle.rules.specs.Calls.{perform}
use Rattle.rules.specs.Does.{with_all_areas}
use Rattle.rules.specs.Limits.{most_area_numbers}
use Rattle.rules.specs.Ledger.Roles.{role_of}
use Rattle.setup.proofs.AllAreas.{asked}
use Rattle.machine.specs.Does.{beside}
use Rattle.playback.specs.Playback.{frames_for, entries_for, with_entries, answer_to}
use lib.Dec.{ltb}

pub not_boot :
    (memory : Memory) (call : Call) → ((base : Frame) (frames block_order : ℕ) → call ≡ Call.Boot base frames block_order → ⊥) →
    frames_for memory call ≡ memory.frames
unfolding frames_for
not_boot memory (Call.PutMovable name) h = refl
not_boot memory (Call.PutFixed name) h = refl
not_boot memory (Call.Drop name) h = refl
not_boot memory (Call.Pin name) h = refl
not_boot memory (Call.Unpin name) h = refl
not_boot memory (Call.Store name word) h = refl
not_boot memory (Call.Read name) h = refl
not_boot memory (Call.Grant area count align device) h = refl
not_boot memory (Call.Release area frame count device) h = refl
not_boot memory (Call.DeviceStore frame word device) h = refl
not_boot memory (Call.DeviceRead frame device) h = refl
not_boot memory (Call.Declare request) h = refl
not_boot memory (Call.Boot base frames block_order) h = absurd (h base frames block_order refl)
not_boot memory Call.Report h = refl

-- no text and no buffer: no bytes
pub nothing_beside : (call : Call) → beside call [] [] ≡ []
nothing_beside call = by_cases (role_of call).is_report (λ e. rw e) (λ e. rw e)

pub bare : (call : Call) (m : Record) (t : Tables) → length m.areas ≡ most_area_numbers → with_all_areas (perform call (beside call [] [])) m t ≡ perform call [] m t
bare call m t all = ap (λ (bytes : List ℕ). with_all_areas (perform call bytes) m t) (nothing_beside call) ∙ sym (asked (perform call []) m t all)

module _ (call : Call) (m : Record) (t : Tables) where
  pub few_marks : length t.marks < frames_for m.memory call → answer_to call m t ≡ refuse m t 1
  unfolding answer_to
  few_marks h = rw (lt-ltb (length t.marks) (frames_for m.memory call) h)

  pub few_words : length t.words < frames_for m.memory call → answer_to call m t ≡ refuse m t 1
  unfolding answer_to
  few_words h = rw (or_right_true (ltb (length t.marks) (frames_for m.memory call)) (ltb (length t.words) (frames_for m.memory call)) (lt-ltb (length t.words) (frames_for m.memory call) h))

  pub few_owners : length t.owners < frames_for m.memory call → answer_to call m t ≡ refuse m t 1
  unfolding answer_to
  few_owners h =
      rw
      (or_right_true (ltb (length t.marks) (frames_for m.memory call) || ltb (length t.words) (frames_for m.memory call))
      (ltb (length t.owners) (frames_for m.memory call)) (lt-ltb (length t.owners) (frames_for m.memory call) h))

  abbrev made : Outcome
  made = perform call [] m (entries_for (frames_for m.memory call) t)

  pub enough :
      frames_for m.memory call ≤ length t.marks → frames_for m.memory call ≤ length t.words → frames_for m.memory call ≤ length t.owners
      → answer_to call m t ≡ outcome made.machine made.answer (with_entries (frames_for m.memory call) t made.left)
  unfolding answer_to
  enough h k o =
      rw (
        le-ltb (length t.marks) (frames_for m.memory call) h,
        le-ltb (length t.words) (frames_for m.memory call) k,
        le-ltb (length t.owners) (frames_for m.memory call) o,
      )

  abbrev around : ℕ → Outcome
  around n =
      let o = perform call [] m (entries_for n t) in
      outcome o.machine o.answer (with_entries n t o.left)

  pub answered :
      (n : ℕ) (after : Record) (r : Answer) (marks words bitmap owners : List ℕ)
      → n ≡ frames_for m.memory call → n ≤ length t.marks → n ≤ length t.words → n ≤ length t.owners
      → outcome after r (tables marks words bitmap owners) ≡ perform call [] m (entries_for n t)
      → outcome after r (tables (marks ++ drop n t.marks) (words ++ drop n t.words) bitmap (owners ++ drop n t.owners)) ≡ answer_to call m t
  answered n after r marks words bitmap owners e h k o made_it =
      ap (λ (w : Outcome). outcome w.machine w.answer (with_entries n t w.left)) made_it
      ∙ ap (λ (f : ℕ). around f) e
      ∙ sym (enough (rw e at h) (rw e at k) (rw e at o))
