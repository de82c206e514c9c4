-- After a call the numbers hold the record and the counters that it returned: no call changes how many numbers the areas have. Assumes nothing.
use Prim.Native.Nat.{ℕ, suc, ◌<◌}
use native.Mathlib.Omega.{arith}
use mathlib.Core.Path.{◌≡◌, refl, ◌∙◌}
use mathlib.Core.Bool.{true, not, ◌&&◌}
use mathlib.Core.List.{List, [], ◌∷◌}
use lib.Dec.{eqb}
use lib.ListN.{length, drop, length-replicate}
use borrow.Author.Tests.{le-ltb}
use Rattle.search.proofs.Bools.{by_cases}
use Rattle.frames.specs.Tables.{Tables}
use Rattle.frames.proofs.AreaNumbers.{length_set_area}
use Rattle.regions.specs.declared.Region.{Region}
use Rattle.text.specs.Reading.{Read, gives, refuses, ◌then◌}
use Rattle.regions.specs.Text.{regions}
use Rattle.rules.specs.declared.Call.{Call}
use Rattle.rules.specs.declared.Counters.{Counters}
use Rattle.rules.specs.declared.Record.{Record}
use Rattle.rules.specs.declared.Request.{Request}
use Rattle.rules.specs.Record.{bare_record}
use Rattle.rules.specs.Limits.{most_area_numbers}
use Rattle.rules.specs.Shape.{memory_right, lengths_right}
use Rattle.rules.specs.Outcomes.{Outcome, Check, checked}
use Rattle.rules.specs.PageCalls as Page
use Rattle.rules.specs.DeviceCalls as Device
use Rattle.rules.specs.Declare as Declare
use Rattle.rules.specs.Boot as Boot
use Rattle.rules.specs.Report as Report
use Rattle.rules.specs.Counters.{after_grant, counted}
use Rattle.rules.specs.Calls.{perform}
use Rattle.rules.specs.Ledger.Roles.{role_of}
use Rattle.rules.proofs.Checks.{numbered, checked_cases}
use Rattle.szk.specs.Layout.{record_length, answer_length, record_from, counters_from, numbers_of, over}
use Rattle.szk.specs.Exported.{exported}
use Rattle.szk.specs.Statement.{NextRecord}
use Rattle.szk.proofs.LayoutFacts.{length_areas}
use Rattle.szk.proofs.ReadBack.{read_back}

-- a record has the numbers of all its areas
abbrev Whole : Record → Type 0
Whole m = length m.areas ≡ most_area_numbers

checked_whole : (m : Record) (t : Tables) (cs : List Check) (o : Outcome) → numbered cs ≡ true → Whole m → Whole o.machine → Whole (checked m t cs o).machine
checked_whole m t cs o nums before after = checked_cases (λ o. Whole o.machine) m t cs o nums (λ _ _. before) (λ _. after)

declare_whole : (m : Record) (r : Request) (t : Tables) → Whole m → Whole (Declare.declare m r t).machine
unfolding Declare.declare
declare_whole m r t e = checked_whole m t _ _ refl e (length_set_area m.areas m.memory.declared (Declare.area_for m r t) ∙ e)

-- ---- boot

-- a record that is given has them; a refusal gives none
abbrev GivesWhole : Read Record → Type 0
GivesWhole (gives m _) = Whole m
GivesWhole (refuses _ _) = Unit {0}

declare_all_whole : (rs : List Region) (i : ℕ) (m : Record) (t : Tables) → Whole m → GivesWhole (Boot.declare_all rs i m t)
unfolding Boot.declare_all
declare_all_whole [] i m t e = e
declare_all_whole (r ∷ rs) i m t e =
    let o = Declare.declare m (Boot.request_of r) t in
    by_cases (eqb o.answer.refusal 0)
    (λ q. rw q (declare_all_whole rs (suc i) o.machine o.left (declare_whole m (Boot.request_of r) t e))) (λ q. rw q tt)

boot_record_whole : (base frames order : ℕ) (text : List ℕ) (t : Tables) → GivesWhole (Boot.boot_record base frames order text t)
unfolding Boot.boot_record
boot_record_whole base frames order text t =
    by_cases (not (memory_right base frames order && lengths_right frames t)) (λ q. rw q tt) (λ q. rw q (of_text (regions text)))
  where
    bare : Record
    bare = bare_record base frames order

    of_text : (r : Read (List Region)) → GivesWhole (r then λ rs _. Boot.declare_all rs 0 bare (Boot.zero_tables t))
    of_text (gives rs at) = declare_all_whole rs 0 bare (Boot.zero_tables t) (length-replicate {A = ℕ} most_area_numbers 0)
    of_text (refuses number at) = tt

booted_whole : (m : Record) (t : Tables) (r : Read Record) → Whole m → GivesWhole r → Whole (Boot.booted m t r).machine
booted_whole m t (gives new at) e g = g
booted_whole m t (refuses number at) e g = e

-- ---- every call

perform_whole : (m : Record) (t : Tables) (call : Call) (bytes : List ℕ) → Whole m → Whole (perform call bytes m t).machine
unfolding Page.put_page Page.drop_page Page.change_kind Page.store_page Page.read_page Device.grant Device.release Device.device_store Device.device_read Boot.boot Report.report
perform_whole m t (Call.PutMovable name) bytes e = checked_whole m t _ _ refl e e
perform_whole m t (Call.PutFixed name) bytes e = checked_whole m t _ _ refl e e
perform_whole m t (Call.Drop name) bytes e = checked_whole m t _ _ refl e e
perform_whole m t (Call.Pin name) bytes e = checked_whole m t _ _ refl e e
perform_whole m t (Call.Unpin name) bytes e = checked_whole m t _ _ refl e e
perform_whole m t (Call.Store name word) bytes e = checked_whole m t _ _ refl e e
perform_whole m t (Call.Read name) bytes e = checked_whole m t _ _ refl e e
perform_whole m t (Call.Grant area count align device) bytes e = checked_whole m t _ _ refl e e
perform_whole m t (Call.Release area frame count device) bytes e = checked_whole m t _ _ refl e e
perform_whole m t (Call.DeviceStore frame word device) bytes e = checked_whole m t _ _ refl e e
perform_whole m t (Call.DeviceRead frame device) bytes e = checked_whole m t _ _ refl e e
perform_whole m t (Call.Declare request) bytes e = declare_whole m request t e
perform_whole m t (Call.Boot base frames order) bytes e =
    booted_whole m t (Boot.boot_record base.0 frames order bytes t) e (boot_record_whole base.0 frames order bytes t)
perform_whole m t Call.Report bytes e = checked_whole m t _ _ refl e e

-- the granted stay a number of 32 bits
granted_small : (call : Call) (number : ℕ) (c : Counters) → c.granted < 4294967296 → (counted call number c).granted < 4294967296
unfolding after_grant
granted_small call number c h =
    by_cases (role_of call).is_grant
    (λ g.
    rw g
    (by_cases (eqb number 0) (λ y. rw y (omega arith)) (λ n. rw n (by_cases (eqb number 1) (λ y. rw y h) (λ k. rw k h)))))
    (λ g.
    rw g (by_cases (role_of call).is_boot (λ b. rw b (by_cases (eqb number 0) (λ y. rw y (omega arith)) (λ n. rw n h))) (λ b. rw b h)))

pub next_record : NextRecord
unfolding exported over
next_record call bytes l room long =
    let m = record_from l.numbers in
    let o = perform call bytes m l.tables in
    let c = counted call o.answer.refusal (counters_from l.numbers) in
    rw (le-ltb (length l.answer) answer_length room, le-ltb (length l.numbers) record_length long)
    (read_back o.machine c (drop (length (numbers_of o.machine c)) l.numbers)
    (perform_whole m l.tables call bytes (length_areas l.numbers long))
    (granted_small call o.answer.refusal (counters_from l.numbers) (omega arith)))
