-- A refused call changes nothing, but that a grant is counted: it is refused by one of its checks, and a boot by its reading. What an accepted one
-- counts. The bytes beside a call are a boot's and a report's. The definitions of all calls but three leave the owners where they were. Assumes
-- nothing.
use Rattle.std.proofs.Common.{◌≡◌, ℕ, ◌+◌, ◌%◌, true, false, eqb, ◌≢◌, ◌⊎◌, List, [], refl, ap, inl, inr, ne_eqb, eqb-true}
use borrow.Author.Tests.{eqb-false}
use Rattle.search.proofs.Bools.{by_cases, clash}
use Rattle.frames.specs.Tables.{Tables}
use Rattle.text.specs.Reading.{Read, gives, refuses}
use Rattle.rules.specs.declared.Call.{Call}
use Rattle.rules.specs.declared.Counters.{Counters}
use Rattle.rules.specs.declared.Record.{Record}
use Rattle.rules.specs.Counters.{after_grant, counted}
use Rattle.rules.specs.Outcomes.{Outcome, Check, checked}
use Rattle.rules.specs.Boot as Boot
use Rattle.rules.specs.PageCalls as Page
use Rattle.rules.specs.DeviceCalls as Device
use Rattle.rules.specs.Declare as Declare
use Rattle.rules.specs.Report as Report
use Rattle.rules.specs.Calls.{perform, bytes_after}
use Rattle.rules.specs.Ledger.Roles.{role_of}
use Rattle.rules.specs.Promises.Unchanged.{IsGrant, IsBoot, IsCounted, RefusalChangesNothing, AcceptedCounts, BytesBeside, OwnersStay}
use Rattle.rules.proofs.Checks.{numbered, checked_cases}
use Rattle.rules.proofs.EachCall.{each_call}

-- what is refused left the record and the tables as they were
abbrev Kept : Record → Tables → Outcome → Type 0
Kept m t o = o.answer.refusal ≢ 0 → (o.machine ≡ m) × (o.left ≡ t)

booted_kept : (m : Record) (t : Tables) (r : Read Record) → Kept m t (Boot.booted m t r)
booted_kept m t (gives new at) e = absurd (e refl)
booted_kept m t (refuses number at) e = (refl, refl)

record_kept : (call : Call) (bytes : List ℕ) (m : Record) (t : Tables) → Kept m t (perform call bytes m t)
unfolding Boot.boot
record_kept =
    each_call (λ call m t o. Kept m t o)
    (λ call m t cs o nums accepted. checked_cases (Kept m t) m t cs o nums (λ n h e. (refl, refl)) (λ _ e. absurd (e accepted)))
    (λ base frames block_order text m t. booted_kept m t (Boot.boot_record base.0 frames block_order text t))

-- the one call that is a report
pub only_report : (P : Call → Type 0) (call : Call) → (role_of call).is_report ≡ true → P Call.Report → P call
only_report P Call.Report e p = p
only_report P (Call.PutMovable name) e p = clash false e refl
only_report P (Call.PutFixed name) e p = clash false e refl
only_report P (Call.Drop name) e p = clash false e refl
only_report P (Call.Pin name) e p = clash false e refl
only_report P (Call.Unpin name) e p = clash false e refl
only_report P (Call.Store name word) e p = clash false e refl
only_report P (Call.Read name) e p = clash false e refl
only_report P (Call.Grant area count align_order device) e p = clash false e refl
only_report P (Call.Release area frame count device) e p = clash false e refl
only_report P (Call.DeviceStore frame word device) e p = clash false e refl
only_report P (Call.DeviceRead frame device) e p = clash false e refl
only_report P (Call.Declare request) e p = clash false e refl
only_report P (Call.Boot base frames block_order) e p = clash false e refl

-- the bytes are a report's to write, and it writes none where it is refused
refused_bytes : (bytes : List ℕ) (m : Record) (t : Tables) → (perform Call.Report bytes m t).answer.refusal ≢ 0 → bytes_after Call.Report bytes m t ≡ bytes
unfolding Report.reported
refused_bytes bytes m t e = rw (ne_eqb (perform Call.Report bytes m t).answer.refusal 0 e)

bytes_kept : (call : Call) (bytes : List ℕ) (m : Record) (t : Tables) → (perform call bytes m t).answer.refusal ≢ 0 → bytes_after call bytes m t ≡ bytes
bytes_kept call bytes m t =
    by_cases (role_of call).is_report
    (λ y. only_report (λ c. (perform c bytes m t).answer.refusal ≢ 0 → bytes_after c bytes m t ≡ bytes) call y (refused_bytes bytes m t))
    (λ n e. rw n)

not_grant : (call : Call) → (role_of call).is_grant ≡ false → IsGrant call → ⊥
not_grant call e grant = clash (role_of call).is_grant (ap (λ (c : Call). (role_of c).is_grant) grant.4) e

-- what is refused left the counters as they were, but that a grant is counted
abbrev CountedOnce : Call → ℕ → Counters → Counters → Type 0
CountedOnce call number c after =
    (after.granted ≡ c.granted) ×
    ((IsCounted call number × (after.refused ≡ (c.refused + 1) % 4294967296)) ⊎ ((IsCounted call number → ⊥) × (after.refused ≡ c.refused)))

-- the one call that is a grant
only_grant : (call : Call) → (role_of call).is_grant ≡ true → IsGrant call
only_grant (Call.Grant area count align_order device) e = (area, count, align_order, device, refl)
only_grant (Call.PutMovable name) e = clash false e refl
only_grant (Call.PutFixed name) e = clash false e refl
only_grant (Call.Drop name) e = clash false e refl
only_grant (Call.Pin name) e = clash false e refl
only_grant (Call.Unpin name) e = clash false e refl
only_grant (Call.Store name word) e = clash false e refl
only_grant (Call.Read name) e = clash false e refl
only_grant (Call.Release area frame count device) e = clash false e refl
only_grant (Call.DeviceStore frame word device) e = clash false e refl
only_grant (Call.DeviceRead frame device) e = clash false e refl
only_grant (Call.Declare request) e = clash false e refl
only_grant (Call.Boot base frames block_order) e = clash false e refl
only_grant Call.Report e = clash false e refl

counts_once : (call : Call) (number : ℕ) (c : Counters) → number ≢ 0 → CountedOnce call number c (counted call number c)
unfolding after_grant
counts_once call number c e =
    let other = ne_eqb number 0 e in
    by_cases (role_of call).is_grant
    (λ y.
    rw (y, other)
    (by_cases (eqb number 1)
    (λ one. rw one (refl, inr ((λ k. k.1 (eqb-true number 1 one)), refl)))
    (λ n. rw n (refl, inl ((only_grant call y, eqb-false number 1 n), refl)))))
    (λ n.
    rw (n, other)
    (by_cases (role_of call).is_boot (λ b. rw b (refl, inr ((λ k. not_grant call n k.0), refl)))
    (λ b. rw b (refl, inr ((λ k. not_grant call n k.0), refl)))))

pub refusal_changes_nothing : RefusalChangesNothing
refusal_changes_nothing call bytes m c t e =
    let same = record_kept call bytes m t e in
    let counts = counts_once call (perform call bytes m t).answer.refusal c e in
    (same.0, same.1, bytes_kept call bytes m t e, counts.0, counts.1)

-- the one call that is a boot
only_boot : (call : Call) → (role_of call).is_boot ≡ true → IsBoot call
only_boot (Call.Boot base frames block_order) e = (base, frames, block_order, refl)
only_boot (Call.PutMovable name) e = clash false e refl
only_boot (Call.PutFixed name) e = clash false e refl
only_boot (Call.Drop name) e = clash false e refl
only_boot (Call.Pin name) e = clash false e refl
only_boot (Call.Unpin name) e = clash false e refl
only_boot (Call.Store name word) e = clash false e refl
only_boot (Call.Read name) e = clash false e refl
only_boot (Call.Grant area count align_order device) e = clash false e refl
only_boot (Call.Release area frame count device) e = clash false e refl
only_boot (Call.DeviceStore frame word device) e = clash false e refl
only_boot (Call.DeviceRead frame device) e = clash false e refl
only_boot (Call.Declare request) e = clash false e refl
only_boot Call.Report e = clash false e refl

-- a call that is neither a grant nor a boot
others_same : (call : Call) (c : Counters) → (IsGrant call → ⊥) → (IsBoot call → ⊥) → counted call 0 c ≡ c
others_same call c no_grant no_boot =
    by_cases (role_of call).is_grant (λ y. absurd (no_grant (only_grant call y)))
    (λ n. rw n (by_cases (role_of call).is_boot (λ y. absurd (no_boot (only_boot call y))) (λ k. rw k)))

pub accepted_counts : AcceptedCounts
unfolding after_grant
accepted_counts =
    record {
      grants = λ call c grant. rw grant.4 (refl, refl);
      boots = λ call c boot. rw boot.3 (refl, refl);
      others = others_same;
    }

-- the bytes beside a call
read_bytes : (call : Call) (bytes : List ℕ) (m : Record) (t : Tables) → (IsBoot call → ⊥) → call ≢ Call.Report → perform call bytes m t ≡ perform call [] m t
read_bytes (Call.PutMovable name) bytes m t no_boot no_report = refl
read_bytes (Call.PutFixed name) bytes m t no_boot no_report = refl
read_bytes (Call.Drop name) bytes m t no_boot no_report = refl
read_bytes (Call.Pin name) bytes m t no_boot no_report = refl
read_bytes (Call.Unpin name) bytes m t no_boot no_report = refl
read_bytes (Call.Store name word) bytes m t no_boot no_report = refl
read_bytes (Call.Read name) bytes m t no_boot no_report = refl
read_bytes (Call.Grant area count align_order device) bytes m t no_boot no_report = refl
read_bytes (Call.Release area frame count device) bytes m t no_boot no_report = refl
read_bytes (Call.DeviceStore frame word device) bytes m t no_boot no_report = refl
read_bytes (Call.DeviceRead frame device) bytes m t no_boot no_report = refl
read_bytes (Call.Declare request) bytes m t no_boot no_report = refl
read_bytes (Call.Boot base frames block_order) bytes m t no_boot no_report = absurd (no_boot (base, frames, block_order, refl))
read_bytes Call.Report bytes m t no_boot no_report = absurd (no_report refl)

kept_bytes : (call : Call) (bytes : List ℕ) (m : Record) (t : Tables) → call ≢ Call.Report → bytes_after call bytes m t ≡ bytes
kept_bytes call bytes m t no_report =
    by_cases (role_of call).is_report (λ y. absurd (no_report (only_report (λ c. c ≡ Call.Report) call y refl))) (λ n. rw n)

pub bytes_beside : BytesBeside
unfolding Report.report
bytes_beside = record { read = read_bytes; length_alone = λ bytes bytes' m t e. rw e; kept = kept_bytes }

-- a call whose outcome, where it is done, has the owners that it was lent
checked_owners :
    (m : Record) (t : Tables) (cs : List Check) (o : Outcome) →
    numbered cs ≡ true → o.left.owners ≡ t.owners → (checked m t cs o).left.owners ≡ t.owners
checked_owners m t cs o nums done = checked_cases (λ o. o.left.owners ≡ t.owners) m t cs o nums (λ n h. refl) (λ _. done)

pub owners_stay : OwnersStay
unfolding Page.put_page Page.drop_page Page.change_kind Page.store_page Page.read_page Device.device_store Device.device_read Declare.declare Report.report
owners_stay (Call.PutMovable name) bytes m t no_grant no_release no_boot = checked_owners m t _ _ refl refl
owners_stay (Call.PutFixed name) bytes m t no_grant no_release no_boot = checked_owners m t _ _ refl refl
owners_stay (Call.Drop name) bytes m t no_grant no_release no_boot = checked_owners m t _ _ refl refl
owners_stay (Call.Pin name) bytes m t no_grant no_release no_boot = checked_owners m t _ _ refl refl
owners_stay (Call.Unpin name) bytes m t no_grant no_release no_boot = checked_owners m t _ _ refl refl
owners_stay (Call.Store name word) bytes m t no_grant no_release no_boot = checked_owners m t _ _ refl refl
owners_stay (Call.Read name) bytes m t no_grant no_release no_boot = checked_owners m t _ _ refl refl
owners_stay (Call.Grant area count align_order device) bytes m t no_grant no_release no_boot = absurd (no_grant (area, count, align_order, device, refl))
owners_stay (Call.Release area frame count device) bytes m t no_grant no_release no_boot = absurd (no_release area frame count device refl)
owners_stay (Call.DeviceStore frame word device) bytes m t no_grant no_release no_boot = checked_owners m t _ _ refl refl
owners_stay (Call.DeviceRead frame device) bytes m t no_grant no_release no_boot = checked_owners m t _ _ refl refl
owners_stay (Call.Declare request) bytes m t no_grant no_release no_boot = checked_owners m t _ _ refl refl
owners_stay (Call.Boot base frames block_order) bytes m t no_grant no_release no_boot = absurd (no_boot (base, frames, block_order, refl))
owners_stay Call.Report bytes m t no_grant no_release no_boot = checked_owners m t _ _ refl refl
