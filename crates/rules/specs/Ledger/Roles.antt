-- Document 01, "The ledger of demand 3": what each call is to the ledger, for how many frames it is lent tables, and whether it is a grant, which is
-- counted, a boot, or a report, which writes, in one table. The ledger is fed each call with its arguments, whether it was refused, and the
-- frame a grant answers, and nothing else.
use Rattle.std.specs.Prelude.{ℕ, Bool, true, false, nat_eq, if◌then◌else◌}
use Rattle.frames.specs.Units.{frame}
use Rattle.rules.specs.declared.Call.{Call}
use Rattle.rules.specs.Ledger.Ledger.{Ledger, grant_of, with_page, with_grant, end_grant, with_device_word}

pub record Role : Type 0 where
  -- what an accepted one changes; the number is the frame that a grant answers, and no other call's entry looks at it
  pub entry : ℕ → Ledger → Ledger
  pub is_boot : Bool
  pub is_grant : Bool
  pub is_report : Bool
  -- how many frames its tables are for, on a machine of so many: a boot's own, and for any other call the machine's
  pub frames : ℕ → ℕ
  -- it pins the page of that name
  pub pins : ℕ → Bool
  -- its answer has the word of a page whose name is in the set
  pub reads : (ℕ → Bool) → Bool

-- a call that is no boot
abbrev role : (ℕ → Ledger → Ledger) → Bool → Bool → (ℕ → Bool) → ((ℕ → Bool) → Bool) → Role
role entry is_grant is_report pins reads =
    record { entry = entry; is_boot = false; is_grant = is_grant; is_report = is_report; frames = λ n. n; pins = pins; reads = reads }

abbrev pub changes : (ℕ → Ledger → Ledger) → Role
changes entry = role entry false false (λ _. false) (λ _. false)

abbrev pub granting : (ℕ → Ledger → Ledger) → Role
granting entry = role entry true false (λ _. false) (λ _. false)

abbrev pub pinning : ℕ → (ℕ → Ledger → Ledger) → Role
pinning name entry = role entry false false (λ pinned. nat_eq pinned name) (λ _. false)

-- these four change nothing
abbrev pub keeps : Role
keeps = changes (λ _ l. l)

abbrev pub reporting : Role
reporting = role (λ _ l. l) false true (λ _. false) (λ _. false)

abbrev pub reading : ℕ → Role
reading name = role (λ _ l. l) false false (λ _. false) (λ names. names name)

abbrev pub booting : ℕ → Role
booting frames =
    record { entry = λ _ l. l; is_boot = true; is_grant = false; is_report = false; frames = λ _. frames; pins = λ _. false; reads = λ _. false }

abbrev pub role_of : Call → Role
-- put: the name is live and not pinned, its word 0
role_of (Call.PutMovable name) = changes (λ _ l. with_page l name true false 0)
role_of (Call.PutFixed name) = changes (λ _ l. with_page l name true false 0)
-- drop: no longer live
role_of (Call.Drop name) = changes (λ _ l. with_page l name false (l.pinned name) (l.word name))
-- pin, unpin: pinned, not pinned
role_of (Call.Pin name) = pinning name (λ _ l. with_page l name (l.live name) true (l.word name))
role_of (Call.Unpin name) = changes (λ _ l. with_page l name (l.live name) false (l.word name))
-- store: the word is the page's
role_of (Call.Store name word) = changes (λ _ l. with_page l name (l.live name) (l.pinned name) word)
role_of (Call.Read name) = reading name
-- grant: frame and count are a live grant, of the device; release: the live grant with that frame and count ends
role_of (Call.Grant area count align_order device) = granting (λ answered l. with_grant l (grant_of (frame answered) count) device)
role_of (Call.Release area first count device) = changes (λ _ l. end_grant l (grant_of first count))
-- device store: the word is that frame's
role_of (Call.DeviceStore at word device) = changes (λ _ l. with_device_word l at word)
role_of (Call.DeviceRead at device) = keeps
role_of (Call.Declare request) = keeps
role_of (Call.Boot base frames block_order) = booting frames
role_of Call.Report = reporting

-- the ledger is fed a call, whether it was refused, and the frame it answers; refused calls change nothing
abbrev pub fed : Call → Bool → ℕ → Ledger → Ledger
fed call refused answered l = if refused then l else (role_of call).entry answered l
