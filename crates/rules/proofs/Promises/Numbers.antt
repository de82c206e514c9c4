-- Every call answers each number exactly when the paper says. Assumes nothing.
use Rattle.std.proofs.Common.{◌≡◌, ℕ, ◌≢◌, List, length, refl}
use Rattle.frames.specs.declared.Frame.{Frame}
use Rattle.frames.specs.Tables.{Tables}
use Rattle.rules.specs.declared.Call.{Call}
use Rattle.rules.specs.declared.Record.{Record}
use Rattle.rules.specs.Outcomes.{Outcome, Check}
use Rattle.rules.specs.PageCalls as Page
use Rattle.rules.specs.DeviceCalls as Device
use Rattle.rules.specs.Report.{report_of, report}
use Rattle.rules.specs.Promises.Numbers.{◌answers◌otherwise◌, Accepted, WrongShape, BadName, NotLive, BadFrame, NotGranted, NotOwner, RefusedExactly, RefusalHasZeros}
use Rattle.rules.proofs.Checks.{checked_cases}
use Rattle.rules.proofs.EachCall.{each_call}
use Rattle.rules.proofs.Says.{says_ltb, says_not}
use Rattle.rules.proofs.Promises.Ladder.{Ladder, rung, foot, exactly}
use Rattle.rules.proofs.Promises.Shapes.{wrong_shape}
use Rattle.rules.proofs.Promises.PageNumbers.{bad_name_lem, page_is, put_movable_lem, put_fixed_lem}
use Rattle.rules.proofs.Promises.PlaceTests.{live}
use Rattle.rules.proofs.Promises.DeviceNumbers.{bad_grant, no_run, no_targets, bad_release, no_grant, disagrees, bad_frame, not_granted, not_owner_lem}
use Rattle.rules.proofs.Promises.DeclareNumbers.{declare_exactly}
use Rattle.rules.proofs.Promises.BootNumbers.{boot_answers_place}

-- a page that is looked up
looked_up :
    (m : Record) (t : Tables) (name : ℕ) {o : Outcome} {more : List Check} {later : ℕ → Type 0} →
    ((NotLive m t name → ⊥) → Ladder m t o more later) →
    Ladder m t o (Page.live_checks m name t more)
    (WrongShape m t answers 1 otherwise BadName name answers 2 otherwise NotLive m t name answers 3 otherwise later)
looked_up m t name rest = rung (wrong_shape m t) (λ _. rung (bad_name_lem name) (λ _. rung (says_not (live m t name)) rest))

-- a frame that a device uses
used :
    (m : Record) (t : Tables) (f : Frame) (device : ℕ) {o : Outcome} →
    o.answer.refusal ≡ 0 →
    Ladder m t o (Device.device_checks m f device t)
    (WrongShape m t answers 1 otherwise
    BadFrame m f.0 device answers 2 otherwise
    NotGranted m t f.0 answers 3 otherwise
    NotOwner m t f.0 device answers 15 otherwise Accepted)
used m t f device done =
    rung (wrong_shape m t)
    (λ _. rung (bad_frame m t f device) (λ _. rung (not_granted m t f device) (λ _. rung (not_owner_lem m t f device) (λ _. foot done))))

pub refused_exactly : RefusedExactly
unfolding Page.put_page Page.drop_page Page.change_kind Page.store_page Page.read_page Device.grant Device.release Device.device_store Device.device_read report
refused_exactly (Call.PutMovable name) bytes m t =
    exactly (rung (wrong_shape m t) (λ _. rung (bad_name_lem name) (λ _. rung (live m t name) (λ _. rung (put_movable_lem m t) (λ _. foot refl)))))
refused_exactly (Call.PutFixed name) bytes m t =
    exactly (rung (wrong_shape m t) (λ _. rung (bad_name_lem name) (λ _. rung (live m t name) (λ _. rung (put_fixed_lem m t) (λ _. foot refl)))))
refused_exactly (Call.Drop name) bytes m t = exactly (looked_up m t name (λ lives. rung (page_is m t name 2 lives) (λ _. foot refl)))
refused_exactly (Call.Pin name) bytes m t = exactly (looked_up m t name (λ lives. rung (says_not (page_is m t name 1 lives)) (λ _. foot refl)))
refused_exactly (Call.Unpin name) bytes m t = exactly (looked_up m t name (λ lives. rung (says_not (page_is m t name 2 lives)) (λ _. foot refl)))
refused_exactly (Call.Store name word) bytes m t = exactly (looked_up m t name (λ lives. rung (page_is m t name 2 lives) (λ _. foot refl)))
refused_exactly (Call.Read name) bytes m t = exactly (looked_up m t name (λ _. foot refl))
refused_exactly (Call.Grant i count align_order device) bytes m t =
    exactly
    (rung (wrong_shape m t)
    (λ _.
    rung (bad_grant m t i count align_order device)
    (λ good.
    rung (no_run m t i count align_order device good) (λ run. rung (no_targets m t i count align_order device good run) (λ _. foot refl)))))
refused_exactly (Call.Release i f count device) bytes m t =
    exactly
    (rung (wrong_shape m t)
    (λ _.
    rung (bad_release m t i f count device)
    (λ _.
    rung (no_grant m t i f count device)
    (λ _. rung (not_owner_lem m t f device) (λ _. rung (disagrees m t i f count device) (λ _. foot refl))))))
refused_exactly (Call.DeviceStore f word device) bytes m t = exactly (used m t f device refl)
refused_exactly (Call.DeviceRead f device) bytes m t = exactly (used m t f device refl)
refused_exactly (Call.Declare r) bytes m t = declare_exactly m r t
refused_exactly (Call.Boot base frames block_order) bytes m t = λ n.
    let exact = (boot_answers_place base frames block_order bytes m t).0 in
    (λ e. (_, (exact n _).0 (e, refl)), λ w. ((exact n w.0).1 w.1).0)
refused_exactly Call.Report bytes m t =
    exactly (rung (wrong_shape m t) (λ _. rung (says_ltb (length bytes) (length (report_of m t))) (λ _. foot refl)))

-- a refusal of one of a call's checks has two zeros
abbrev HasZeros : Outcome → Type 0
HasZeros o = o.answer.refusal ≢ 0 → (o.answer.first ≡ 0) × (o.answer.second ≡ 0)

abbrev NoBoot : Call → Type 0
NoBoot call = (base : Frame) (frames block_order : ℕ) → call ≢ Call.Boot base frames block_order

pub refusal_has_zeros : RefusalHasZeros
refusal_has_zeros =
    each_call (λ call m t o. NoBoot call → HasZeros o)
    (λ call m t cs o nums done _. checked_cases HasZeros m t cs o nums (λ n h e. (refl, refl)) (λ _ e. absurd (e done)))
    (λ base frames block_order text m t no_boot. absurd (no_boot base frames block_order refl))
