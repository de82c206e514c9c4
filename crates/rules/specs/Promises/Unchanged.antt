-- Demand 1, of every call, as document 02's request (iv) amends it: one that is refused changes no table, no record and no byte of what is lent beside
-- it, but that a grant refused with another number than 1 is counted. What the counters do otherwise. The bytes beside a call are a boot's
-- and a report's alone, and none but a report writes them. And none but a grant, a release and a boot changes an owner.
use Rattle.std.specs.Prelude.{◌≡◌, ℕ, ◌+◌, ◌%◌, ◌≢◌, ◌⊎◌, List, [], length}
use Rattle.frames.specs.declared.Frame.{Frame}
use Rattle.frames.specs.Tables.{Tables}
use Rattle.rules.specs.declared.Call.{Call}
use Rattle.rules.specs.declared.Counters.{Counters}
use Rattle.rules.specs.declared.Record.{Record}
use Rattle.rules.specs.Counters.{counted}
use Rattle.rules.specs.Calls.{perform, bytes_after}

abbrev pub IsGrant : Call → Type 0
IsGrant call = (area : ℕ) × (count : ℕ) × (align_order : ℕ) × (device : ℕ) × (call ≡ Call.Grant area count align_order device)

abbrev pub IsBoot : Call → Type 0
IsBoot call = (base : Frame) × (frames : ℕ) × (block_order : ℕ) × (call ≡ Call.Boot base frames block_order)

-- a grant that is answered with another number than 1, the wrong shape's
abbrev pub IsCounted : Call → ℕ → Type 0
IsCounted call number = IsGrant call × (number ≢ 1)

abbrev pub RefusalChangesNothing : Type 0
RefusalChangesNothing =
    (call : Call) (bytes : List ℕ) (m : Record) (c : Counters) (t : Tables) →
    let o = perform call bytes m t in
    let after = counted call o.answer.refusal c in
    o.answer.refusal ≢ 0 →
    (o.machine ≡ m) ×
    (o.left ≡ t) ×
    (bytes_after call bytes m t ≡ bytes) ×
    (after.granted ≡ c.granted) ×
    ((IsCounted call o.answer.refusal × (after.refused ≡ (c.refused + 1) % 4294967296)) ⊎
    ((IsCounted call o.answer.refusal → ⊥) × (after.refused ≡ c.refused)))

-- an accepted grant is one more, and the next after 4,294,967,295 is 0; an accepted boot sets both to 0; no other call changes them
pub record AcceptedCounts : Type 0 where
  pub grants :
      (call : Call) (c : Counters) →
      IsGrant call → ((counted call 0 c).granted ≡ (c.granted + 1) % 4294967296) × ((counted call 0 c).refused ≡ c.refused)
  pub boots : (call : Call) (c : Counters) → IsBoot call → ((counted call 0 c).granted ≡ 0) × ((counted call 0 c).refused ≡ 0)
  pub others : (call : Call) (c : Counters) → (IsGrant call → ⊥) → (IsBoot call → ⊥) → counted call 0 c ≡ c

pub record BytesBeside : Type 0 where
  -- a boot reads them, and of a report's their number plays a part
  pub read :
      (call : Call) (bytes : List ℕ) (m : Record) (t : Tables) →
      (IsBoot call → ⊥) → call ≢ Call.Report → perform call bytes m t ≡ perform call [] m t
  pub length_alone :
      (bytes bytes' : List ℕ) (m : Record) (t : Tables) →
      length bytes ≡ length bytes' → perform Call.Report bytes m t ≡ perform Call.Report bytes' m t
  -- a report alone writes them
  pub kept : (call : Call) (bytes : List ℕ) (m : Record) (t : Tables) → call ≢ Call.Report → bytes_after call bytes m t ≡ bytes

abbrev pub OwnersStay : Type 0
OwnersStay =
    (call : Call) (bytes : List ℕ) (m : Record) (t : Tables) →
    (IsGrant call → ⊥) →
    ((area : ℕ) (frame : Frame) (count device : ℕ) → call ≢ Call.Release area frame count device) →
    (IsBoot call → ⊥) → (perform call bytes m t).left.owners ≡ t.owners
