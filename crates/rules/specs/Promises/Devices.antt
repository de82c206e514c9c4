-- What an accepted device store and device read do, in plain quantifiers.
use Rattle.std.specs.Prelude.{◌≡◌, ℕ, ◌+◌, ◌<◌, ◌⊎◌, slice_index_or}
use Rattle.answer.specs.Answers.{done}
use Rattle.frames.specs.declared.Frame.{Frame}
use Rattle.frames.specs.Units.{place}
use Rattle.frames.specs.Marks.{head, later}
use Rattle.frames.specs.Tables.{Tables, mark_at, word_at}
use Rattle.rules.specs.declared.Record.{Record}
use Rattle.rules.specs.Outcomes.{Outcome, outcome}
use Rattle.rules.specs.DeviceCalls.{device_store, device_read}
use Rattle.rules.specs.Promises.Changes.{kind_at, OnlyPage}

-- the frame lies in memory, at place p, and is one of a grant's: its first or a later one; the device owns it
pub record GrantedAt (m : Record) (t : Tables) (f : Frame) (device p : ℕ) : Type 0 where
  pub at : f.0 ≡ m.memory.base.0 + p
  pub in_memory : p < m.memory.frames
  pub granted : (kind_at t p ≡ head) ⊎ (kind_at t p ≡ later)
  pub owner : slice_index_or t.owners p 0 ≡ device

-- a store makes the word the frame's, and changes nothing else
pub record DeviceStoreDoes (m : Record) (f : Frame) (word device : ℕ) (t : Tables) (o : Outcome) (p : ℕ) : Type 0 where
  pub place_of : GrantedAt m t f device p
  pub answer : o.answer ≡ done 0 0
  pub page : OnlyPage t o.left p (mark_at t (place p)) word
  pub machine : o.machine ≡ m

abbrev pub AcceptedDeviceStore : Type 0
AcceptedDeviceStore =
    (m : Record) (f : Frame) (word device : ℕ) (t : Tables) →
    let o = device_store m f word device t in
    o.answer.refusal ≡ 0 → (p : ℕ) × DeviceStoreDoes m f word device t o p

-- a read answers the frame's word, and leaves record and tables as they were
abbrev pub AcceptedDeviceRead : Type 0
AcceptedDeviceRead =
    (m : Record) (f : Frame) (device : ℕ) (t : Tables) →
    let o = device_read m f device t in
    o.answer.refusal ≡ 0 → (p : ℕ) × GrantedAt m t f device p × (o ≡ outcome m (done (word_at t (place p)) 0) t)
