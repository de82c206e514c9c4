-- What an accepted release does, on any tables, and that freed room is used again: in plain quantifiers.
use Rattle.std.specs.Prelude.{◌≡◌, ℕ, ◌+◌, ◌%◌, ◌^◌, ◌<◌, ◌≤◌, true, slice_index_or}
use Rattle.answer.specs.Answers.{done}
use Rattle.frames.specs.declared.Frame.{Frame}
use Rattle.frames.specs.Units.{frame, place, bit}
use Rattle.frames.specs.Areas.{bits_for, frame_of_bit}
use Rattle.frames.specs.Tables.{Tables, mark_at, word_at}
use Rattle.rules.specs.declared.Record.{Record}
use Rattle.rules.specs.Record.{area_at}
use Rattle.rules.specs.Outcomes.{Outcome}
use Rattle.rules.specs.DeviceCalls.{bitmap_of, place_of_bit, grant, release}
use Rattle.rules.specs.Promises.Changes.{Same, SameLengths, OnlyBits, OnlyOwners}
use Rattle.rules.specs.Promises.Grants.{Grantable}

-- what was grantable still is: a run of any area
abbrev pub StillGrantable : Record → Tables → Tables → Type 0
StillGrantable m t t' =
    (i count align_order j : ℕ) → i < m.memory.declared → Grantable m t i count align_order j → Grantable m t' i count align_order j

-- what the release of the run of `count` frames at place p of area i, whose first bit is j, leaves of the tables t
module _ (m : Record) (i : ℕ) (f : Frame) (count device : ℕ) (t : Tables) where
  pub record ReleaseDoes (o : Outcome) (p j : ℕ) : Type 0 where
    pub at : f.0 ≡ m.memory.base.0 + p
    pub on_bit : (frame_of_bit (area_at m i) (bit j)).0 ≡ f.0
    pub in_memory : p + count ≤ m.memory.frames
    -- the device owns the first frame
    pub owner : slice_index_or t.owners p 0 ≡ device
    pub answer : o.answer ≡ done 0 0
    pub machine : o.machine ≡ m
    pub lengths : SameLengths t o.left
    -- the run's marks and words become 0, and no others change
    pub marks : (q : ℕ) → p ≤ q → q < p + count → mark_at o.left (place q) ≡ 0
    pub words : (q : ℕ) → p ≤ q → q < p + count → word_at o.left (place q) ≡ 0
    pub kept : (q : ℕ) → (p ≤ q → q < p + count → ⊥) → Same t o.left q
    -- the run's bits are clear, and no others change
    pub bits : OnlyBits t o.left (bitmap_of m i) j (bits_for (area_at m i) count) true
    -- the run's frames have no owner, and no others change theirs
    pub owners : OnlyOwners t o.left p count 0
    -- a run that begins on an aligned bit, and whose bits and frames lie among those freed, can be granted
    pub again :
        (count' align_order' j' : ℕ) →
        (frame_of_bit (area_at m i) (bit j')).0 % 2 ^ align_order' ≡ 0 →
        j ≤ j' →
        j' + bits_for (area_at m i) count' ≤ j + bits_for (area_at m i) count →
        (place_of_bit m i (bit j')).0 + count' ≤ p + count → Grantable m o.left i count' align_order' j'
    -- and so can each that could before
    pub still : StillGrantable m t o.left

abbrev pub AcceptedRelease : Type 0
AcceptedRelease =
    (m : Record) (i : ℕ) (f : Frame) (count device : ℕ) (t : Tables) →
    let o = release m i f count device t in
    o.answer.refusal ≡ 0 → (p : ℕ) × (j : ℕ) × ReleaseDoes m i f count device t o p j

-- ---- A grant that is released at once

-- after a grant that left o, and its release by the same device, that left u: the release is accepted, the run, which begins on bit j, is grantable again,
-- and so is every candidate that was before the grant
pub record FreedRoom (m : Record) (i count align_order : ℕ) (t : Tables) (o u : Outcome) (j : ℕ) : Type 0 where
  pub accepted : u.answer.refusal ≡ 0
  pub on_bit : (frame_of_bit (area_at m i) (bit j)).0 ≡ o.answer.first
  pub again : Grantable m u.left i count align_order j
  pub still : StillGrantable m t u.left

abbrev pub FreedRoomIsUsed : Type 0
FreedRoomIsUsed =
    (m : Record) (i count align_order device : ℕ) (t : Tables) →
    let o = grant m i count align_order device t in
    o.answer.refusal ≡ 0 →
    (j : ℕ) × FreedRoom m i count align_order t o (release o.machine i (frame o.answer.first) count device o.left) j
