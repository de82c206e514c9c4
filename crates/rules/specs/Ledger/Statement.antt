-- Demand 3, as one theorem: what holds after every list of page calls, device calls, declares, reports and refused boots that follows one accepted boot.
-- It speaks of the calls by `perform`, the contracts' own definitions. The ledger is in Ledger.antt, and what each call is to it in
-- Roles.antt; the lists, what they leave and which are admitted are in Lists.antt. The theorem, at the end, has eight parts, numbered here.
use Rattle.std.specs.Prelude.{◌≡◌, ℕ, ◌+◌, ◌<◌, ◌≤◌, Bool, true, false, not, ◌&&◌, ◌≢◌, List, [], ◌++◌, length, ◌==◌, nat_lt, slice_index}
use Rattle.search.specs.Search.{how_many}
use Rattle.frames.specs.declared.Frame.{Frame}
use Rattle.frames.specs.Units.{frame, place}
use Rattle.frames.specs.Marks.{kind_of, mark_of, is_page_of, is_granted, pinned, fixed}
use Rattle.frames.specs.Tables.{Tables, mark_at, word_at}
use Rattle.rules.specs.declared.Call.{Call}
use Rattle.rules.specs.declared.Counters.{Counters}
use Rattle.rules.specs.declared.Record.{Record}
use Rattle.rules.specs.Record.{place_of, frame_at, end_frame}
use Rattle.rules.specs.Outcomes.{Outcome}
use Rattle.rules.specs.Counters.{counted, since}
use Rattle.rules.specs.Calls.{perform}
use Rattle.rules.specs.Promises.Changes.{SameLengths}
use Rattle.rules.specs.Promises.Shapes.{InArea}
use Rattle.rules.specs.Ledger.Ledger.{grants_at}
use Rattle.rules.specs.Ledger.Lists.{Item, State, is_refused, start_of, after, admitted, frame_of_page, last_pin_frame, grants_answered, is_done, is_counted_refusal, SameList, seen}

-- a read is made with the record and the tables that the list left
abbrev pub page_read : State → ℕ → Outcome
page_read s name = perform (Call.Read name) [] s.machine s.own

abbrev pub frame_read : State → Frame → ℕ → Outcome
frame_read s f device = perform (Call.DeviceRead f device) [] s.machine s.own

abbrev pub frame_store : State → Frame → ℕ → ℕ → Outcome
frame_store s f word device = perform (Call.DeviceStore f word device) [] s.machine s.own

abbrev pub frame_release : State → ℕ → Frame → ℕ → ℕ → Outcome
frame_release s area f count device = perform (Call.Release area f count device) [] s.machine s.own

-- the mark at a table place is of kind 4 or 5; a live grant of the ledger has the frame
abbrev pub is_granted_place : State → ℕ → Bool
is_granted_place s p = is_granted (mark_at s.own (place p))

abbrev pub is_live_frame : State → Frame → Bool
is_live_frame s f = nat_lt 0 (grants_at s.ledger.grants f)

-- the device of the call that granted a frame of a live grant
abbrev pub device_of : State → Frame → ℕ
device_of s f = s.ledger.device f.0

-- (1) a page read with any number as name is accepted just if the ledger says live, and then gives the ledger's word; its frame is where the
-- name's one mark stands
pub record ReadsRight (s : State) : Type 0 where
  pub accepted : (name : ℕ) → not (is_refused (page_read s name)) ≡ s.ledger.live name
  pub word : (name : ℕ) → s.ledger.live name ≡ true → (page_read s name).answer.second ≡ s.ledger.word name
  pub stands :
      (name : ℕ) →
      s.ledger.live name ≡ true → is_page_of name (mark_at s.own (place_of s.machine (frame (page_read s name).answer.first))) ≡ true
  pub only_frame :
      (name p : ℕ) →
      p < s.machine.memory.frames →
      is_page_of name (mark_at s.own (place p)) ≡ true → (frame_at s.machine (place p)).0 ≡ (page_read s name).answer.first

-- (2) a page that the ledger has as pinned is live, and the mark at its frame, which lies in memory, has its name and kind 2; no other live page
-- has a mark of kind 2
abbrev pub mark_of_page : State → ℕ → ℕ
mark_of_page s name = mark_at s.own (place_of s.machine (frame (frame_of_page s name)))

pub record PinsRight (s : State) : Type 0 where
  pub live : (name : ℕ) → s.ledger.pinned name ≡ true → s.ledger.live name ≡ true
  pub inside :
      (name : ℕ) → s.ledger.pinned name ≡ true → (s.machine.memory.base.0 ≤ frame_of_page s name) × (frame_of_page s name < end_frame s.machine)
  pub marked : (name : ℕ) → s.ledger.pinned name ≡ true → mark_of_page s name ≡ mark_of name pinned
  pub unmarked : (name : ℕ) → s.ledger.live name ≡ true → s.ledger.pinned name ≡ false → kind_of (mark_of_page s name) ≢ pinned

-- its frame is the same now as right after its last accepted pin; `none` is any number, so there was such a pin
pub record PinsStay (start : State) (items : List Item) : Type 0 where
  pub stays :
      (name none : ℕ) →
      (after start items).ledger.pinned name ≡ true → frame_of_page (after start items) name ≡ last_pin_frame name none start items

-- (3) no two live grants share a frame; the frames with a mark of kind 4 or 5 are just the frames of the live grants; their number is the frames
-- granted less the frames released
pub record GrantsRight (s : State) : Type 0 where
  pub apart : (f : Frame) → grants_at s.ledger.grants f ≤ 1
  pub inside : (f : Frame) → is_live_frame s f ≡ true → (s.machine.memory.base.0 ≤ f.0) × (f.0 < end_frame s.machine)
  pub marked : (p : ℕ) → p < s.machine.memory.frames → is_granted_place s p ≡ is_live_frame s (frame_at s.machine (place p))
  pub total : how_many (is_granted_place s) 0 s.machine.memory.frames + s.ledger.released ≡ s.ledger.granted

-- (4) each frame of a live grant holds the ledger's word for it; a device read is accepted just for these frames and by the device that they were
-- granted to, and gives it; every other device gets 15
pub record DeviceWordsRight (s : State) : Type 0 where
  pub word : (f : Frame) → is_live_frame s f ≡ true → word_at s.own (place_of s.machine f) ≡ s.ledger.device_word f.0
  pub accepted : (f : Frame) (device : ℕ) → not (is_refused (frame_read s f device)) ≡ (is_live_frame s f && device == device_of s f)
  pub given : (f : Frame) → is_live_frame s f ≡ true → (frame_read s f (device_of s f)).answer.first ≡ s.ledger.device_word f.0
  pub others :
      (f : Frame) (device : ℕ) →
      is_live_frame s f ≡ true → 1 ≤ device → device ≤ 65535 → device ≢ device_of s f → (frame_read s f device).answer.refusal ≡ 15

-- (5) the frames of a live grant, and no others, have an owner that is not 0, and it is the device of the call that granted them. A device store is
-- accepted just for such a frame and by its owner; a release is refused, and changes nothing, but where the device is the owner of a live grant's
-- frame
pub record OwnersRight (s : State) : Type 0 where
  pub device : (f : Frame) → is_live_frame s f ≡ true → (1 ≤ device_of s f) × (device_of s f ≤ 65535)
  pub owner : (f : Frame) → is_live_frame s f ≡ true → slice_index s.own.owners (place_of s.machine f).0 ≡ device_of s f
  pub none :
      (p : ℕ) → p < s.machine.memory.frames → is_live_frame s (frame_at s.machine (place p)) ≡ false → slice_index s.own.owners p ≡ 0
  pub stores : (f : Frame) (word device : ℕ) → not (is_refused (frame_store s f word device)) ≡ (is_live_frame s f && device == device_of s f)
  pub releases :
      (area : ℕ) (f : Frame) (count device : ℕ) →
      (is_live_frame s f ≡ true → device ≢ device_of s f) →
      let o = frame_release s area f count device in
      (is_refused o ≡ true) × (o.machine ≡ s.machine) × (o.left ≡ s.own)

-- (6) between two readings of a counter that fewer than 2^32 calls of the list lie between, their difference is the number of the grants that were
-- accepted among these calls, and of those that were refused, and not by the shape
pub record CountersRight (start : State) (items : List Item) : Type 0 where
  pub granted :
      (before between : List Item) →
      items ≡ before ++ between →
      length between < 4294967296 →
      since (after start items).counters.granted (after start before).counters.granted ≡ grants_answered is_done (after start before) between
  pub refused :
      (before between : List Item) →
      items ≡ before ++ between →
      length between < 4294967296 →
      since (after start items).counters.refused (after start before).counters.refused ≡
      grants_answered is_counted_refusal (after start before) between

-- (7) no frame of an area holds a fixed page: none is put there, none moves there, and no area is declared where one stands
pub record FixedOutside (s : State) : Type 0 where
  pub outside :
      (p area : ℕ) →
      p < s.machine.memory.frames →
      kind_of (mark_at s.own (place p)) ≡ fixed → InArea s.machine (s.machine.memory.base.0 + p) area → ⊥

-- (8) a run of the same calls agrees with this one in every answer, but for the words that reads of the chosen names give, in the counters and in
-- the bytes of every report
pub record RunsAgree (start start' : State) (items : List Item) : Type 0 where
  pub agree : (chosen : ℕ → Bool) (items' : List Item) → SameList chosen items items' → seen chosen start items ≡ seen chosen start' items'

-- a boot with its numbers and its text, and the record, with its counters, and the tables that it is given
pub record Boot : Type 0 where
  pub base : ℕ
  pub frames : ℕ
  pub block_order : ℕ
  pub text : List ℕ
  pub given : Record
  pub counters : Counters
  pub lent : Tables

abbrev pub call_of_boot : Boot → Call
call_of_boot b = Call.Boot (frame b.base) b.frames b.block_order

abbrev pub outcome_of_boot : Boot → Outcome
outcome_of_boot b = perform (call_of_boot b) b.text b.given b.lent

abbrev pub start_of_boot : Boot → State
start_of_boot b = start_of (outcome_of_boot b) (counted (call_of_boot b) (outcome_of_boot b).answer.refusal b.counters)

-- the same boot, given another record and lent other tables of the same lengths
pub record SameBoot (b c : Boot) : Type 0 where
  pub base : b.base ≡ c.base
  pub frames : b.frames ≡ c.frames
  pub block_order : b.block_order ≡ c.block_order
  pub text : b.text ≡ c.text
  pub lengths : SameLengths b.lent c.lent

pub record Demand3 (b : Boot) (items : List Item) : Type 0 where
  pub reads : ReadsRight (after (start_of_boot b) items)
  pub pinned : PinsRight (after (start_of_boot b) items)
  pub pins : PinsStay (start_of_boot b) items
  pub grants : GrantsRight (after (start_of_boot b) items)
  pub device_words : DeviceWordsRight (after (start_of_boot b) items)
  pub owners : OwnersRight (after (start_of_boot b) items)
  pub counters : CountersRight (start_of_boot b) items
  pub fixed : FixedOutside (after (start_of_boot b) items)
  pub runs : (c : Boot) → SameBoot b c → RunsAgree (start_of_boot b) (start_of_boot c) items

-- the theorem: every accepted boot, whatever its numbers, text, record and tables, and every list after it that document 01 admits. The second
-- run of (8) needs no such hypotheses of its own
abbrev pub Theorem : Type 0
Theorem = (b : Boot) (items : List Item) → is_refused (outcome_of_boot b) ≡ false → admitted (start_of_boot b) items ≡ true → Demand3 b items
