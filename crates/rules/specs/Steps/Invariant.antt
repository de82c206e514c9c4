-- What holds between the record, the boot's tables and the ledger after an accepted boot, and is kept by every call: the rules by which a table
-- entry can be called sound.
use Rattle.std.specs.Prelude.{◌≡◌, ℕ, ◌+◌, ◌-◌, ◌<◌, ◌≤◌, Bool, true, false, not, length, if◌then◌else◌}
use Rattle.search.specs.Search.{how_many, some as any_of}
use Rattle.bitmap.specs.Bits.{is_clear}
use Rattle.frames.specs.Units.{place, bit}
use Rattle.frames.specs.Marks.{kind_of, mark_of, has_kind, is_page_of, is_granted, free, pinned, fixed, head, later}
use Rattle.frames.specs.Areas.{is_multiple, end_of, per_bit, bit_count}
use Rattle.frames.specs.Tables.{Tables, mark_at, word_at, owner_at}
use Rattle.rules.specs.declared.Record.{Record}
use Rattle.rules.specs.Record.{area_at, place_of, frame_at, is_ordinary, end_frame}
use Rattle.rules.specs.Limits.{most_area_numbers}
use Rattle.rules.specs.Shape.{shape_right}
use Rattle.rules.specs.PageCalls.{bad_name}
use Rattle.rules.specs.DeviceCalls.{bad_device, bitmap_of, place_of_bit}
use Rattle.rules.specs.Ledger.Ledger.{Grant, Ledger, grants_at, is_among}

-- the mark and the word at place p: no kind 6 or 7, nothing in a free frame, no fixed page in an area, the ledger's word in a granted frame
pub record PlaceSound (m : Record) (l : Ledger) (p mark word : ℕ) : Type 0 where
  pub used : kind_of mark < 6
  pub empty : has_kind free mark ≡ true → word ≡ 0
  pub ordinary : has_kind fixed mark ≡ true → is_ordinary m (place p) ≡ true
  pub granted : is_granted mark ≡ true → word ≡ l.device_word (m.memory.base.0 + p)

-- a live page stands once, and its mark and word are as the ledger has them
pub record PageSound (m : Record) (t : Tables) (l : Ledger) (name : ℕ) : Type 0 where
  pub at : ℕ
  pub inside : at < m.memory.frames
  pub here : is_page_of name (mark_at t (place at)) ≡ true
  pub only : (q : ℕ) → q < m.memory.frames → is_page_of name (mark_at t (place q)) ≡ true → q ≡ at
  pub pinned : has_kind pinned (mark_at t (place at)) ≡ l.pinned name
  pub word : word_at t (place at) ≡ l.word name

-- a name stands where it is live, and nowhere else; live names are 1 to most_name
pub record NameSound (m : Record) (t : Tables) (l : Ledger) (name : ℕ) : Type 0 where
  pub standing : l.live name ≡ true → PageSound m t l name
  pub absent : l.live name ≡ false → (q : ℕ) → q < m.memory.frames → is_page_of name (mark_at t (place q)) ≡ false
  pub pinned_live : l.pinned name ≡ true → l.live name ≡ true
  pub allowed : l.live name ≡ true → bad_name name ≡ false

-- a grant lies in one area of the record, on a bit boundary
pub record GrantInArea (m : Record) (g : Grant) : Type 0 where
  pub area : ℕ
  pub declared : area < m.memory.declared
  pub low : (area_at m area).base.0 ≤ g.first.0
  pub high : g.first.0 + g.count ≤ end_of (area_at m area)
  pub on_bit : is_multiple (g.first.0 - (area_at m area).base.0) (per_bit (area_at m area)) ≡ true

-- a live grant's marks stand: the first with its count, then kind 5
pub record GrantSound (m : Record) (t : Tables) (g : Grant) : Type 0 where
  pub some : 1 ≤ g.count
  pub low : m.memory.base.0 ≤ g.first.0
  pub high : g.first.0 + g.count ≤ end_frame m
  pub first : mark_at t (place_of m g.first) ≡ mark_of g.count head
  pub rest : (p : ℕ) → (place_of m g.first).0 < p → p < (place_of m g.first).0 + g.count → mark_at t (place p) ≡ mark_of 0 later
  pub in_area : GrantInArea m g

-- some frame of bit j of area i is granted
abbrev pub has_granted : Record → Tables → ℕ → ℕ → Bool
has_granted m t i j = any_of (λ p. is_granted (mark_at t (place p))) (place_of_bit m i (bit j)).0 (per_bit (area_at m i))

-- the areas' bits are set just where a frame of theirs is granted
pub record BitsSound (m : Record) (t : Tables) : Type 0 where
  pub clear :
      (i j : ℕ) → i < m.memory.declared → j < bit_count (area_at m i) → is_clear t.bitmap (bitmap_of m i) j ≡ not (has_granted m t i j)

-- the owner at place p: the device that a granted frame was granted to, and 0 where it is not granted
pub record OwnerSound (m : Record) (l : Ledger) (p owner : ℕ) (granted : Bool) : Type 0 where
  pub owned : granted ≡ true → owner ≡ l.device (m.memory.base.0 + p)
  pub known : granted ≡ true → bad_device owner ≡ false
  pub none : granted ≡ false → owner ≡ 0

pub record Sound (m : Record) (t : Tables) (l : Ledger) : Type 0 where
  pub shape : shape_right m t ≡ true
  pub records : length m.areas ≡ most_area_numbers
  pub places : (p : ℕ) → p < m.memory.frames → PlaceSound m l p (mark_at t (place p)) (word_at t (place p))
  pub names : (name : ℕ) → NameSound m t l name
  pub grants : (g : Grant) → is_among l.grants g ≡ true → GrantSound m t g
  -- a granted mark is one live grant's, and no other mark is any's
  pub covered : (p : ℕ) → p < m.memory.frames → grants_at l.grants (frame_at m (place p)) ≡ (if is_granted (mark_at t (place p)) then 1 else 0)
  pub total : how_many (λ p. is_granted (mark_at t (place p))) 0 m.memory.frames + l.released ≡ l.granted
  pub bits : BitsSound m t
  pub owners : (p : ℕ) → p < m.memory.frames → OwnerSound m l p (owner_at t (place p)) (is_granted (mark_at t (place p)))
