-- What the code of the device calls works out in a step of its own, and what a step asks of its arguments.
use Rattle.std.specs.Prelude.{ℕ, ◌+◌, ◌-◌, ◌*◌, ◌%◌, ◌^◌, ◌≤◌, ◌<◌, max, ◌≡◌, Bool, true, false, ◌&&◌, ◌||◌, Option, Some, None, Result, Ok, Err, ltb, eqb, if◌then◌else◌}
use Rattle.search.specs.Search.{every}
use Rattle.answer.specs.declared.refusal.Refusal.{Refusal}
use Rattle.answer.specs.Answers.{number_of, done}
use Rattle.bitmap.specs.Bits.{bit_of, is_clear, is_start}
use Rattle.frames.specs.declared.Area.{Area}
use Rattle.frames.specs.declared.Bit.{Bit}
use Rattle.frames.specs.declared.Frame.{Frame}
use Rattle.frames.specs.declared.Place.{Place}
use Rattle.frames.specs.Units.{place, bit, most_number}
use Rattle.frames.specs.Marks.{can_leave}
use Rattle.frames.specs.Areas.{is_multiple, end_of, per_bit, bit_count, frame_of_bit, bits_for}
use Rattle.frames.specs.Scans.{marked}
use Rattle.frames.specs.Tables.{Tables, mark_at, word_at, set_page}
use Rattle.rules.specs.declared.Record.{Record}
use Rattle.device_calls.specs.declared.GrantRequest.{GrantRequest}
use Rattle.device_calls.specs.declared.ChosenRun.{ChosenRun}
use Rattle.device_calls.specs.declared.runs.Search.{Search}
use Rattle.device_calls.specs.declared.runs.Tried.{Tried}
use Rattle.rules.specs.Record.{area_at}
use Rattle.rules.specs.Limits.{most_areas, most_frames, most_end, most_block_order, most_align_order}
use Rattle.rules.specs.Shape.{shape_right}
use Rattle.rules.specs.Outcomes.{outcome, refuse}
use Rattle.rules.specs.Targets.{in_area_at}
use Rattle.rules.specs.DeviceCalls.{bitmap_of, is_unknown, outside_area, chosen, take_run, grant}
use Rattle.rules.specs.Promises.Shapes.{InArea}

-- a bit's first frame is a multiple of 2^align
abbrev pub is_aligned : Area → ℕ → ℕ → Bool
is_aligned a align j = is_multiple (frame_of_bit a (bit j)).0 (2 ^ align)

-- the lowest such bit
pub record FirstAligned (a : Area) (align r : ℕ) : Type 0 where
  pub hit : is_aligned a align r ≡ true
  pub miss : (k : ℕ) → k < r → is_aligned a align k ≡ false

-- every 2^order-th bit of a word is set: shifted up to any bit's own distance past one of them, it has that bit
abbrev pub Spreads : ℕ → ℕ → Type 0
Spreads order r = (s : ℕ) → s < 64 → bit_of (r * 2 ^ (s % 2 ^ order) % 2 ^ 64) s ≡ 1

-- a word has the bit of each bit that is some steps of 2^order behind the first
abbrev pub Starts : ℕ → ℕ → ℕ → Type 0
Starts first order r = (q : ℕ) → bit_of r ((first + q * 2 ^ order) % 64) ≡ 1

-- what the search of area i asks of it, and of a grant's arguments
pub record SearchFits (m : Record) (i count align : ℕ) : Type 0 where
  pub positive : 0 < count
  pub align_high : align ≤ most_align_order
  pub bit_high : (area_at m i).order_per_bit ≤ most_block_order
  pub begins : (area_at m i).base.0 % per_bit (area_at m i) ≡ 0
  pub end_high : end_of (area_at m i) ≤ most_end
  pub count_high : (area_at m i).count ≤ most_frames
  pub words_high : bitmap_of m i ≤ most_number

-- the lowest bit of area i at which the run can be granted, where there is one
abbrev pub run_for : Record → Tables → ℕ → ℕ → ℕ → Option Bit
run_for m t i count align =
    if ltb (chosen m t i count align).0 (bit_count (area_at m i)) then Some (chosen m t i count align) else None

-- a run is tried at a bit that leaves it room, and its numbers are those of a machine
pub record TriesAt (s : Search) (j : Bit) : Type 0 where
  pub room : j.0 ≤ s.last
  pub last_high : s.last + s.bits ≤ most_frames
  pub bit_high : s.area.order_per_bit ≤ most_block_order
  pub base_high : s.area.base.0 ≤ most_end
  pub bits_is : s.bits ≡ bits_for s.area s.count
  pub positive : 0 < s.count

-- a bit of the area is clear
abbrev pub clear_at : Search → ℕ → Bool
clear_at s = is_clear s.bitmap.words.now s.bitmap.start

-- the bits from bit j on are clear up to a bit of the area
pub record ClearTo (s : Search) (j end : ℕ) : Type 0 where
  pub high : end ≤ s.last + s.bits
  pub clear : (k : ℕ) → j ≤ k → k < end → clear_at s k ≡ true

-- r is at least `from`; the bits between are clear; and where r is before `end`, its own bit is set
pub record ClearUpTo (s : Search) (from end r : ℕ) : Type 0 where
  pub low : from ≤ r
  pub high : r ≤ max from (s.last + s.bits)
  pub clear : (k : ℕ) → from ≤ k → k < r → clear_at s k ≡ true
  pub stops : r < end → clear_at s r ≡ false

-- a set bit of the run at bit j
pub record SetIn (s : Search) (j set : ℕ) : Type 0 where
  pub low : j ≤ set
  pub high : set < j + s.bits
  pub is_set : clear_at s set ≡ false

-- the run at bit j has its bits clear; its frames can all leave; both, so that it can be granted as far as they go
abbrev pub is_clear_run : Search → ℕ → Bool
is_clear_run s j = every (clear_at s) j s.bits

abbrev pub is_leaving_run : Search → ℕ → Bool
is_leaving_run s j = every (marked can_leave s.marks.now) ((frame_of_bit s.area (bit j)).0 - s.base.0) s.count

abbrev pub is_free_run : Search → ℕ → Bool
is_free_run s j = is_clear_run s j && is_leaving_run s j

-- of the runs at r bits from j on, one at the least, none has frames that all can leave
pub record FramesRuledOut (s : Search) (j r : ℕ) : Type 0 where
  pub some : 0 < r
  pub ruled_out : (k : ℕ) → j ≤ k → k < j + r → is_leaving_run s k ≡ false
  pub high : r ≤ s.bits

-- the frames of the run at bit j can all leave; or those bits are ruled out
abbrev pub FramesRuleOut : Search → ℕ → Option ℕ → Type 0
FramesRuleOut s j None = is_leaving_run s j ≡ true
FramesRuleOut s j (Some r) = FramesRuledOut s j r

-- of the runs at r bits from j on, one at the least, none has its bits clear where it may begin
pub record BitsRuleOut (s : Search) (j r : ℕ) : Type 0 where
  pub some : 0 < r
  pub ruled_out : (k : ℕ) → j ≤ k → k < j + r → is_start s.starts k ≡ true → is_clear_run s k ≡ false
  pub high : r ≤ most_frames + 1

-- at how many bits from j on, one at the least, no run can be granted that may begin there; and how far the bits behind are clear
pub record RuledOut (s : Search) (j : ℕ) (r : Tried) : Type 0 where
  pub some : 0 < r.passed
  pub ruled_out : (k : ℕ) → j ≤ k → k < j + r.passed → is_start s.starts k ≡ true → is_free_run s k ≡ false
  pub high : r.passed ≤ most_frames + 1
  pub clear : ClearTo s (j + r.passed) r.clear_to

-- a try tells that the run can be granted, or what is ruled out
abbrev pub Tries : Search → ℕ → Option Tried → Type 0
Tries s j None = is_free_run s j ≡ true
Tries s j (Some r) = RuledOut s j r

-- the page at place p stands at place q instead
abbrev pub page_moved : Tables → Place → Place → Tables
page_moved t p q = set_page (set_page t q (mark_at t p) (word_at t p)) p 0 0

-- the `count` frames from place p on are frames of area i, which is declared and shares none with another
pub record LeavesArea (m : Record) (i p count : ℕ) : Type 0 where
  pub known : i < m.memory.declared
  pub few : m.memory.declared ≤ most_areas
  pub room : p + count ≤ m.memory.frames
  pub held : (k : ℕ) → p ≤ k → k < p + count → in_area_at m i (place k) ≡ true
  pub apart : (f j : ℕ) → InArea m f i → InArea m f j → i ≡ j

-- the `count` frames from f on are some, and lie in area i, which is declared
pub record RangeFits (m : Record) (t : Tables) (i : ℕ) (f : Frame) (count : ℕ) : Type 0 where
  pub shape : shape_right m t ≡ true
  pub range : (is_unknown m.memory i || eqb count 0 || outside_area (area_at m i) f count) ≡ false

-- the run of `count` frames at bit j of area i lies in the area, which is declared
pub record RunFits (m : Record) (t : Tables) (i count : ℕ) (j : Bit) : Type 0 where
  pub shape : shape_right m t ≡ true
  pub known : i < m.memory.declared
  pub positive : 0 < count
  pub in_area : (frame_of_bit (area_at m i) j).0 + count ≤ end_of (area_at m i)

-- a grant whose first checks pass is refused; or its run lies in its area, and it does what is done with that run
abbrev pub Chooses : Record → Tables → GrantRequest → Result ChosenRun Refusal → Type 0
Chooses m t g (Err r) = grant m g.area g.count g.align g.device t ≡ refuse m t (number_of r)
Chooses m t g (Ok c) =
    RunFits m t g.area g.count c.run × (g.device < 2 ^ 32) ×
    (grant m g.area g.count g.align g.device t ≡ outcome m (done c.first.0 c.moved) (take_run m t g.area g.count c.run g.device))
