-- What a declaration promises, in plain quantifiers beside its executable definition.
use Rattle.std.specs.Prelude.{◌≡◌, ℕ, suc, ◌+◌, ◌*◌, ◌/◌, ◌<◌, ◌≤◌, true, false, ◌≢◌, ◌⊎◌, ◌↔◌, length, nat_le, nat_lt, slice_index}
use Rattle.answer.specs.Answers.{done}
use Rattle.frames.specs.declared.Area.{Area}
use Rattle.frames.specs.Areas.{word_count}
use Rattle.frames.specs.Tables.{Tables}
use Rattle.rules.specs.declared.Request.{Request}
use Rattle.rules.specs.declared.Record.{Record}
use Rattle.rules.specs.Record.{area_at}
use Rattle.rules.specs.Declare.{bad_request, alignment_for, base_for, size_for, limit_vanishes, limit_for, above_limit, area_for, declare}
use Rattle.rules.specs.Limits.{most_areas, most_area_numbers}
use Rattle.rules.specs.Outcomes.{Outcome}
use Rattle.rules.specs.Shape.{shape_right, shape_wrong, words_needed}
use Rattle.rules.specs.Promises.Changes.{kind_at}
use Rattle.rules.specs.Promises.Pages.{FreeOrdinary}
use Rattle.rules.specs.Promises.Rounded.{Divides, RoundedUp}
use Rattle.rules.specs.Promises.Shapes.{InArea}

-- ---- Where a request is placed

-- it is fixed, and its base, rounded, is not 0; base 0 cancels fixed
abbrev pub AtBase : Record → Request → Type 0
AtBase m r = (r.fixed ≡ true) × (base_for m r ≢ 0)

abbrev pub Anywhere : Record → Request → Type 0
Anywhere m r = (r.fixed ≡ false) ⊎ (base_for m r ≡ 0)

-- the same request, not fixed
abbrev pub unfixed : Request → Request
unfixed r = record { base = r.base; size = r.size; limit = r.limit; alignment = r.alignment; order_per_bit = r.order_per_bit; fixed = false }

abbrev pub BaseZeroCancelsFixed : Type 0
BaseZeroCancelsFixed = (m : Record) (r : Request) (t : Tables) → base_for m r ≡ 0 → declare m r t ≡ declare m (unfixed r) t

-- place p is in the range of the size asked that begins at a byte
pub record InRange (m : Record) (r : Request) (start p : ℕ) : Type 0 where
  pub low : start ≤ (m.memory.base.0 + p) * 4096
  pub high : (m.memory.base.0 + p) * 4096 < start + size_for m r

-- ---- A fixed request takes the range at its base, or none

-- a limit was given, and the range ends above it, or above memory, to which the limit is cut
abbrev pub RangeAboveLimit : Record → Request → Type 0
RangeAboveLimit m r =
    (r.limit ≢ 0) ×
    ((r.limit < base_for m r + size_for m r) ⊎ ((m.memory.base.0 + m.memory.frames) * 4096 < base_for m r + size_for m r))

-- it begins before memory, or ends after it
abbrev pub RangeOutside : Record → Request → Type 0
RangeOutside m r = (base_for m r < m.memory.base.0 * 4096) ⊎ ((m.memory.base.0 + m.memory.frames) * 4096 < base_for m r + size_for m r)

-- place p is not free, or is in an area
abbrev pub Taken : Record → Tables → ℕ → Type 0
Taken m t p = (kind_at t p ≢ 0) ⊎ ((i : ℕ) × InArea m (m.memory.base.0 + p) i)

-- some place of it is taken
abbrev pub RangeTaken : Record → Request → Tables → Type 0
RangeTaken m r t = (p : ℕ) × InRange m r (base_for m r) p × Taken m t p

-- ---- Any other takes the highest place that is allowed

module _ (m : Record) (r : Request) (t : Tables) where
  -- the checks before the place is judged pass
  pub record Judged : Type 0 where
    pub shape : shape_wrong m t ≡ false
    pub room : nat_le most_areas m.memory.declared ≡ false
    pub amounts : bad_request r ≡ false
    pub per_bit : nat_lt m.memory.block_order r.order_per_bit ≡ false
    pub limit : limit_vanishes m r ≡ false
    pub within : above_limit m r ≡ false
    pub bitmap : nat_lt (length t.bitmap) (words_needed m + word_count (area_for m r t)) ≡ false

  -- the range at the c-th multiple of A: at or above the base, in memory, at or below the limit, and of free ordinary frames only
  pub record Allowed (c : ℕ) : Type 0 where
    pub above_base : base_for m r ≤ c * alignment_for m r
    pub in_memory : m.memory.base.0 * 4096 ≤ c * alignment_for m r
    pub below_limit : c * alignment_for m r + size_for m r ≤ limit_for m r
    pub vacant : (p : ℕ) → InRange m r (c * alignment_for m r) p → FreeOrdinary m t p

  -- and no higher multiple is
  pub record Highest (c : ℕ) : Type 0 where
    pub allowed : Allowed c
    pub highest : (k : ℕ) → c < k → Allowed k → ⊥

  abbrev pub NoPlace : Type 0
  NoPlace = (c : ℕ) → Allowed c → ⊥

  pub record DeclareAnswers : Type 0 where
    -- accepted with frame f and n frames just if f is the first frame of the highest multiple that is allowed, and n the size in pages
    pub accepted :
        (f n : ℕ) →
        ((declare m r t).answer ≡ done f n) ↔
        ((c : ℕ) × Highest c × (c * alignment_for m r / 4096 ≡ f) × (size_for m r / 4096 ≡ n))
    -- 13 exactly if no multiple is allowed
    pub no_place : ((declare m r t).answer.refusal ≡ 13) ↔ NoPlace

  -- the limit is never past memory, so what ends at or below it lies in memory
  abbrev pub LimitInMemory : Type 0
  LimitInMemory = limit_for m r ≤ (m.memory.base.0 + m.memory.frames) * 4096

abbrev pub DeclareTakesHighest : Type 0
DeclareTakesHighest = (m : Record) (r : Request) (t : Tables) → Judged m r t → Anywhere m r → DeclareAnswers m r t × LimitInMemory m r t

-- ---- Fixed or not, with a limit other than 0 it ends at or below it, as it was given: a camera's area is never above what the camera can reach

abbrev pub DeclareKeepsToLimit : Type 0
DeclareKeepsToLimit =
    (m : Record) (r : Request) (t : Tables) (f n : ℕ) →
    r.limit ≢ 0 → (declare m r t).answer ≡ done f n → (f + n) * 4096 ≤ r.limit

-- ---- An accepted declare adds an area, on frames that were free and in none, and clears its words; nothing else changes

module _ (m : Record) (r : Request) (t : Tables) where
  -- what it leaves, and the area that it adds
  pub record DeclareDoes (o : Outcome) (a : Area) : Type 0 where
    pub answer : o.answer ≡ done a.base.0 a.count
    -- the area has the k and the size asked, begins at a multiple of A, and lies in memory on frames that are free and in no area
    pub per_bit : a.order_per_bit ≡ r.order_per_bit
    pub size : RoundedUp r.size (alignment_for m r) (a.count * 4096)
    pub some : 1 ≤ a.count
    pub first : Divides (alignment_for m r) (a.base.0 * 4096)
    pub low : m.memory.base.0 ≤ a.base.0
    pub high : a.base.0 + a.count ≤ m.memory.base.0 + m.memory.frames
    pub vacant : (p : ℕ) → a.base.0 ≤ m.memory.base.0 + p → m.memory.base.0 + p < a.base.0 + a.count → FreeOrdinary m t p
    -- it begins at the base, or else at the highest multiple that is allowed
    pub at_base : AtBase m r → RoundedUp r.base (alignment_for m r) (a.base.0 * 4096)
    pub at_highest : Anywhere m r → (c : ℕ) × Highest m r t c × (a.base.0 * 4096 ≡ c * alignment_for m r)
    -- it is the record's next area; the others, in use or not, and the rest of the record are as they were
    pub new_area : area_at o.machine m.memory.declared ≡ a
    pub other_areas : (i : ℕ) → i ≢ m.memory.declared → area_at o.machine i ≡ area_at m i
    pub as_many : length o.machine.areas ≡ length m.areas
    pub one_more : o.machine.memory.declared ≡ suc m.memory.declared
    pub same_base : o.machine.memory.base ≡ m.memory.base
    pub same_frames : o.machine.memory.frames ≡ m.memory.frames
    pub same_order : o.machine.memory.block_order ≡ m.memory.block_order
    -- its words, which the bitmap has room for, are 0; every other word, and every mark, content word and owner, is as it was
    pub room : words_needed m + word_count a ≤ length t.bitmap
    pub new_bits : (w : ℕ) → words_needed m ≤ w → w < words_needed m + word_count a → slice_index o.left.bitmap w ≡ 0
    pub other_bits : (w : ℕ) → (words_needed m ≤ w → w < words_needed m + word_count a → ⊥) → slice_index o.left.bitmap w ≡ slice_index t.bitmap w
    pub same_length : length o.left.bitmap ≡ length t.bitmap
    pub marks : o.left.marks ≡ t.marks
    pub words : o.left.words ≡ t.words
    pub owners : o.left.owners ≡ t.owners

-- a record has the numbers of all area records, in use or not
abbrev pub AcceptedDeclare : Type 0
AcceptedDeclare =
    (m : Record) (r : Request) (t : Tables) →
    length m.areas ≡ most_area_numbers →
    let o = declare m r t in
    o.answer.refusal ≡ 0 → (a : Area) × DeclareDoes m r t o a

-- ---- and leaves the shape right

abbrev pub DeclareKeepsShape : Type 0
DeclareKeepsShape =
    (m : Record) (r : Request) (t : Tables) →
    length m.areas ≡ most_area_numbers →
    let o = declare m r t in
    o.answer.refusal ≡ 0 → (shape_right o.machine o.left ≡ true) × (length o.machine.areas ≡ most_area_numbers)
