-- What an accepted grant does to the pages, the frames and the bits: in plain quantifiers.
use Rattle.std.specs.Prelude.{◌≡◌, ℕ, ◌+◌, ◌-◌, ◌*◌, ◌<◌, ◌≤◌, true, false, if◌then◌else◌}
use Rattle.answer.specs.Answers.{done}
use Rattle.frames.specs.Units.{place, bit}
use Rattle.frames.specs.Marks.{mark_of, has_kind, movable, head, later}
use Rattle.frames.specs.Areas.{per_bit, bits_for, frame_of_bit}
use Rattle.frames.specs.Tables.{Tables, mark_at, word_at}
use Rattle.rules.specs.declared.Record.{Record}
use Rattle.rules.specs.Record.{area_at, is_ordinary}
use Rattle.rules.specs.Outcomes.{Outcome}
use Rattle.rules.specs.DeviceCalls.{bitmap_of, grant}
use Rattle.rules.specs.Promises.Grants.{movable_in, ordinary_below, elsewhere_below}
use Rattle.rules.specs.Promises.Changes.{kind_at, Same, SameLengths, OnlyBits, OnlyOwners}
use Rattle.rules.specs.Promises.Shapes.{InArea}

-- how many movable frames a run at place p has before place q
abbrev pub movers_before : Tables → ℕ → ℕ → ℕ
movers_before t p q = movable_in t p (q - p)

-- a frame that a page of area i can go to: free, and never of that area
pub record Target (m : Record) (t : Tables) (i r : ℕ) : Type 0 where
  pub in_memory : r < m.memory.frames
  pub is_free : kind_at t r ≡ 0
  pub elsewhere : InArea m (m.memory.base.0 + r) i → ⊥

-- how many of them come before place r: the ordinary ones come first, ascending, and then those of the other areas, ascending
abbrev pub targets_before : Record → Tables → ℕ → ℕ → ℕ
targets_before m t i r =
    if is_ordinary m (place r) then ordinary_below m t r else ordinary_below m t m.memory.frames + elsewhere_below m t i r

-- the page at q stands at r now, with its mark and word, and r is the target of the same rank: the k-th mover goes to the k-th target
pub record MovesTo (m : Record) (i : ℕ) (t t' : Tables) (p q r : ℕ) : Type 0 where
  pub target : Target m t i r
  pub in_order : targets_before m t i r ≡ movers_before t p q
  pub mark : mark_at t' (place r) ≡ mark_at t (place q)
  pub word : word_at t' (place r) ≡ word_at t (place q)

-- what a grant of the run of `count` frames at place p, whose first bit is j, leaves of the tables t
module _ (m : Record) (i count device : ℕ) (t : Tables) where
  pub record GrantDoes (o : Outcome) (p j : ℕ) : Type 0 where
    pub answer : o.answer ≡ done (m.memory.base.0 + p) (movable_in t p count)
    pub on_bit : (frame_of_bit (area_at m i) (bit j)).0 ≡ m.memory.base.0 + p
    pub in_memory : p + count ≤ m.memory.frames
    pub machine : o.machine ≡ m
    pub lengths : SameLengths t o.left
    -- each movable page of the run moves, in order
    pub moved : (q : ℕ) → p ≤ q → q < p + count → has_kind movable (mark_at t (place q)) ≡ true → (r : ℕ) × MovesTo m i t o.left p q r
    -- nothing else changes outside the run: a frame that is not one of the first targets, as many as there are movers, is as it was
    pub kept :
        (q : ℕ) → (p ≤ q → q < p + count → ⊥) → (Target m t i q → movable_in t p count ≤ targets_before m t i q) → Same t o.left q
    -- the run's marks and words
    pub first : mark_at o.left (place p) ≡ mark_of count head
    pub rest : (q : ℕ) → p < q → q < p + count → mark_at o.left (place q) ≡ mark_of 0 later
    pub words : (q : ℕ) → p ≤ q → q < p + count → word_at o.left (place q) ≡ 0
    -- frames after the count in the last bit keep mark and word
    pub spare : (q : ℕ) → p + count ≤ q → q < p + bits_for (area_at m i) count * per_bit (area_at m i) → Same t o.left q
    -- the run's bits are set, and no others change
    pub bits : OnlyBits t o.left (bitmap_of m i) j (bits_for (area_at m i) count) false
    -- the run's frames are the device's; a page that moves leaves both frames' owners as they were
    pub owners : OnlyOwners t o.left p count device

abbrev pub AcceptedGrant : Type 0
AcceptedGrant =
    (m : Record) (i count align_order device : ℕ) (t : Tables) →
    let o = grant m i count align_order device t in
    o.answer.refusal ≡ 0 → (p : ℕ) × (j : ℕ) × GrantDoes m i count device t o p j
