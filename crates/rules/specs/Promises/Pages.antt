-- What the page calls promise, in plain quantifiers beside the executable definitions: what an accepted call answers, which entry of which table it
-- changes, and to what. Every other entry and the record are as they were.
use Rattle.std.specs.Prelude.{◌≡◌, ℕ, ◌+◌, ◌<◌, true, ◌≢◌, ◌⊎◌, ◌↔◌}
use Rattle.answer.specs.Answers.{done}
use Rattle.frames.specs.Units.{place}
use Rattle.frames.specs.Marks.{mark_of, movable, pinned, fixed}
use Rattle.frames.specs.Tables.{Tables, mark_at, word_at}
use Rattle.rules.specs.declared.Record.{Record}
use Rattle.rules.specs.Outcomes.{Outcome, outcome}
use Rattle.rules.specs.PageCalls.{free_ordinary, free_in_area, is_live, put_movable, put_fixed, drop_page, pin_page, unpin_page, page_has, store_page, read_page}
use Rattle.rules.specs.Promises.Changes.{kind_at, field_at, OnlyPage}
use Rattle.rules.specs.Promises.Shapes.{InArea}

-- ---- Put takes the lowest free ordinary frame, and an area frame only for a movable page and only when no ordinary frame is free

-- place p of the machine is free and ordinary; it is free and in an area
pub record FreeOrdinary (m : Record) (t : Tables) (p : ℕ) : Type 0 where
  pub in_memory : p < m.memory.frames
  pub is_free : kind_at t p ≡ 0
  pub is_ordinary : (i : ℕ) → InArea m (m.memory.base.0 + p) i → ⊥

pub record FreeInArea (m : Record) (t : Tables) (p : ℕ) : Type 0 where
  pub in_memory : p < m.memory.frames
  pub is_free : kind_at t p ≡ 0
  pub in_area : (i : ℕ) × InArea m (m.memory.base.0 + p) i

-- the two tests, by which such frames are sought and counted, say just that of every place
pub record FreeIsMeant : Type 0 where
  pub ordinary : (m : Record) (t : Tables) (p : ℕ) → p < m.memory.frames → (free_ordinary m t (place p) ≡ true) ↔ FreeOrdinary m t p
  pub in_area : (m : Record) (t : Tables) (p : ℕ) → p < m.memory.frames → (free_in_area m t (place p) ≡ true) ↔ FreeInArea m t p

abbrev pub NoneFreeOrdinary : Record → Tables → Type 0
NoneFreeOrdinary m t = (p : ℕ) → FreeOrdinary m t p → ⊥

-- p is the lowest place of which Q holds
abbrev pub Lowest : (ℕ → Type 0) → ℕ → Type 0
Lowest Q p = Q p × ((q : ℕ) → q < p → Q q → ⊥)

-- place p is where a page of that kind goes
abbrev pub PutPlace : ℕ → Record → Tables → ℕ → Type 0
PutPlace kind m t p = Lowest (FreeOrdinary m t) p ⊎ ((kind ≡ movable) × NoneFreeOrdinary m t × Lowest (FreeInArea m t) p)

-- the page is put at place p
pub record PutDoes (kind : ℕ) (m : Record) (name : ℕ) (t : Tables) (o : Outcome) (p : ℕ) : Type 0 where
  pub lowest : PutPlace kind m t p
  pub answer : o.answer ≡ done (m.memory.base.0 + p) 0
  pub page : OnlyPage t o.left p (mark_of name kind) 0
  pub machine : o.machine ≡ m

abbrev pub AcceptedPutMovable : Type 0
AcceptedPutMovable =
    (m : Record) (name : ℕ) (t : Tables) →
    let o = put_movable m name t in
    o.answer.refusal ≡ 0 → (p : ℕ) × PutDoes movable m name t o p

abbrev pub AcceptedPutFixed : Type 0
AcceptedPutFixed =
    (m : Record) (name : ℕ) (t : Tables) →
    let o = put_fixed m name t in
    o.answer.refusal ≡ 0 → (p : ℕ) × PutDoes fixed m name t o p

-- ---- The calls on a live page: when its name stands twice, the lowest frame is meant

-- place p of the machine has a page of that name: movable, pinned or fixed
pub record Stands (m : Record) (t : Tables) (name p : ℕ) : Type 0 where
  pub in_memory : p < m.memory.frames
  pub kind : (kind_at t p ≡ 1) ⊎ (kind_at t p ≡ 2) ⊎ (kind_at t p ≡ 3)
  pub field : field_at t p ≡ name

-- a name is live just if it stands somewhere
abbrev pub Live : Record → Tables → ℕ → Type 0
Live m t name = (p : ℕ) × Stands m t name p

abbrev pub LiveIfStands : Type 0
LiveIfStands = (m : Record) (name : ℕ) (t : Tables) → (is_live m t name ≡ true) ↔ Live m t name

-- the page is at place p, and has this mark and word now
pub record PageDoes (m : Record) (name : ℕ) (t : Tables) (o : Outcome) (p mark word : ℕ) : Type 0 where
  pub lowest : Lowest (Stands m t name) p
  pub answer : o.answer ≡ done 0 0
  pub page : OnlyPage t o.left p mark word
  pub machine : o.machine ≡ m

abbrev pub AcceptedDrop : Type 0
AcceptedDrop =
    (m : Record) (name : ℕ) (t : Tables) →
    let o = drop_page m name t in
    o.answer.refusal ≡ 0 → (p : ℕ) × (kind_at t p ≢ pinned) × PageDoes m name t o p 0 0

abbrev pub AcceptedPin : Type 0
AcceptedPin =
    (m : Record) (name : ℕ) (t : Tables) →
    let o = pin_page m name t in
    o.answer.refusal ≡ 0 →
    (p : ℕ) × (kind_at t p ≡ movable) × PageDoes m name t o p (mark_of name pinned) (word_at t (place p))

abbrev pub AcceptedUnpin : Type 0
AcceptedUnpin =
    (m : Record) (name : ℕ) (t : Tables) →
    let o = unpin_page m name t in
    o.answer.refusal ≡ 0 →
    (p : ℕ) × (kind_at t p ≡ pinned) × PageDoes m name t o p (mark_of name movable) (word_at t (place p))

abbrev pub AcceptedStore : Type 0
AcceptedStore =
    (m : Record) (name word : ℕ) (t : Tables) →
    let o = store_page m name word t in
    o.answer.refusal ≡ 0 → (p : ℕ) × (kind_at t p ≢ pinned) × PageDoes m name t o p (mark_at t (place p)) word

-- a read answers the frame and its word, and leaves record and tables as they were
abbrev pub AcceptedRead : Type 0
AcceptedRead =
    (m : Record) (name : ℕ) (t : Tables) →
    let o = read_page m name t in
    o.answer.refusal ≡ 0 → (p : ℕ) × Lowest (Stands m t name) p × (o ≡ outcome m (done (m.memory.base.0 + p) (word_at t (place p))) t)

-- ---- A store that is accepted is what the next read gives

abbrev pub StoreThenRead : Type 0
StoreThenRead =
    (m : Record) (name word : ℕ) (t : Tables) →
    let o = store_page m name word t in
    o.answer.refusal ≡ 0 →
    ((read_page o.machine name o.left).answer.refusal ≡ 0) × ((read_page o.machine name o.left).answer.second ≡ word)

-- ---- A pinned page is neither dropped nor rewritten nor pinned again: the call is refused

pub record PinnedIsKept (m : Record) (t : Tables) (name : ℕ) : Type 0 where
  pub drop : (drop_page m name t).answer.refusal ≢ 0
  pub store : (word : ℕ) → (store_page m name word t).answer.refusal ≢ 0
  pub pin : (pin_page m name t).answer.refusal ≢ 0

abbrev pub PinnedPagesStay : Type 0
PinnedPagesStay = (m : Record) (t : Tables) (name : ℕ) → page_has pinned m t name ≡ true → PinnedIsKept m t name
