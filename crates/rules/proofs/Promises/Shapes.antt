-- The shape's tests say what the paper says, with the paper's limits. Assumes nothing.
use Rattle.std.proofs.Common.{◌≡◌, ℕ, ◌+◌, ◌^◌, ◌<◌, ◌≤◌, max, Bool, true, length, inl, inr, ⊎_elim, arith}
use Rattle.search.specs.Search.{every}
use Rattle.search.proofs.Bools.{below_or_not, and_left, and_right, and_both}
use Rattle.search.proofs.Ranges.{every_all, all_every}
use Rattle.frames.specs.declared.Area.{Area}
use Rattle.frames.specs.Areas.{end_of, are_disjoint, first_word}
use Rattle.frames.specs.Tables.{Tables}
use Rattle.rules.specs.declared.Record.{Record}
use Rattle.rules.specs.Record.{area_at, end_frame}
use Rattle.rules.specs.Shape.{memory_right, lengths_right, area_right, area_fits, shape_right, shape_wrong}
use Rattle.rules.specs.Promises.Shapes.{RightMemory, RightLengths, RightArea, InArea, RightShape, ShapeIsRight}
use Rattle.rules.proofs.Says.{Says, says_is, says_leb, says_eqb, says_not, says_and, says_or}

pub memory_says : (base frames block_order : ℕ) → Says (memory_right base frames block_order) (RightMemory base frames block_order)
unfolding memory_right
memory_says base frames block_order =
    says_is
    (λ h. record { base_least = h.0.0.0.0; frames_least = h.0.0.0.1; frames_most = h.0.0.1; end_most = h.0.1; order_most = h.1 })
    (λ r. ((((r.base_least, r.frames_least), r.frames_most), r.end_most), r.order_most))
    (says_and
    (says_and
    (says_and (says_and (says_leb 1 base) (λ _. says_leb 1 frames)) (λ _. says_leb frames 262144))
    (λ _. says_leb (base + frames) (2 ^ 36)))
    (λ _. says_leb block_order 10))

pub lengths_says : (frames : ℕ) (t : Tables) → Says (lengths_right frames t) (RightLengths frames t)
unfolding lengths_right
lengths_says frames t =
    says_is (λ h. record { marks = h.0.0; words = h.0.1; owners = h.1 }) (λ r. ((r.marks, r.words), r.owners))
    (says_and (says_and (says_eqb (length t.marks) frames) (λ _. says_eqb (length t.words) frames)) (λ _. says_eqb (length t.owners) frames))

area_says : (m : Record) (a : Area) → Says (area_right m.memory a) (RightArea m a)
unfolding area_right
area_says m a =
    says_is
    (λ h. record { some = h.0.0.0.0.0; per_bit = h.0.0.0.0.1; first = h.0.0.0.1; count = h.0.0.1; low = h.0.1; high = h.1 })
    (λ r. (((((r.some, r.per_bit), r.first), r.count), r.low), r.high))
    (says_and
    (says_and
    (says_and
    (says_and (says_and (says_leb 1 a.count) (λ _. says_leb a.order_per_bit m.memory.block_order)) (λ _. says_eqb _ 0))
    (λ _. says_eqb _ 0))
    (λ _. says_leb m.memory.base.0 a.base.0))
    (λ _. says_leb (end_of a) (end_frame m)))

-- two areas that are not empty lie one behind the other just where no frame is in both
abbrev Holds : Area → ℕ → Type 0
Holds a f = (a.base.0 ≤ f) × (f < end_of a)

disjoint_says : (a c : Area) → 1 ≤ a.count → 1 ≤ c.count → Says (are_disjoint a c) ((f : ℕ) → Holds a f → Holds c f → ⊥)
disjoint_says a c some_a some_c =
    says_is (λ apart f h k. ⊎_elim (λ l. absurd (omega (arith, h, k))) (λ l. absurd (omega (arith, h, k))) apart)
    (λ none.
    below_or_not c.base.0 (end_of a)
    (λ l.
    below_or_not a.base.0 (end_of c)
    (λ k. absurd (none (max a.base.0 c.base.0) (omega arith, omega arith) (omega arith, omega arith))) inr)
    inl)
    (says_or (says_leb (end_of a) c.base.0) (λ _. says_leb (end_of c) a.base.0))

-- each declared area is right, and no frame is in two of them
module _ (m : Record) where
  abbrev apart : ℕ → ℕ → Bool
  apart k i = are_disjoint (area_at m i) (area_at m k)

  abbrev Right : Type 0
  Right = (i : ℕ) → i < m.memory.declared → RightArea m (area_at m i)

  abbrev Apart : Type 0
  Apart = (f i k : ℕ) → InArea m f i → InArea m f k → i ≡ k

  pair_says : Right → (i k : ℕ) → i < k → k < m.memory.declared → Says (apart k i) ((f : ℕ) → Holds (area_at m i) f → Holds (area_at m k) f → ⊥)
  pair_says right i k l h = disjoint_says (area_at m i) (area_at m k) (right i (omega arith)).some (right k h).some

  right_known : every (area_fits m) 0 m.memory.declared ≡ true → Right
  unfolding area_fits
  right_known e k h =
      let fits = every_all (area_fits m) 0 m.memory.declared e k (omega arith) (omega arith) in
      (area_says m (area_at m k)).fact (and_left _ (every (apart k) 0 k) fits)

  not_two : every (area_fits m) 0 m.memory.declared ≡ true → (f i k : ℕ) → InArea m f i → InArea m f k → i < k → ⊥
  unfolding area_fits
  not_two e f i k a c l =
      let fits = every_all (area_fits m) 0 m.memory.declared e k (omega arith) (omega (arith, c.declared)) in
      (pair_says (right_known e) i k l c.declared).fact
      (every_all (apart k) 0 k (and_right (area_right m.memory (area_at m k)) _ fits) i (omega arith) (omega arith)) f (a.low, a.high) (c.low, c.high)

  apart_known : every (area_fits m) 0 m.memory.declared ≡ true → Apart
  apart_known e f i k a c =
      below_or_not i k (λ l. absurd (not_two e f i k a c l)) (λ h. below_or_not k i (λ l. absurd (not_two e f k i c a l)) (λ g. omega arith))

  areas_test_lem : Right → Apart → every (area_fits m) 0 m.memory.declared ≡ true
  unfolding area_fits
  areas_test_lem right none =
      all_every (area_fits m) 0 m.memory.declared
      (λ k _ h.
      and_both (area_right m.memory (area_at m k)) (every (apart k) 0 k) ((area_says m (area_at m k)).test (right k (omega arith)))
      (all_every (apart k) 0 k
      (λ i _ l.
      (pair_says right i k (omega arith) (omega arith)).test
      (λ f a c.
      let same : i ≡ k =
      none f i k (record { declared = omega arith; low = a.0; high = a.1 }) (record { declared = omega arith; low = c.0; high = c.1 })
      in
      absurd (omega arith)))))

  areas_says : Says (every (area_fits m) 0 m.memory.declared) (Right × Apart)
  areas_says = record { fact = λ e. (right_known e, apart_known e); test = λ h. areas_test_lem h.0 h.1 }

pub shape_says : (m : Record) (t : Tables) → Says (shape_right m t) (RightShape m t)
unfolding shape_right
shape_says m t =
    says_is
    (λ h.
    record {
      memory = h.0.0.0.0;
      declared = h.0.0.0.1;
      lengths = h.0.0.1;
      areas = h.0.1.0;
      disjoint = h.0.1.1;
      bitmap = h.1;
    })
    (λ r. ((((r.memory, r.declared), r.lengths), (r.areas, r.disjoint)), r.bitmap))
    (says_and
    (says_and
    (says_and
    (says_and (memory_says m.memory.base.0 m.memory.frames m.memory.block_order) (λ _. says_leb m.memory.declared 64))
    (λ _. lengths_says m.memory.frames t))
    (λ _. areas_says m))
    (λ _. says_leb (first_word m.areas m.memory.declared) (length t.bitmap)))

pub shape_is_right : ShapeIsRight
shape_is_right m t = ((shape_says m t).fact, (shape_says m t).test)

pub wrong_shape : (m : Record) (t : Tables) → Says (shape_wrong m t) (RightShape m t → ⊥)
wrong_shape m t = says_not (shape_says m t)
