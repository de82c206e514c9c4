-- A record with one more area, on vacant frames: it has the right shape, the other areas are as they were, and what stood in no area and is not
-- free still stands in none. Assumes nothing.
use Rattle.std.proofs.Common.{◌≡◌, ℕ, zero, suc, ◌+◌, ◌-◌, ◌<◌, ◌≤◌, Bool, true, false, not, ◌&&◌, ltb, leb, length, refl, ap, ◌∙◌, arith, ltb-true, leb-false, leb-true}
use Rattle.search.specs.Search.{every, some}
use Rattle.search.proofs.Bools.{by_cases, below_or_not, clash, and_left, and_right, and_both, or_left, or_right, not_flips}
use Rattle.search.proofs.Ranges.{all_every, some_no, none_some, every_cong}
use Rattle.frames.specs.declared.Area.{Area}
use Rattle.frames.specs.Units.{place}
use Rattle.frames.specs.Areas.{end_of, holds_frame, are_disjoint, area_in, in_areas, word_count, first_word}
use Rattle.frames.specs.Tables.{Tables}
use Rattle.frames.proofs.AreaNumbers.{area_set_same, area_set_other}
use Rattle.rules.specs.declared.Record.{Record}
use Rattle.rules.specs.Record.{area_at, frame_at, is_ordinary}
use Rattle.rules.specs.Limits.{most_areas, most_area_numbers}
use Rattle.rules.specs.Promises.Changes.{SameLengths}
use Rattle.rules.specs.Shape.{area_right, area_fits, words_needed, shape_right}
use Rattle.rules.specs.PageCalls.{is_free, free_ordinary}
use Rattle.rules.specs.Declare.{with_area}
use Rattle.rules.proofs.Shapes.{shape_known}
use Rattle.rules.proofs.AreaRight.{AreaFacts, area_facts, facts_right, in_area, ordinary_free, ordinary_is}
use Rattle.rules.proofs.ShapeFacts.{shape_memory, facts_shape}

module _ (m : Record) (t : Tables) (a : Area) (shape : shape_right m t ≡ true) (records : length m.areas ≡ most_area_numbers) (more : m.memory.declared < most_areas) where
  abbrev m' : Record
  m' = with_area m a

  pub area_old : (k : ℕ) → k < m.memory.declared → area_at m' k ≡ area_at m k
  area_old k h = area_set_other m.areas m.memory.declared a k (λ e. omega arith)

  pub area_new : area_at m' m.memory.declared ≡ a
  area_new = area_set_same m.areas m.memory.declared a (omega arith)

  pub words_old : (k : ℕ) → k ≤ m.memory.declared → first_word m'.areas k ≡ first_word m.areas k
  unfolding first_word
  words_old zero h = refl
  words_old (suc k) h =
      ap (λ (x : ℕ). x + word_count (area_at m' k)) (words_old k (omega arith)) ∙
      ap (λ (x : Area). first_word m.areas k + word_count x) (area_old k (omega arith))

  words_new : words_needed m' ≡ words_needed m + word_count a
  words_new =
      last ∙
      ap (λ (x : ℕ). x + word_count (area_at m' m.memory.declared)) (words_old m.memory.declared (omega arith)) ∙
      ap (λ (x : Area). words_needed m + word_count x) area_new
    where
      last : first_word m'.areas (suc m.memory.declared) ≡ first_word m'.areas m.memory.declared + word_count (area_at m' m.memory.declared)
      last = unfold first_word in refl

  module _ (right : AreaFacts m a) (vacant : (q : ℕ) → a.base.0 ≤ m.memory.base.0 + q → m.memory.base.0 + q < end_of a → free_ordinary m t (place q) ≡ true) where
    -- no frame is in the new area and in another
    apart : (k : ℕ) → k < m.memory.declared → are_disjoint (area_at m k) a ≡ true
    apart k h =
        let old = area_facts m t shape k h in
        let some_old = old.some in
        let some_new = right.some in
        let low_old = old.low in
        let low_new = right.low in
        by_cases (are_disjoint (area_at m k) a) (λ e. e)
        (λ e.
        let u = leb-false (end_of (area_at m k)) a.base.0 (or_left (leb (end_of (area_at m k)) a.base.0) (leb (end_of a) (area_at m k).base.0) e) in
        let v = leb-false (end_of a) (area_at m k).base.0 (or_right (leb (end_of (area_at m k)) a.base.0) (leb (end_of a) (area_at m k).base.0) e) in
        below_or_not a.base.0 (area_at m k).base.0
        (λ b.
        let q = (area_at m k).base.0 - m.memory.base.0 in
        clash (is_ordinary m (place q)) (ordinary_is m t (place q) (vacant q (omega arith) (omega arith))) (in_area m k q h (omega arith) (omega arith)))
        (λ b.
        let q = a.base.0 - m.memory.base.0 in
        clash (is_ordinary m (place q)) (ordinary_is m t (place q) (vacant q (omega arith) (omega arith))) (in_area m k q h (omega arith) (omega arith))))

    right_same : (x : Area) → area_right m'.memory x ≡ area_right m.memory x
    unfolding area_right
    right_same x = refl

    fits_old : (k : ℕ) → k < m.memory.declared → area_fits m' k ≡ area_fits m k
    unfolding area_fits
    fits_old k h =
        ap (λ (x : Area). area_right m'.memory x && every (λ i. are_disjoint (area_at m' i) x) 0 k) (area_old k h) ∙
        ap (λ (b : Bool). b && every (λ i. are_disjoint (area_at m' i) (area_at m k)) 0 k) (right_same (area_at m k)) ∙
        ap (λ (b : Bool). area_right m.memory (area_at m k) && b)
        (every_cong (λ i. are_disjoint (area_at m' i) (area_at m k)) (λ i. are_disjoint (area_at m i) (area_at m k)) 0 k
        (λ i u v. ap (λ (x : Area). are_disjoint x (area_at m k)) (area_old i (omega arith))))

    fits_new : area_fits m' m.memory.declared ≡ true
    unfolding area_fits
    fits_new =
        ap (λ (x : Area). area_right m'.memory x && every (λ i. are_disjoint (area_at m' i) x) 0 m.memory.declared) area_new ∙
        and_both (area_right m'.memory a) (every (λ i. are_disjoint (area_at m' i) a) 0 m.memory.declared) (right_same a ∙ facts_right m a right)
        (all_every (λ i. are_disjoint (area_at m' i) a) 0 m.memory.declared
        (λ i u v. ap (λ (x : Area). are_disjoint x a) (area_old i (omega arith)) ∙ apart i (omega arith)))

    pub new_shape :
        (t' : Tables) →
        SameLengths t t' → words_needed m + word_count a ≤ length t.bitmap → shape_right m' t' ≡ true
    new_shape t' same room =
        let s = shape_known m t shape in
        facts_shape m' t'
        (record {
          memory = shape_memory m t shape;
          declared = more;
          marks = same.marks ∙ s.marks_length;
          words = same.words ∙ s.words_length;
          owners = same.owners ∙ s.owners_length;
          areas = all_every (area_fits m') 0 (suc m.memory.declared)
              (λ k u v.
              below_or_not k m.memory.declared
              (λ h. fits_old k h ∙ s.areas_fit k h)
              (λ h. let here : k ≡ m.memory.declared = omega arith in rw here fits_new));
          bitmap = rw (words_new, same.bitmap) room;
        })

    -- a frame that is ordinary and not free stays ordinary
    pub still_ordinary : (q : ℕ) → is_ordinary m (place q) ≡ true → is_free t (place q) ≡ false → is_ordinary m' (place q) ≡ true
    unfolding in_areas
    still_ordinary q e full =
        let old : some (λ i. holds_frame (area_in m.areas i) (frame_at m (place q))) 0 m.memory.declared ≡ false = not_flips (in_areas m.areas m.memory.declared (frame_at m (place q))) e in
        ap not
        (none_some (λ i. holds_frame (area_in m'.areas i) (frame_at m (place q))) 0 (suc m.memory.declared)
        (λ k u v.
        below_or_not k m.memory.declared
        (λ h.
        ap (λ (x : Area). holds_frame x (frame_at m (place q))) (area_old k h) ∙
        some_no (λ i. holds_frame (area_in m.areas i) (frame_at m (place q))) 0 m.memory.declared old k (omega arith) (omega arith))
        (λ h.
        let here : k ≡ m.memory.declared = omega arith in
        ap (λ (x : ℕ). holds_frame (area_in m'.areas x) (frame_at m (place q))) here ∙
        ap (λ (x : Area). holds_frame x (frame_at m (place q))) area_new ∙
        by_cases (holds_frame a (frame_at m (place q)))
        (λ y.
        clash (is_free t (place q))
        (ordinary_free m t (place q)
        (vacant q (leb-true a.base.0 (m.memory.base.0 + q) (and_left (leb a.base.0 (m.memory.base.0 + q)) (ltb (m.memory.base.0 + q) (end_of a)) y))
        (ltb-true (m.memory.base.0 + q) (end_of a) (and_right (leb a.base.0 (m.memory.base.0 + q)) (ltb (m.memory.base.0 + q) (end_of a)) y))))
        full)
        (λ n. n))))
