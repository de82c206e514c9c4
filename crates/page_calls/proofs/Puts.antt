-- What a put does, from what its look-up and its scans of the marks found. Assumes nothing.
--     place_ordinary, place_movable     the place that a put takes, from what the scans found
--     place_inside                      it has a mark and a word
--     put_refused, put_live, put_full, put_done    what the call does
use Prim.Native.Nat.{ℕ, ◌+◌, ◌<◌, min}
use native.Mathlib.Omega.{arith}
use mathlib.Core.Path.{◌≡◌, refl, sym, ap, ap₂, subst, ◌∙◌}
use mathlib.Core.Bool.{Bool, true, false, not, ◌||◌, false≢true}
use lib.Dec.{eqb}
use lib.ListN.{length, set}
use borrow.Author.Tests.{ltb-true, ltb-false}
use Rattle.std.specs.Prelude.{Option, Some, None, IfSome, is_some, Ok, Err, ok_or, if◌then◌else◌}
use Rattle.search.specs.Search.{lowest}
use Rattle.search.proofs.Bools.{by_cases, or_neither, or_left_true, or_right_true}
use Rattle.search.proofs.Lowest.{found_cong, found_low}
use Rattle.answer.specs.Answers.{done, number_of}
use Rattle.answer.specs.declared.refusal.Refusal.{Refusal}
use Rattle.answer.specs.declared.refusal.Refusal.TheVariants.{NoFrame}
use Rattle.frames.specs.declared.Frame.{Frame}
use Rattle.frames.specs.declared.Place.{Place}
use Rattle.frames.specs.declared.kinds.Kind.{Kind}
use Rattle.frames.specs.declared.kinds.Kind.TheVariants.{Free, Movable, Pinned, Fixed, Head, Later}
use Rattle.frames.specs.Units.{most_number, frame, place, place_below}
use Rattle.frames.specs.Marks.{has_kind, kind_number, mark_of, free, movable}
use Rattle.frames.specs.Areas.{most_areas}
use Rattle.frames.specs.Scans.{marked, is_free_ordinary}
use Rattle.frames.specs.Tables.{Tables, tables, mark_at, set_page}
use Rattle.rules.specs.declared.Record.{Record}
use Rattle.rules.specs.Record.{frame_at}
use Rattle.rules.specs.Shape.{shape_right}
use Rattle.rules.specs.Outcomes.{outcome, refuse}
use Rattle.rules.specs.PageCalls.{is_place, lowest_place, free_ordinary, free_in_area, put_at, put_page}
use Rattle.page_calls.specs.Steps.Look.{find_named, place_for}
use Rattle.rules.proofs.Checks.{checked_stop, checked_pass, checked_end}
use Rattle.rules.proofs.Shapes.{shape_known}
use Rattle.page_calls.proofs.Looks.{Named, frame_inside, named, put_not, put_stopped, put_passed}

not_movable : (kind : Kind) → (kind ≡ Movable → ⊥) → eqb (kind_number kind) movable ≡ false
not_movable Free ne = refl
not_movable Movable ne = absurd (ne refl)
not_movable Pinned ne = refl
not_movable Fixed ne = refl
not_movable Head ne = refl
not_movable Later ne = refl

none_is : {A : Type 0} (o : Option A) → false ≡ is_some o → o ≡ None
none_is (Some p) h = absurd (false≢true h)
none_is None h = refl

-- ---- the place
module _ (m : Record) (t : Tables) (shape : shape_right m t ≡ true) where
  lengths : length t.marks ≡ m.memory.frames
  lengths = (shape_known m t shape).marks_length

  -- the lowest place of a test, where there is one
  abbrev below : (Place → Bool) → Option Place
  below test = if is_place m (lowest_place m test) then Some (lowest_place m test) else None

  scan_below : (test : Place → Bool) → place_below (lowest (λ i. test (place i)) (length t.marks)) (length t.marks) ≡ below test
  scan_below test = ap (λ (n : ℕ). place_below (lowest (λ i. test (place i)) n) n) lengths

  abbrev ordinary_scan : Option Place
  ordinary_scan = place_below (lowest (is_free_ordinary t.marks m.memory.base m.areas (min m.memory.declared most_areas)) (length t.marks)) (length t.marks)

  -- no more areas are declared than a record has
  few : min m.memory.declared most_areas ≡ m.memory.declared
  few = omega (arith, (shape_known m t shape).declared_high)

  scan_ordinary : ordinary_scan ≡ below (free_ordinary m t)
  unfolding is_free_ordinary free_ordinary
  scan_ordinary =
      ap (λ (n : ℕ). place_below (lowest (is_free_ordinary t.marks m.memory.base m.areas n) (length t.marks)) (length t.marks)) few ∙
      scan_below (free_ordinary m t)

  -- the definition's choice between two places
  for_first : (kind : ℕ) → (is_place m (lowest_place m (free_ordinary m t)) || not (eqb kind movable)) ≡ true → place_for kind m t ≡ below (free_ordinary m t)
  unfolding put_at
  for_first kind e = rw e refl

  for_second : (kind : ℕ) → (is_place m (lowest_place m (free_ordinary m t)) || not (eqb kind movable)) ≡ false → place_for kind m t ≡ below (free_in_area m t)
  unfolding put_at
  for_second kind e = rw e refl

  pub place_ordinary : (kind : Kind) → (kind ≡ Movable → ⊥) → ordinary_scan ≡ place_for (kind_number kind) m t
  place_ordinary kind ne =
      scan_ordinary ∙ sym (for_first (kind_number kind) (or_right_true (is_place m _) _ (ap not (not_movable kind ne))))

  -- with no free ordinary frame, the lowest free frame is the lowest free frame of an area
  in_area_is : (k : ℕ) → free_ordinary m t (place k) ≡ false → has_kind free (mark_at t (place k)) ≡ free_in_area m t (place k)
  unfolding free_ordinary free_in_area
  in_area_is k =
      by_cases (has_kind free (mark_at t (place k))) (λ a. rw a (λ b. rw b refl)) (λ a. rw a (λ b. refl))

  abbrev free_scan : Option Place
  free_scan = place_below (lowest (marked (has_kind free) t.marks) (length t.marks)) (length t.marks)

  in_areas_all : is_place m (lowest_place m (free_ordinary m t)) ≡ false → free_scan ≡ below (free_in_area m t)
  in_areas_all e =
      scan_below (λ p. has_kind free (mark_at t p)) ∙
      ap (λ (n : ℕ). if is_place m (place n) then Some (place n) else None)
      (found_cong (marked (has_kind free) t.marks) (λ i. free_in_area m t (place i)) m.memory.frames
      (λ k l. in_area_is k (found_low (λ i. free_ordinary m t (place i)) m.memory.frames k (omega (arith, ltb-false _ _ e)))))

  -- a movable page takes a free ordinary frame or else any free one
  pub place_movable : (kind : Kind) → kind ≡ Movable → {o s : Option Place} → s ≡ ordinary_scan →
      (s ≡ None → o ≡ free_scan) → ((p : Place) → s ≡ Some p → o ≡ Some p) → o ≡ place_for (kind_number kind) m t
  place_movable kind k {o} {s} e none some =
      by_cases (is_place m (lowest_place m (free_ordinary m t)))
      (λ l.
      let known : below (free_ordinary m t) ≡ Some (lowest_place m (free_ordinary m t)) = rw l refl in
      some _ (e ∙ scan_ordinary ∙ known) ∙ sym known ∙ sym (for_first (kind_number kind) (or_left_true (is_place m _) _ l)))
      (λ l.
      let known : below (free_ordinary m t) ≡ None = rw l refl in
      none (e ∙ scan_ordinary ∙ known) ∙ in_areas_all l ∙
      sym (for_second (kind_number kind) (or_neither (is_place m _) _ l (ap (λ (x : Kind). not (eqb (kind_number x) movable)) k))))

  pub place_inside : (kind : ℕ) {o : Option Place} → o ≡ place_for kind m t → IfSome o (λ page. (page.0 < length t.marks) × (page.0 < length t.words))
  place_inside kind e =
      let k = shape_known m t shape in
      rw e
      (by_cases (is_place m (put_at kind m t))
      (λ h. let low : (put_at kind m t).0 < m.memory.frames = ltb-true _ _ h in rw h (omega (arith, k.marks_length), omega (arith, k.words_length)))
      (λ h. rw h tt))

-- ---- the call
module _ (kind : ℕ) (m : Record) (name : ℕ) (t : Tables) where
  pub put_refused : {r : Refusal} → Err r ≡ find_named m name t → refuse m t (number_of r) ≡ put_page kind m name t
  unfolding put_page
  put_refused e = sym (put_not m name t (named m name t e) _ _)

  pub put_live : (o : Option Place) → Ok o ≡ find_named m name t → true ≡ is_some o → refuse m t 4 ≡ put_page kind m name t
  unfolding put_page
  put_live (Some p) e h = sym (put_stopped m name t (named m name t e) _ _)
  put_live None e h = absurd (false≢true (sym h))

  -- the name is free
  module _ (o : Option Place) (e : Ok o ≡ find_named m name t) (h : false ≡ is_some o) where
    passes : Named m name t (Ok None)
    passes = named m name t (ap Ok (sym (none_is o h)) ∙ e)

    full : None ≡ place_for kind m t → refuse m t 6 ≡ put_page kind m name t
    unfolding put_page
    full none =
        by_cases (is_place m (put_at kind m t))
        (λ l. let z : None ≡ Some (put_at kind m t) = none ∙ (rw l refl) in cc)
        (λ l. sym (put_passed m name t passes _ _ ∙ checked_stop m t _ _ _ (ap not l)))

    pub put_full : (p : Option Place) → p ≡ place_for kind m t → {r : Refusal} → Err r ≡ ok_or p NoFrame → refuse m t (number_of r) ≡ put_page kind m name t
    put_full (Some p) some x = let z : ◌≡◌ {A = ℕ} 0 1 = cc in absurd (omega arith)
    put_full None none {r} x = let e : r ≡ NoFrame = cc in ap (λ y. refuse m t (number_of y)) e ∙ full none

    pub put_done : shape_right m t ≡ true → {p : Place} → Some p ≡ place_for kind m t → {mark : ℕ} → mark ≡ mark_of name kind →
        {f : Frame} → f ≡ frame (min (m.memory.base.0 + p.0) most_number) →
        outcome m (done f.0 0) (tables (set t.marks p.0 mark) (set t.words p.0 0) t.bitmap t.owners) ≡ put_page kind m name t
    unfolding put_page
    put_done s {p} some {mark} v {f} w =
        by_cases (is_place m (put_at kind m t))
        (λ l.
        let at : Some p ≡ Some (put_at kind m t) = some ∙ (rw l refl) in
        let q : p ≡ put_at kind m t = cc in
        let inside : (put_at kind m t).0 < m.memory.frames = ltb-true _ _ l in
        ap (λ (g : Frame). outcome m (done g.0 0) (tables (set t.marks p.0 mark) (set t.words p.0 0) t.bitmap t.owners))
        (w ∙ frame_inside (shape_known m t s) p (subst (λ (x : Place). x.0 < m.memory.frames) (sym q) inside)) ∙
        ap₂ (λ (x : Place) (y : ℕ). outcome m (done (frame_at m x).0 0) (set_page t x y 0)) q v ∙
        sym (put_passed m name t passes _ _ ∙ checked_pass m t _ _ _ (ap not l) ∙ checked_end m t _))
        (λ l. let z : Some p ≡ None = some ∙ (rw l refl) in cc)
