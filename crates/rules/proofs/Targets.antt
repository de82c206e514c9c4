-- The targets of a run's pages: the laws that the moves of a grant go by. Assumes nothing.
--     in_no_target, target_free, target_outside    a frame of the area being granted is no target; what a target is
--     in_it, target_known, target_test             in plain words
--     room_is                                      the targets are the free ordinary frames and the free frames of the other areas
--     first_inside, first_target_lem, first_rank       where there is a target, the first is one, and none comes before it
--     Left                                         the marks after a page of the area went to the first target
--     taken, other_target                          that is a target no more, and each other is as it was
--     targets_fall, rank_falls                     there is one target less, and one less comes before each that is left
--     first_same                                   the first goes by the marks alone
use Rattle.std.proofs.Common.{◌≡◌, ℕ, suc, ◌+◌, ◌<◌, ◌≤◌, Bool, true, false, not, ◌&&◌, eqb, ◌≢◌, List, [], sym, refl, ap, ◌∙◌, subst, arith, le-ltb, lt-ltb, eq-eqb, eqb-true}
use borrow.Author.Tests.{eqb-false}
use Rattle.std.specs.Prelude.{if◌then◌else◌}
use Rattle.search.specs.Search.{lowest, how_many}
use Rattle.search.proofs.Bools.{by_cases, below_or_not, clash, and_left, and_right, and_both, and_left_false, and_right_false, not_flips}
use Rattle.search.proofs.Lowest.{found_passes, found_low}
use Rattle.search.proofs.Counts.{one, many_zero, many_cong, many_parts, many_run}
use Rattle.frames.specs.Units.{place}
use Rattle.frames.specs.Marks.{kind_of, has_kind, free}
use Rattle.frames.specs.Tables.{Tables, tables, mark_at}
use Rattle.frames.proofs.AreaFacts.{holds_yes, holds_low, holds_high, in_area as is_in_areas}
use Rattle.rules.specs.declared.Record.{Record}
use Rattle.rules.specs.Record.{area_at, frame_at, is_ordinary}
use Rattle.rules.specs.PageCalls.{is_free, free_ordinary, free_in_area}
use Rattle.rules.specs.Targets.{in_area_at, is_target, targets, lowest_target, first_target}
use Rattle.rules.specs.Promises.Grants.{ordinary_below, elsewhere_below, room_for}
use Rattle.rules.specs.Promises.Moves.{Target, targets_before}
use Rattle.rules.specs.Promises.Shapes.{InArea}

-- the words, the bitmap and the owners play no part
pub first_same : (m : Record) (i : ℕ) (t t₁ : Tables) → t₁.marks ≡ t.marks → first_target m t₁ i ≡ first_target m t i
unfolding first_target is_target free_ordinary
first_same m i t t₁ e = ap (λ (marks : List ℕ). first_target m (tables marks [] [] []) i) e

-- a place of area i, in plain words
pub in_it : (m : Record) (i q : ℕ) → i < m.memory.declared → in_area_at m i (place q) ≡ true → InArea m (m.memory.base.0 + q) i
in_it m i q h e =
    let f = m.memory.base.0 + q in
    record { declared = h; low = holds_low (area_at m i) f e; high = holds_high (area_at m i) f e }

module _ (m : Record) (i : ℕ) (known : i < m.memory.declared) where
  abbrev n : ℕ
  n = m.memory.frames

  abbrev target : Tables → ℕ → Bool
  target t q = is_target m t i (place q)

  abbrev ordinary : Tables → ℕ → Bool
  ordinary t q = free_ordinary m t (place q)

  -- a free frame of another area
  abbrev elsewhere : Tables → ℕ → Bool
  elsewhere t q = free_in_area m t (place q) && not (in_area_at m i (place q))

  in_not_ordinary : (q : ℕ) → in_area_at m i (place q) ≡ true → is_ordinary m (place q) ≡ false
  in_not_ordinary q e = ap not (is_in_areas m.areas m.memory.declared (frame_at m (place q)) i known e)

  module _ (t : Tables) (q : ℕ) where
    pub target_free : target t q ≡ true → is_free t (place q) ≡ true
    unfolding is_target
    target_free e = and_left (is_free t (place q)) _ e

    pub target_outside : target t q ≡ true → in_area_at m i (place q) ≡ false
    unfolding is_target
    target_outside e = not_flips (in_area_at m i (place q)) (and_right (is_free t (place q)) (not (in_area_at m i (place q))) e)

    pub is_target_lem : is_free t (place q) ≡ true → in_area_at m i (place q) ≡ false → target t q ≡ true
    unfolding is_target
    is_target_lem e f = and_both (is_free t (place q)) (not (in_area_at m i (place q))) e (ap not f)

    -- in plain words
    pub target_known : q < n → target t q ≡ true → Target m t i q
    target_known h e =
        record {
          in_memory = h;
          is_free = eqb-true (kind_of (mark_at t (place q))) free (target_free e);
          elsewhere = λ a. clash (in_area_at m i (place q)) (holds_yes (area_at m i) (m.memory.base.0 + q) a.low a.high) (target_outside e);
        }

    pub target_test : Target m t i q → target t q ≡ true
    target_test w =
        is_target_lem (eq-eqb (kind_of (mark_at t (place q))) free w.is_free)
        (by_cases (in_area_at m i (place q)) (λ e. absurd (w.elsewhere (in_it m i q known e))) (λ e. e))

    -- which of the three tests a frame passes
    pub in_no_target : in_area_at m i (place q) ≡ true → target t q ≡ false
    unfolding is_target
    in_no_target e = and_right_false (is_free t (place q)) (not (in_area_at m i (place q))) (ap not e)

    no_ordinary : is_ordinary m (place q) ≡ false → ordinary t q ≡ false
    unfolding free_ordinary
    no_ordinary e = and_right_false (is_free t (place q)) (is_ordinary m (place q)) e

    no_elsewhere : is_ordinary m (place q) ≡ true → elsewhere t q ≡ false
    unfolding free_in_area
    no_elsewhere e = rw e (and_left_false (is_free t (place q) && false) (not (in_area_at m i (place q))) (and_right_false (is_free t (place q)) false refl))

    in_no_elsewhere : in_area_at m i (place q) ≡ true → elsewhere t q ≡ false
    in_no_elsewhere e = and_right_false (free_in_area m t (place q)) (not (in_area_at m i (place q))) (ap not e)

    ordinary_is : is_ordinary m (place q) ≡ true → ordinary t q ≡ target t q
    unfolding free_ordinary is_target
    ordinary_is e = by_cases (in_area_at m i (place q)) (λ a. clash (is_ordinary m (place q)) e (in_not_ordinary q a)) (λ a. rw (e, a))

    elsewhere_is : is_ordinary m (place q) ≡ false → elsewhere t q ≡ target t q
    unfolding free_in_area is_target
    elsewhere_is e = by_cases (is_free t (place q)) (λ a. rw (e, a)) (λ a. rw (e, a))

  -- ---- how many there are
  sorts : (t : Tables) (q : ℕ) → one (target t) q ≡ one (ordinary t) q + one (elsewhere t) q
  sorts t q =
      by_cases (is_ordinary m (place q))
      (λ e. ap (λ (b : Bool). if b then 1 else 0) (sym (ordinary_is t q e)) ∙ rw (no_elsewhere t q e) (omega arith))
      (λ e. ap (λ (b : Bool). if b then 1 else 0) (sym (elsewhere_is t q e)) ∙ rw (no_ordinary t q e) (omega arith))

  pub room_is : (t : Tables) → targets m t i ≡ room_for m t i
  unfolding targets
  room_is t = many_parts (target t) (ordinary t) (elsewhere t) 0 n (λ q a b. sorts t q)

  -- ---- the first of them
  module _ (t : Tables) where
    abbrev pub first : ℕ
    first = (first_target m t i).0

    -- the lowest free ordinary frame
    abbrev low : ℕ
    low = lowest (ordinary t) n

    first_ordinary : low < n → first ≡ low
    unfolding first_target
    first_ordinary h = ap (λ (b : Bool). (if b then place low else lowest_target m t i).0) (lt-ltb low n h)

    first_elsewhere : n ≤ low → first ≡ lowest (target t) n
    unfolding first_target
    first_elsewhere h = ap (λ (b : Bool). (if b then place low else lowest_target m t i).0) (le-ltb low n h)

    none_ordinary : n ≤ low → (k : ℕ) → k < n → ordinary t k ≡ false
    none_ordinary h k l = found_low (ordinary t) n k (omega arith)

    pub first_inside : 0 < targets m t i → first < n
    unfolding targets
    first_inside some =
        below_or_not low n (λ h. omega (arith, first_ordinary h))
        (λ h.
        below_or_not (lowest (target t) n) n (λ l. omega (arith, first_elsewhere h))
        (λ l. absurd (omega (arith, many_zero (target t) 0 n (λ k a b. found_low (target t) n k (omega arith))))))

    module _ (inside : first < n) where
      -- it is the lowest free ordinary frame; or no such is free, and it is the lowest that is
      by_sort : {P : Type 0} → (ordinary t first ≡ true → ((k : ℕ) → k < first → ordinary t k ≡ false) → P) →
          (((k : ℕ) → k < n → ordinary t k ≡ false) → target t first ≡ true → ((k : ℕ) → k < first → target t k ≡ false) → P) → P
      by_sort one other =
          below_or_not low n
          (λ h.
          one (rw (first_ordinary h) (found_passes (ordinary t) n h)) (λ k l. found_low (ordinary t) n k (omega (arith, first_ordinary h))))
          (λ h.
          let found : lowest (target t) n < n = omega (arith, first_elsewhere h, inside) in
          other (none_ordinary h) (rw (first_elsewhere h) (found_passes (target t) n found)) (λ k l. found_low (target t) n k (omega (arith, first_elsewhere h))))

      is_ordinary_lem : (q : ℕ) → ordinary t q ≡ true → is_ordinary m (place q) ≡ true
      is_ordinary_lem q e = by_cases (is_ordinary m (place q)) (λ a. a) (λ a. clash (ordinary t q) e (no_ordinary t q a))

      pub first_target_lem : target t first ≡ true
      first_target_lem = by_sort (λ e _. sym (ordinary_is t first (is_ordinary_lem first e)) ∙ e) (λ _ e _. e)

      -- where no ordinary frame is free, a target lies in an area
      not_ordinary : ((k : ℕ) → k < n → ordinary t k ≡ false) → (q : ℕ) → q < n → target t q ≡ true → is_ordinary m (place q) ≡ false
      not_ordinary none q l e = by_cases (is_ordinary m (place q)) (λ a. clash (ordinary t q) (ordinary_is t q a ∙ e) (none q l)) (λ a. a)

      pub first_rank : targets_before m t i first ≡ 0
      first_rank =
          by_sort
          (λ e none. rw (is_ordinary_lem first e) (many_zero (ordinary t) 0 first (λ k a b. none k (omega arith))))
          (λ none e low.
          rw (not_ordinary none first inside e)
          (omega (
            arith,
            many_zero (ordinary t) 0 n (λ k a b. none k (omega arith)),
            many_zero (elsewhere t) 0 first
                (λ k a b. by_cases (is_ordinary m (place k)) (λ o. no_elsewhere t k o) (λ o. elsewhere_is t k o ∙ low k (omega arith))),
          )))

      -- ---- after a page of area i, at place p, went there
      pub record Left (t₁ : Tables) (p : ℕ) : Type 0 where
        pub from : in_area_at m i (place p) ≡ true
        pub here : is_free t₁ (place first) ≡ false
        pub others : (q : ℕ) → q ≢ p → q ≢ first → mark_at t₁ (place q) ≡ mark_at t (place q)

      module _ {t₁ : Tables} {p : ℕ} (w : Left t₁ p) where
        -- a test of a mark, beside another of the place, that no frame of area i passes, passes where it did
        same : (test : Bool → ℕ → Bool) → ((u : Tables) → test (is_free u (place p)) p ≡ false) → (q : ℕ) → q ≢ first →
            test (is_free t₁ (place q)) q ≡ test (is_free t (place q)) q
        same test none q a =
            by_cases (eqb q p)
            (λ e. rw (eqb-true q p e) (none t₁ ∙ sym (none t)))
            (λ e. ap (λ (mark : ℕ). test (has_kind free mark) q) (w.others q (eqb-false q p e) a))

        pub other_target : (q : ℕ) → q ≢ first → target t₁ q ≡ target t q
        unfolding is_target
        other_target = same (λ b q. b && not (in_area_at m i (place q))) (λ u. in_no_target u p w.from)

        other_ordinary : (q : ℕ) → q ≢ first → ordinary t₁ q ≡ ordinary t q
        unfolding free_ordinary
        other_ordinary = same (λ b q. b && is_ordinary m (place q)) (λ u. no_ordinary u p (in_not_ordinary p w.from))

        other_elsewhere : (q : ℕ) → q ≢ first → elsewhere t₁ q ≡ elsewhere t q
        unfolding free_in_area
        other_elsewhere = same (λ b q. b && not (is_ordinary m (place q)) && not (in_area_at m i (place q))) (λ u. in_no_elsewhere u p w.from)

        pub taken : target t₁ first ≡ false
        unfolding is_target
        taken = and_left_false (is_free t₁ (place first)) _ w.here

        taken_ordinary : ordinary t₁ first ≡ false
        unfolding free_ordinary
        taken_ordinary = and_left_false (is_free t₁ (place first)) _ w.here

        taken_elsewhere : elsewhere t₁ first ≡ false
        unfolding free_in_area
        taken_elsewhere = and_left_false _ _ (and_left_false (is_free t₁ (place first)) _ w.here)

        -- one less, of those below a place behind the first
        one_less : (test test₁ : ℕ → Bool) → test first ≡ true → test₁ first ≡ false → ((q : ℕ) → q ≢ first → test₁ q ≡ test q) → (x : ℕ) → first < x →
            how_many test 0 x ≡ suc (how_many test₁ 0 x)
        one_less test test₁ hit miss others x h =
            omega (
              arith,
              many_run test test₁ x first 1 (omega arith) (λ k a b. subst (λ (q : ℕ). test q ≡ true) (omega arith) hit)
                  (λ k a b. subst (λ (q : ℕ). test₁ q ≡ false) (omega arith) miss) (λ k l out. sym (others k (λ e. out (omega arith) (omega arith)))),
            )

        pub targets_fall : targets m t i ≡ suc (targets m t₁ i)
        unfolding targets
        targets_fall = one_less (target t) (target t₁) first_target_lem taken other_target n inside

        -- the first comes before each that is left, in the count of its own sort
        behind : (test test₁ : ℕ → Bool) → ((k : ℕ) → k < first → test k ≡ false) → test₁ first ≡ false → ((q : ℕ) → q ≢ first → test₁ q ≡ test q) →
            (q : ℕ) → test₁ q ≡ true → first < q
        behind test test₁ none miss others q e =
            below_or_not first q (λ h. h)
            (λ h.
            clash (test₁ q) e
            (below_or_not q first (λ l. others q (λ s. absurd (omega arith)) ∙ none q l) (λ l. subst (λ (k : ℕ). test₁ k ≡ false) (omega arith) miss)))

        pub was_target : (q : ℕ) → target t₁ q ≡ true → target t q ≡ true
        was_target q e =
            by_cases (eqb q first) (λ s. clash (target t₁ first) (subst (λ (k : ℕ). target t₁ k ≡ true) (eqb-true q first s) e) taken)
            (λ s. sym (other_target q (eqb-false q first s)) ∙ e)

        pub rank_falls : (q : ℕ) → q < n → target t₁ q ≡ true → targets_before m t i q ≡ suc (targets_before m t₁ i q)
        rank_falls q l e =
            by_cases (is_ordinary m (place q))
            (λ o.
            let e₁ : ordinary t₁ q ≡ true = ordinary_is t₁ q o ∙ e in
            by_sort
            (λ hit lower.
            rw o (one_less (ordinary t) (ordinary t₁) hit taken_ordinary other_ordinary q (behind (ordinary t) (ordinary t₁) lower taken_ordinary other_ordinary q e₁)))
            (λ none _ _. clash (ordinary t q) (ordinary_is t q o ∙ was_target q e) (none q l)))
            (λ o.
            let e₁ : elsewhere t₁ q ≡ true = elsewhere_is t₁ q o ∙ e in
            by_sort
            (λ hit lower.
            let kept : elsewhere_below m t₁ i q ≡ elsewhere_below m t i q =
            many_cong (elsewhere t₁) (elsewhere t) 0 q
            (λ k a b.
            by_cases (eqb k first)
            (λ s. rw (eqb-true k first s) (no_elsewhere t₁ first (is_ordinary_lem first hit) ∙ sym (no_elsewhere t first (is_ordinary_lem first hit))))
            (λ s. other_elsewhere k (eqb-false k first s)))
            in
            rw o (omega (arith, kept, one_less (ordinary t) (ordinary t₁) hit taken_ordinary other_ordinary n inside)))
            (λ none hit lower.
            let area = not_ordinary none first inside hit in
            let kept : ordinary_below m t₁ n ≡ ordinary_below m t n =
            many_cong (ordinary t₁) (ordinary t) 0 n
            (λ k a b.
            by_cases (eqb k first) (λ s. rw (eqb-true k first s) (no_ordinary t₁ first area ∙ sym (no_ordinary t first area)))
            (λ s. other_ordinary k (eqb-false k first s)))
            in
            let none_lower : (k : ℕ) → k < first → elsewhere t k ≡ false = λ k h. by_cases (is_ordinary m (place k)) (λ a. no_elsewhere t k a) (λ a. elsewhere_is t k a ∙ lower k h) in
            rw o
            (omega (
              arith,
              kept,
              one_less (elsewhere t) (elsewhere t₁) (elsewhere_is t first area ∙ hit) taken_elsewhere other_elsewhere q
                  (behind (elsewhere t) (elsewhere t₁) none_lower taken_elsewhere other_elsewhere q e₁),
            ))))
