-- The last frames before an end that an area holds, and a range of frames that are free and in no area. Assumes nothing.
--     held_start, held_stays, held_moves              a loop that has looked at the first k areas: what the next area's ends say
--     held_lower                                      the same before a lower end
--     used_past                                       a mark past the end is free
--     used_here, used_none                            a loop up to the first place that is not free
--     below_some, below_none                          a place below an end, or none
--     scan_held, scan_free, scan_used                 a range that reaches into those frames; one that lies after them
use Prim.Native.Nat.{ℕ, ◌+◌, ◌-◌, ◌≤◌, ◌<◌, min, max}
use native.Mathlib.Nat.{le_refl, zero-add}
use native.Mathlib.Omega.{arith}
use mathlib.Core.Path.{◌≡◌, refl, sym, ap, subst, ◌∙◌}
use mathlib.Core.Bool.{Bool, true, false, not, ◌||◌}
use mathlib.Core.List.{List}
use lib.ListN.{length}
use borrow.Author.Tests.{lt-ltb, le-ltb}
use Rattle.std.specs.Prelude.{Option, Some, None}
use Rattle.search.specs.Search.{lowest_from, some, every}
use Rattle.search.proofs.Bools.{below_or_not, and_both, and_left_false, and_right_false, or_neither, or_left_true, or_right_true, not_flips}
use Rattle.search.proofs.Lowest.{Least, lowest_least}
use Rattle.search.proofs.Ranges.{some_none, some_next, every_miss, all_every}
use Rattle.frames.specs.declared.Area.{Area}
use Rattle.frames.specs.declared.Frame.{Frame}
use Rattle.frames.specs.declared.Place.{Place}
use Rattle.frames.specs.Units.{frame, place, place_below, most_number}
use Rattle.frames.specs.Marks.{has_kind, free}
use Rattle.frames.specs.Scans.{marked, in_areas_at, is_free_ordinary}
use Rattle.frames.specs.Areas.{holds_frame, end_of, area_in, in_areas}
use Rattle.frames.proofs.AreaFacts.{holds_yes, holds_below, holds_above}
use Rattle.frames.proofs.MarkFacts.{past_end}
use Rattle.frames.proofs.ScanFacts.{Seeking, seek_hit, seek_skip, seek_end}
use Rattle.setup.specs.declared.place.Held.{Held}
use Rattle.setup.specs.Steps.Held.{HeldBelow, LastHeld, UsedSince, Scanned}

-- ---- the first n areas of a list
module _ (areas : List ℕ) (f : Frame) where
  in_none : in_areas areas 0 f ≡ false
  unfolding in_areas
  in_none = some_none (λ i. holds_frame (area_in areas i) f) 0

  in_next : (n : ℕ) → in_areas areas (n + 1) f ≡ (in_areas areas n f || holds_frame (area_in areas n) f)
  unfolding in_areas
  in_next n =
      some_next (λ i. holds_frame (area_in areas i) f) 0 n ∙
      ap (λ (x : ℕ). some (λ i. holds_frame (area_in areas i) f) 0 n || holds_frame (area_in areas x) f) (zero-add n)

-- ---- a loop that has looked at the first k areas, and found the last frames before `end` that they hold
pub held_start : {areas : List ℕ} {end : ℕ} → LastHeld areas 0 end (record { from = frame 0; end = frame 0 })
held_start {areas} =
    record {
      within = omega arith;
      below = record { some = λ h. absurd (omega arith); held = λ f u v. absurd (omega arith); clear = λ f u v. in_none areas (frame f) };
    }

pub held_lower : {areas : List ℕ} {n end : ℕ} {h : Held} (lower : ℕ) → HeldBelow areas n end h → lower ≤ end → HeldBelow areas n lower h
held_lower lower b l = record { some = b.some; held = b.held; clear = λ f u v. b.clear f u (omega arith) }

module _ {areas : List ℕ} {k end : ℕ} {a : Area} (same : a ≡ area_in areas k) {h : Held} (s : LastHeld areas k end h) (past : ℕ) (is : past ≡ min (end_of a) end) where
  joined : (f : ℕ) → in_areas areas (k + 1) (frame f) ≡ (in_areas areas k (frame f) || holds_frame a (frame f))
  joined f = in_next areas (frame f) k ∙ ap (λ (x : Area). in_areas areas k (frame f) || holds_frame x (frame f)) (sym same)

  -- after those frames the area has none
  pub held_stays : past ≤ max a.base.0 h.end.0 → LastHeld areas (k + 1) end h
  held_stays l =
      record {
        within = s.within;
        below = record {
          some = s.below.some;
          held = λ f u v. joined f ∙ or_left_true (in_areas areas k (frame f)) (holds_frame a (frame f)) (s.below.held f u v);
          clear = λ f u v.
              joined f ∙
              or_neither (in_areas areas k (frame f)) (holds_frame a (frame f)) (s.below.clear f u v)
              (below_or_not f a.base.0 (λ w. holds_below a f w) (λ w. holds_above a f (omega arith)));
        };
      }

  pub held_moves : a.base.0 < past → h.end.0 < past → LastHeld areas (k + 1) end (record { from = a.base; end = frame past })
  held_moves l more =
      record {
        within = omega arith;
        below = record {
          some = λ _. l;
          held = λ f u v. joined f ∙ or_right_true (in_areas areas k (frame f)) (holds_frame a (frame f)) (holds_yes a f u (omega arith));
          clear = λ f u v.
              joined f ∙
              or_neither (in_areas areas k (frame f)) (holds_frame a (frame f)) (s.below.clear f (omega arith) v) (holds_above a f (omega arith));
        };
      }

-- ---- a range of frames
pub used_past : (marks : List ℕ) (k : ℕ) → length marks ≤ k → not (marked (has_kind free) marks k) ≡ false
used_past marks k h = ap not (past_end (has_kind free) marks k h)

-- a loop up to the first place that is not free
module _ (marks : List ℕ) {from end i : ℕ} (s : Seeking (λ q. not (marked (has_kind free) marks q)) from end i) where
  pub used_here : i < end → not (marked (has_kind free) marks i) ≡ true → Some (place i) ≡ place_below (lowest_from (λ q. not (marked (has_kind free) marks q)) from (end - from)) end
  used_here l h = subst (λ (n : ℕ). Some (place i) ≡ place_below n end) (seek_hit s l h) (rw (lt-ltb i end l) refl)

  pub used_none : min end (length marks) ≤ i → None ≡ place_below (lowest_from (λ q. not (marked (has_kind free) marks q)) from (end - from)) end
  used_none past =
      let none : (n : ℕ) → end ≤ n → n ≡ lowest_from (λ q. not (marked (has_kind free) marks q)) from (end - from) → None ≡ place_below (lowest_from (λ q. not (marked (has_kind free) marks q)) from (end - from)) end =
      λ n l is. subst (λ (k : ℕ). None ≡ place_below k end) is (rw (le-ltb n end l) refl)
      in
      below_or_not i end
      (λ l. none end (le_refl end) (seek_end (seek_skip s end (omega arith) (le_refl end) (λ k a b. used_past marks k (omega arith))) (le_refl end)))
      (λ l. none i l (seek_end s l))

number_in : Option Place → ℕ
number_in (Some p) = p.0
number_in None = 0

-- a place below an end, or none
pub below_some : {n end : ℕ} {p : Place} → Some p ≡ place_below n end → (p.0 ≡ n) × (n < end)
unfolding number_in
below_some {n} {end} {p} e =
    below_or_not n end (λ l. (let z : Some p ≡ Some (place n) = e ∙ rw (lt-ltb n end l) refl in ap number_in z, l)) (λ l. absurd (let z : Some p ≡ None = e ∙ rw (le-ltb n end l) refl in cc))

pub below_none : {n end : ℕ} → None ≡ place_below n end → end ≤ n
below_none {n} {end} e =
    below_or_not n end (λ l. absurd (let z : None ≡ Some (place n) = e ∙ rw (lt-ltb n end l) refl in cc)) (λ l. l)

-- a range that begins no higher than a used place, and ends above the first of those in a row with it, has one of them
over_used :
    (base : Frame) (marks areas : List ℕ) (n first count : ℕ) {used since : ℕ} → first ≤ base.0 + used → base.0 + used < first + count → UsedSince marks used since
    → marked (has_kind free) marks used ≡ false → (f : ℕ) → base.0 ≤ f → f ≤ first → base.0 + since < f + count → every (is_free_ordinary marks base areas n) (f - base.0) count ≡ false
unfolding is_free_ordinary
over_used base marks areas n first count {used} {since} begins ends run here f a b v =
    let taken : (q : ℕ) → marked (has_kind free) marks q ≡ false → is_free_ordinary marks base areas n q ≡ false =
    λ q e. and_left_false (marked (has_kind free) marks q) (not (in_areas_at base areas n q)) e
    in
    let vacant = is_free_ordinary marks base areas n in
    below_or_not (base.0 + used) (f + count) (λ w. every_miss vacant (f - base.0) count used (omega arith) (omega arith) (taken used here))
    (λ w.
    let q = f + count - 1 - base.0 in
    every_miss vacant (f - base.0) count q (omega arith) (omega arith) (taken q (run.used q (omega arith) (omega arith))))

module _ (base : Frame) (marks areas : List ℕ) (n first count : ℕ) {h : Held} (low : base.0 ≤ first) (s : LastHeld areas n (first + count) h) where
  abbrev vacant_at : ℕ → Bool
  vacant_at = is_free_ordinary marks base areas n

  -- it reaches into the frames that an area holds: a range that begins no higher and ends above the first of them has one of them
  pub scan_held : first < h.end.0 → Scanned base marks areas n first count (Some h.from)
  unfolding is_free_ordinary
  scan_held l =
      let some = s.below.some (omega arith) in
      let within = s.within in
      record {
        before = omega arith;
        fails = λ f a b v.
            let e = min (f + count) h.end.0 - 1 in
            let here : e ≡ base.0 + (e - base.0) = omega arith in
            every_miss vacant_at (f - base.0) count (e - base.0) (omega arith) (omega arith)
            (and_right_false (marked (has_kind free) marks (e - base.0)) _
            (ap not (subst (λ (x : ℕ). in_areas areas n (frame x) ≡ true) here (s.below.held e (omega arith) (omega arith)))));
      }

  -- it lies after them: the marks say
  module _ (after : h.end.0 ≤ first) {from end used : ℕ} (at : from ≡ first - base.0) (past : end ≡ first + count - base.0) (is : used ≡ lowest_from (λ q. not (marked (has_kind free) marks q)) from (end - from)) where
    least : Least (λ q. not (marked (has_kind free) marks q)) from (end - from) used
    least = subst (Least (λ q. not (marked (has_kind free) marks q)) from (end - from)) (sym is) (lowest_least (λ q. not (marked (has_kind free) marks q)) from (end - from))

    pub scan_free : end ≤ used → Scanned base marks areas n first count None
    unfolding is_free_ordinary
    scan_free l =
        all_every vacant_at (first - base.0) count
        (λ q u w.
        and_both (marked (has_kind free) marks q) (not (in_areas_at base areas n q)) (not_flips (marked (has_kind free) marks q) (least.miss q (omega arith) (omega arith)))
        (ap not (s.below.clear (base.0 + q) (omega arith) (omega arith))))

    pub scan_used : {since : ℕ} {taken : Frame} → used < end → first + count ≤ most_number → UsedSince marks used since → taken.0 ≡ min (base.0 + since) most_number → Scanned base marks areas n first count (Some taken)
    scan_used {since} {taken} l most run e =
        let begins : first ≤ base.0 + used = omega (arith, least.low) in
        let ends : base.0 + used < first + count = omega arith in
        let same : taken.0 ≡ base.0 + since = omega (arith, run.low) in
        let here : marked (has_kind free) marks used ≡ false = not_flips (marked (has_kind free) marks used) (least.hit (omega arith)) in
        record {
          before = omega (arith, run.low);
          fails = λ f a b v. over_used base marks areas n first count begins ends run here f a b (omega arith);
        }
