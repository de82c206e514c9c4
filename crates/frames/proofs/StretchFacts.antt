-- A walk over the stretches of ordinary places, beside a search for the free ordinary places. Assumes nothing.
--     stretch_hit, stretch_skip    the stretch's lowest free place; a stretch that has none
use Prim.Native.Nat.{ℕ, ◌-◌, ◌≤◌, ◌<◌}
use native.Mathlib.Omega.{arith}
use mathlib.Core.Path.{◌≡◌, ◌∙◌}
use mathlib.Core.Bool.{true, false}
use mathlib.Core.List.{List}
use Rattle.search.specs.Search.{lowest_from}
use Rattle.search.proofs.Bools.{by_cases, below_or_not, and_false_right}
use Rattle.search.proofs.Lowest.{Least, lowest_least}
use Rattle.frames.specs.declared.Frame.{Frame}
use Rattle.frames.specs.Marks.{has_kind, free}
use Rattle.frames.specs.Scans.{marked, in_areas_at, is_free_ordinary}
use Rattle.frames.specs.Steps.Stretches.{Within, OrdinaryStretch}
use Rattle.frames.proofs.ScanFacts.{Seeking, seek_skip, seek_hit}

module _ (marks : List ℕ) (base : Frame) (areas : List ℕ) (n : ℕ) where
  pub free_in_area_lem : (k : ℕ) → in_areas_at base areas n k ≡ true → is_free_ordinary marks base areas n k ≡ false
  unfolding is_free_ordinary
  free_in_area_lem k e = rw e (and_false_right (marked (has_kind free) marks k))

  pub free_outside : (k : ℕ) → in_areas_at base areas n k ≡ false → is_free_ordinary marks base areas n k ≡ marked (has_kind free) marks k
  unfolding is_free_ordinary
  free_outside k e = rw e (by_cases (marked (has_kind free) marks k) (λ t. rw t) (λ f. rw f))

module _ (marks : List ℕ) {base : Frame} {areas : List ℕ} {n at len from end : ℕ} (w : Within at len from end) (r : OrdinaryStretch base areas n at from end) where
  -- no place of the stretch before g is free
  none_before : (g : ℕ) → g ≤ end → ((k : ℕ) → from ≤ k → k < g → marked (has_kind free) marks k ≡ false) → (k : ℕ) → at ≤ k → k < g → is_free_ordinary marks base areas n k ≡ false
  none_before g h none k a b =
      below_or_not k from (λ l. free_in_area_lem marks base areas n k (r.held k a l))
      (λ l. free_outside marks base areas n k (r.clear k l (omega arith)) ∙ none k l b)

  pub stretch_hit : {f : ℕ} (g : ℕ) → Seeking (is_free_ordinary marks base areas n) f len at → g ≡ lowest_from (marked (has_kind free) marks) from (end - from) → g < end → g ≡ lowest_from (is_free_ordinary marks base areas n) f (len - f)
  stretch_hit g s e h =
      let l : Least (marked (has_kind free) marks) from (end - from) g = rw e (lowest_least (marked (has_kind free) marks) from (end - from)) in
      seek_hit
      (seek_skip s g (omega (arith, w.low, l.low)) (omega (arith, w.high)) (none_before g (omega arith) l.miss))
      (omega (arith, w.high))
      (free_outside marks base areas n g (r.clear g l.low h) ∙ l.hit (omega arith))

  pub stretch_skip : {f : ℕ} (g : ℕ) → Seeking (is_free_ordinary marks base areas n) f len at → g ≡ lowest_from (marked (has_kind free) marks) from (end - from) → end ≤ g → Seeking (is_free_ordinary marks base areas n) f len end
  stretch_skip g s e h =
      let l : Least (marked (has_kind free) marks) from (end - from) g = rw e (lowest_least (marked (has_kind free) marks) from (end - from)) in
      seek_skip s end (omega (arith, w.more)) w.high (none_before end (omega arith) (λ k a b. l.miss k a (omega arith)))
