-- Where the pages of a run go: the laws of the search for targets. Assumes nothing.
--     area_none, area_found            the lowest free place of an area from a place on
--     other_found, other_next, other_none, other_later    a walk over the areas but one, in their order
--     Scanned, scanned                 a search that goes on where none stands before
--     first_ordinary, first_other      which place is the first that is free
--     seeks_start, seeks_kept          what is known before the first move, and after each
--     outside_count                    the free places that are not in an area
use Prim.Native.Nat.{ℕ, ◌+◌, ◌-◌, ◌≤◌, ◌<◌, min, max}
use native.Mathlib.Omega.{arith}
use mathlib.Core.Path.{◌≡◌, sym, ap, subst, ◌∙◌}
use mathlib.Core.Logic.{◌≢◌}
use mathlib.Core.Bool.{Bool, true, false, not, ◌&&◌}
use mathlib.Core.List.{List}
use lib.Dec.{leb, ltb, eqb}
use lib.ListN.{length, get_or}
use borrow.Author.Tests.{le-leb, lt-leb, lt-ltb, le-ltb, eqb-true, eqb-false, eq-eqb, ne_eqb}
use Rattle.std.specs.Prelude.{if◌then◌else◌}
use Rattle.search.specs.Search.{lowest, lowest_from, how_many}
use Rattle.search.proofs.Bools.{by_cases, below_or_not, clash, and_both, and_left_false, and_right_false}
use Rattle.search.proofs.Lowest.{lowest_least, lowest_is, lowest_start, lowest_skip}
use Rattle.search.proofs.Ranges.{some_hit, none_some}
use Rattle.search.proofs.Counts.{many_split, many_zero, many_cong}
use Rattle.frames.specs.declared.Area.{Area}
use Rattle.frames.specs.declared.Frame.{Frame}
use Rattle.frames.specs.declared.order.Order.{Order}
use Rattle.frames.specs.declared.targets.Seeking.{Seeking}
use Rattle.frames.specs.Units.{frame}
use Rattle.frames.specs.Marks.{has_kind, free}
use Rattle.frames.specs.Areas.{holds_frame, end_of, area_in, no_area}
use Rattle.frames.specs.Scans.{marked, in_areas_at, is_free_ordinary}
use Rattle.frames.specs.Orders.{in_use, Ordered}
use Rattle.frames.specs.Walk.{Walks}
use Rattle.frames.specs.Targets.{is_free_outside, in_others_at, is_free_elsewhere, first_free, NoneFreeIn, Seeks}
use Rattle.frames.specs.Steps.Others.{FreeIn}
use Rattle.frames.proofs.AreaNumbers.{area_past}
use Rattle.frames.proofs.AreaFacts.{holds_yes, holds_low, holds_high, holds_below, holds_above}
use Rattle.frames.proofs.StretchFacts.{free_in_area_lem}

-- a free mark at a place
abbrev is_free : List ℕ → ℕ → Bool
is_free marks = marked (has_kind free) marks

-- ---- one area, whose places from `from` on are those from `start` up to `end`
module _ (marks : List ℕ) (base : Frame) (a : Area) (from start end : ℕ) (begins : start ≡ max from (a.base.0 - base.0)) (ends : end ≡ min (end_of a - base.0) (length marks)) where
  pub area_none : ((q : ℕ) → start ≤ q → q < end → is_free marks q ≡ false) → FreeIn marks base a from (length marks)
  area_none none =
      record {
        high = omega arith;
        low = λ h. absurd (omega arith);
        is_free = λ h. absurd (omega arith);
        held = λ h. absurd (omega arith);
        none = λ q l h e. none q (omega (arith, holds_low a (base.0 + q) e)) (omega (arith, holds_high a (base.0 + q) e));
      }

  pub area_found : (at : ℕ) → start ≤ at → at < end → is_free marks at ≡ true → ((q : ℕ) → start ≤ q → q < at → is_free marks q ≡ false) → FreeIn marks base a from at
  area_found at low high hit none =
      record {
        high = omega arith;
        low = λ h. omega arith;
        is_free = λ h. hit;
        held = λ h. holds_yes a (base.0 + at) (omega arith) (omega arith);
        none = λ q l h e. none q (omega (arith, holds_low a (base.0 + q) e)) h;
      }

-- ---- the areas but one, in their order
module _ (marks : List ℕ) (base : Frame) (areas : List ℕ) (n : ℕ) (o : Order) (held : ℕ) (ord : Ordered areas (in_use areas n) o) where
  -- the number of the area that is p-th, and whether it has a place
  abbrev nth : ℕ → ℕ
  nth p = get_or o.list p 0

  abbrev has : ℕ → ℕ → Bool
  has i q = holds_frame (area_in areas i) (frame (base.0 + q))

  abbrev elsewhere : ℕ → Bool
  elsewhere = is_free_elsewhere marks base areas n held

  in_other : (p q : ℕ) → p < in_use areas n → nth p ≢ held → has (nth p) q ≡ true → in_others_at base areas n held q ≡ true
  in_other p q h other e =
      let low = ord.known p h in
      some_hit (λ i. not (eqb i held) && has i q) 0 n (nth p) (omega arith) (omega arith)
      (and_both (not (eqb (nth p) held)) (has (nth p) q) (ap not (ne_eqb (nth p) held other)) e)

  in_no_other : (q : ℕ) → ((p : ℕ) → p < in_use areas n → nth p ≢ held → has (nth p) q ≡ false) → in_others_at base areas n held q ≡ false
  in_no_other q none =
      none_some (λ i. not (eqb i held) && has i q) 0 n
      (λ i a b.
      by_cases (eqb i held) (λ e. and_left_false (not (eqb i held)) (has i q) (ap not e))
      (λ e.
      and_right_false (not (eqb i held)) (has i q)
      (below_or_not i (in_use areas n)
      (λ h.
      let found = ord.all i h in
      subst (λ (j : ℕ). has j q ≡ false) found.is (none found.at found.low (λ s. eqb-false i held e (sym found.is ∙ s))))
      (λ h. ap (λ (x : Area). holds_frame x (frame (base.0 + q))) (area_past areas i (omega arith)) ∙ holds_above no_area (base.0 + q) (omega arith)))))

  not_elsewhere : (q : ℕ) → ((p : ℕ) → p < in_use areas n → nth p ≢ held → has (nth p) q ≡ true → is_free marks q ≡ false) → elsewhere q ≡ false
  unfolding is_free_elsewhere
  not_elsewhere q none =
      by_cases (is_free marks q)
      (λ e.
      and_right_false (is_free marks q) (in_others_at base areas n held q)
      (in_no_other q (λ p h other. by_cases (has (nth p) q) (λ y. clash (is_free marks q) e (none p h other y)) (λ y. y))))
      (λ e. and_left_false (is_free marks q) (in_others_at base areas n held q) e)

  module _ (low next : ℕ) (passed : NoneFreeIn marks base areas o held low next) where
    -- the next area has the lowest: one that begins after it has no lower place
    pub other_found :
        (at : ℕ) → next < in_use areas n → nth next ≢ held → FreeIn marks base (area_in areas (nth next)) low at → at < length marks →
        at ≡ lowest_from elsewhere low (length marks - low)
    unfolding is_free_elsewhere
    other_found at room other w inside =
        sym
        (lowest_is elsewhere low (length marks - low) at
        (record {
          low = w.low inside;
          high = omega arith;
          hit = λ _. and_both (is_free marks at) (in_others_at base areas n held at) (w.is_free inside) (in_other next at room other (w.held inside));
          miss = λ k l h.
              not_elsewhere k
              (λ p b s e.
              below_or_not p next (λ c. passed p c s k l (omega arith) e)
              (λ c.
              w.none k l h
              (holds_yes (area_in areas (nth next)) (base.0 + k)
              (below_or_not next p (λ d. omega (arith, ord.sorted next p d b, holds_low (area_in areas (nth p)) (base.0 + k) e))
              (λ d. let same : p ≡ next = omega arith in subst (λ (x : ℕ). (area_in areas (nth x)).base.0 ≤ base.0 + k) same (holds_low (area_in areas (nth p)) (base.0 + k) e)))
              (omega (arith, holds_high (area_in areas (nth next)) (base.0 + at) (w.held inside))))));
        }))

    pub other_next : (nth next ≢ held → FreeIn marks base (area_in areas (nth next)) low (length marks)) → NoneFreeIn marks base areas o held low (next + 1)
    other_next w p h other =
        below_or_not p next (λ c. passed p c other)
        (λ c q l b e.
        let same : next ≡ p = omega arith in
        (w (subst (λ (x : ℕ). nth x ≢ held) (sym same) other)).none q l b (subst (λ (x : ℕ). has (nth x) q ≡ true) (sym same) e))

    pub other_none : low ≤ length marks → in_use areas n ≤ next → length marks ≡ lowest_from elsewhere low (length marks - low)
    other_none h all =
        sym
        (lowest_is elsewhere low (length marks - low) (length marks)
        (record {
          low = h;
          high = omega arith;
          hit = λ c. absurd (omega arith);
          miss = λ k l b. not_elsewhere k (λ p c s e. passed p (omega arith) s k l b e);
        }))

    pub other_later : (at : ℕ) → low ≤ at → NoneFreeIn marks base areas o held at next
    other_later at h p c s q l b e = passed p c s q (omega arith) b e

-- ---- a search that goes on where none stands before
pub record Scanned (p : ℕ → Bool) (len r : ℕ) : Type 0 where
  pub lowest_is : lowest p len ≡ r
  pub high : r ≤ len
  pub none : (k : ℕ) → k < r → p k ≡ false

pub scanned : (p : ℕ → Bool) (low len r : ℕ) → low ≤ len → ((k : ℕ) → k < low → p k ≡ false) → r ≡ lowest_from p low (len - low) → Scanned p len r
scanned p low len r h none e =
    let l = lowest_least p low (len - low) in
    record {
      lowest_is = lowest_start p len ∙ lowest_skip p 0 low len (omega arith) h (λ k a b. none k b) ∙ sym e;
      high = omega (arith, l.high);
      none = λ k b. below_or_not k low (none k) (λ c. l.miss k c (omega arith));
    }

module _ (marks : List ℕ) (base : Frame) (areas : List ℕ) (n held : ℕ) where
  abbrev ordinary : ℕ → Bool
  ordinary = is_free_ordinary marks base areas n

  abbrev others : ℕ → Bool
  others = is_free_elsewhere marks base areas n held

  -- the two choices, by whether the lowest free ordinary place is one
  by_place : (b : Bool) → ltb (lowest ordinary (length marks)) (length marks) ≡ b →
      first_free marks base areas n held ≡ (if b then lowest ordinary (length marks) else lowest others (length marks))
  unfolding first_free
  by_place b e = ap (λ (x : Bool). if x then lowest ordinary (length marks) else lowest others (length marks)) e

  pub first_ordinary : {r : ℕ} → Scanned ordinary (length marks) r → r < length marks → r ≡ first_free marks base areas n held
  first_ordinary {r} s h = sym (by_place true (lt-ltb (lowest ordinary (length marks)) (length marks) (omega (arith, s.lowest_is))) ∙ s.lowest_is)

  pub first_other : {r q : ℕ} → Scanned ordinary (length marks) r → length marks ≤ r → Scanned others (length marks) q → q ≡ first_free marks base areas n held
  first_other {r} {q} s h w = sym (by_place false (le-ltb (lowest ordinary (length marks)) (length marks) (omega (arith, s.lowest_is))) ∙ w.lowest_is)

-- ---- between two moves
module _ (base : Frame) (areas : List ℕ) (n : ℕ) (o : Order) (held : ℕ) where
  pub seeks_start : (marks : List ℕ) (w : Seeking) → w.ordinary.from.0 ≡ 0 → w.ordinary.end.0 ≡ 0 → w.ordinary.next ≡ 0 → w.others.from.0 ≡ 0 → w.others.next ≡ 0 →
      Seeks marks base areas n o held w
  seeks_start marks w a b c d e =
      record {
        ordinary_high = omega arith;
        ordinary = λ k h. absurd (omega arith);
        walks = record { ordinary = λ k low high. absurd (omega arith); next = omega arith; passed = λ p h. absurd (omega arith) };
        others_high = omega arith;
        others = λ k h. absurd (omega arith);
        few = omega arith;
        passed = λ p h. absurd (omega arith);
      }

  -- a page went from place p, of area `held` alone, to r: p is no target, and r, where it is a place, is not free any more
  module _ (marks marks' : List ℕ) (p r : ℕ) (same : length marks' ≡ length marks) (taken : r < length marks → is_free marks' r ≡ false) (kept : (q : ℕ) → q ≢ p → q ≢ r → get_or marks' q 0 ≡ get_or marks q 0)
      (in_area_lem : in_areas_at base areas n p ≡ true) (alone : (i : ℕ) → i < n → i ≢ held → holds_frame (area_in areas i) (frame (base.0 + p)) ≡ false) where
    -- a test of the mark that p never passes, nor a mark that is not free, is passed by no place that did not pass it
    still : (test : List ℕ → ℕ → Bool) → ((q : ℕ) → is_free marks' q ≡ false → test marks' q ≡ false) → test marks' p ≡ false →
        ((q : ℕ) → get_or marks' q 0 ≡ get_or marks q 0 → test marks' q ≡ test marks q) → (q : ℕ) → q < length marks → test marks q ≡ false → test marks' q ≡ false
    still test unless never by_mark q h e =
        by_cases (eqb q p) (λ s. subst (λ (k : ℕ). test marks' k ≡ false) (sym (eqb-true q p s)) never)
        (λ s.
        by_cases (eqb q r) (λ u. unless q (subst (λ (k : ℕ). is_free marks' k ≡ false) (sym (eqb-true q r u)) (taken (omega (arith, eqb-true q r u)))))
        (λ u. by_mark q (kept q (eqb-false q p s) (eqb-false q r u)) ∙ e))

    still_ordinary : (q : ℕ) → q < length marks → is_free_ordinary marks base areas n q ≡ false → is_free_ordinary marks' base areas n q ≡ false
    unfolding is_free_ordinary
    still_ordinary =
        still (λ ms q. is_free ms q && not (in_areas_at base areas n q)) (λ q e. and_left_false (is_free marks' q) _ e) (free_in_area_lem marks' base areas n p in_area_lem)
        (λ q e. ap (λ (mark : ℕ). has_kind free mark && not (in_areas_at base areas n q)) e)

    in_none : in_others_at base areas n held p ≡ false
    in_none =
        none_some (λ i. not (eqb i held) && holds_frame (area_in areas i) (frame (base.0 + p))) 0 n
        (λ i a b.
        by_cases (eqb i held) (λ e. and_left_false (not (eqb i held)) _ (ap not e))
        (λ e. and_right_false (not (eqb i held)) _ (alone i (omega arith) (eqb-false i held e))))

    still_elsewhere : (q : ℕ) → q < length marks → is_free_elsewhere marks base areas n held q ≡ false → is_free_elsewhere marks' base areas n held q ≡ false
    unfolding is_free_elsewhere
    still_elsewhere =
        still (λ ms q. is_free ms q && in_others_at base areas n held q) (λ q e. and_left_false (is_free marks' q) _ e) (and_right_false (is_free marks' p) _ in_none)
        (λ q e. ap (λ (mark : ℕ). has_kind free mark && in_others_at base areas n held q) e)

    pub seeks_kept : {w : Seeking} → Ordered areas (in_use areas n) o → Seeks marks base areas n o held w → Seeks marks' base areas n o held w
    seeks_kept {w} ord s =
        record {
          ordinary_high = omega (arith, s.ordinary_high);
          ordinary = λ k h. still_ordinary k (omega (arith, s.ordinary_high)) (s.ordinary k h);
          walks = subst (λ (len : ℕ). Walks base areas n len o w.ordinary) (sym same) s.walks;
          others_high = omega (arith, s.others_high);
          others = λ k h. still_elsewhere k (omega (arith, s.others_high)) (s.others k h);
          few = s.few;
          passed = λ i h other q l b e.
              let known = ord.known i (omega (arith, s.few)) in
              by_cases (eqb q p)
              (λ y.
              let here : holds_frame (area_in areas (get_or o.list i 0)) (frame (base.0 + p)) ≡ true =
              subst (λ (k : ℕ). holds_frame (area_in areas (get_or o.list i 0)) (frame (base.0 + k)) ≡ true) (eqb-true q p y) e
              in
              clash (holds_frame (area_in areas (get_or o.list i 0)) (frame (base.0 + p))) here (alone (get_or o.list i 0) (omega arith) other))
              (λ y.
              by_cases (eqb q r) (λ u. subst (λ (k : ℕ). is_free marks' k ≡ false) (sym (eqb-true q r u)) (taken (omega (arith, eqb-true q r u))))
              (λ u. ap (has_kind free) (kept q (eqb-false q p y) (eqb-false q r u)) ∙ s.passed i h other q l (omega arith) e));
        }

-- what is taken off one side of a comparison comes off the other
leb_less : (a b c : ℕ) → leb a (b + c) ≡ leb (a - b) c
leb_less a b c =
    below_or_not (b + c) a (λ h. lt-leb a (b + c) h ∙ sym (lt-leb (a - b) c (omega arith)))
    (λ h. le-leb a (b + c) h ∙ sym (le-leb (a - b) c (omega arith)))

eqb_zero : (a : ℕ) → eqb a 0 ≡ leb a 0
eqb_zero a = below_or_not 0 a (λ h. ne_eqb a 0 (λ e. omega arith) ∙ sym (lt-leb a 0 h)) (λ h. eq-eqb a 0 (omega arith) ∙ sym (le-leb a 0 h))

-- a count in three parts
many_thirds : (p : ℕ → Bool) (s e len : ℕ) → s ≤ e → e ≤ len → how_many p 0 len ≡ how_many p 0 s + (how_many p s (e - s) + how_many p e (len - e))
many_thirds p s e len a b =
    let w : len ≡ s + ((e - s) + (len - e)) = omega arith in
    let x : 0 + s ≡ s = omega arith in
    let y : s + (e - s) ≡ e = omega arith in
    ap (how_many p 0) w ∙ many_split p 0 s ((e - s) + (len - e)) ∙
    ap (λ (k : ℕ). how_many p 0 s + how_many p k ((e - s) + (len - e))) x ∙
    ap (λ (k : ℕ). how_many p 0 s + k) (many_split p s (e - s) (len - e) ∙ ap (λ (k : ℕ). how_many p s (e - s) + how_many p k (len - e)) y)

-- ---- the free places that are not in an area, whose places are those from `start` up to `end`
module _ (marks : List ℕ) (base : Frame) (a : Area) (start end : ℕ) (begins : start ≡ min (a.base.0 - base.0) (length marks)) (ends : end ≡ max start (min (end_of a - base.0) (length marks))) where
  abbrev outside : ℕ → Bool
  outside = is_free_outside marks base a

  out_of : (q : ℕ) → holds_frame a (frame (base.0 + q)) ≡ false → outside q ≡ is_free marks q
  unfolding is_free_outside
  out_of q e = by_cases (is_free marks q) (λ f. rw (e, f)) (λ f. rw (e, f))

  within : (q : ℕ) → holds_frame a (frame (base.0 + q)) ≡ true → outside q ≡ false
  unfolding is_free_outside
  within q e = and_right_false (is_free marks q) _ (ap not e)

  ordered : start ≤ end
  ordered = omega arith

  inside : end ≤ length marks
  inside = omega arith

  before : how_many outside 0 start ≡ how_many (is_free marks) 0 start
  before = many_cong outside (is_free marks) 0 start (λ q u v. out_of q (holds_below a (base.0 + q) (omega arith)))

  none_within : how_many outside start (end - start) ≡ 0
  none_within = many_zero outside start (end - start) (λ q u v. within q (holds_yes a (base.0 + q) (omega arith) (omega arith)))

  behind : how_many outside end (length marks - end) ≡ how_many (is_free marks) end (length marks - end)
  behind = many_cong outside (is_free marks) end (length marks - end) (λ q u v. out_of q (holds_above a (base.0 + q) (omega arith)))

  parts : how_many outside 0 (length marks) ≡ how_many (is_free marks) 0 start + how_many (is_free marks) end (length marks - end)
  parts = many_thirds outside start end (length marks) ordered inside ∙ sums before none_within behind
    where
      sums : {a b c l h : ℕ} → a ≡ l → b ≡ 0 → c ≡ h → a + (b + c) ≡ l + h
      sums e₁ e₂ e₃ = omega arith

  pub outside_count :
      (least left more : ℕ) →
      left ≡ least - how_many (is_free marks) 0 start →
      more ≡ left - how_many (is_free marks) end (length marks - end) → eqb more 0 ≡ leb least (how_many outside 0 (length marks))
  outside_count least left more e f =
      let low = how_many (is_free marks) 0 start in
      let high = how_many (is_free marks) end (length marks - end) in
      let z : high + 0 ≡ high = omega arith in
      eqb_zero more ∙ ap (λ (k : ℕ). leb k 0) f ∙ sym (leb_less left high 0) ∙ ap (leb left) z ∙ ap (λ (k : ℕ). leb k high) e ∙ sym (leb_less least low high) ∙ ap (leb least) (sym parts)
