-- What holds at the head of a loop that looks through the places from `from` up to `end`, and stands at i. Assumes nothing.
--     Seeking     a search for the lowest place that passes: what is left to search is the range from i on
--     Asking      whether some place may pass, with no exit: where none was hinted at, none of the j from `from` on does
--     Taking      the places that pass are taken off a number, as long as it is not 0
--     Counting    a count of the places that pass: `found` of them before i
-- And pass_list: a check that each place passes, made on the list of them.
use Prim.Native.Nat.{ℕ, zero, suc, ◌+◌, ◌-◌, ◌≤◌, ◌<◌}
use native.Mathlib.Nat.{le_refl}
use native.Mathlib.Omega.{arith}
use mathlib.Core.Path.{◌≡◌, refl, sym, ap, subst, ◌∙◌}
use mathlib.Core.Bool.{Bool, true, false, ◌||◌}
use Rattle.std.specs.Prelude.{Option, Some, None, if◌then◌else◌}
use Rattle.std.specs.Option.{is_some}
use Rattle.std.specs.List.{list_all, range_with_len}
use Rattle.search.specs.Search.{lowest_from, some, every, how_many}
use Rattle.frames.specs.declared.Place.{Place}
use Rattle.frames.specs.Units.{place, place_below}
use Rattle.frames.proofs.PlaceFacts.{some_below, none_below}
use Rattle.search.proofs.Bools.{by_cases, below_or_not, clash, not_flips}
use Rattle.search.proofs.Lowest.{Least, lowest_least, lowest_here, lowest_skip, lowest_next, lowest_end}
use Rattle.search.proofs.Ranges.{some_none, some_next, every_all, all_every, every_miss, every_no, every_none}
use Rattle.search.proofs.Counts.{many_none, many_next, many_split, many_zero, many_le}

pub record Seeking (p : ℕ → Bool) (from end i : ℕ) : Type 0 where
  pub rest : lowest_from p from (end - from) ≡ lowest_from p i (end - i)

pub seek_start : {p : ℕ → Bool} {from end : ℕ} → Seeking p from end from
seek_start = record { rest = refl }

module _ {p : ℕ → Bool} {from end i : ℕ} (s : Seeking p from end i) where
  pub seek_turn : i < end → p i ≡ false → Seeking p from end (i + 1)
  seek_turn h e = record { rest = s.rest ∙ lowest_next p i end h e }

  -- over places that all fail, at once
  pub seek_skip : (j : ℕ) → i ≤ j → j ≤ end → ((k : ℕ) → i ≤ k → k < j → p k ≡ false) → Seeking p from end j
  seek_skip j a b none = record { rest = s.rest ∙ lowest_skip p i j end a b none }

  pub seek_hit : i < end → p i ≡ true → i ≡ lowest_from p from (end - from)
  seek_hit h e = sym (s.rest ∙ lowest_here p i end h e)

  pub seek_end : end ≤ i → i ≡ lowest_from p from (end - from)
  seek_end h = sym (s.rest ∙ lowest_end p i end h)

  pub seek_some : i < end → p i ≡ true → Some (place i) ≡ place_below (lowest_from p from (end - from)) end
  seek_some h e = sym (some_below i end h) ∙ ap (λ (k : ℕ). place_below k end) (seek_hit h e)

  pub seek_none : end ≤ i → None ≡ place_below (lowest_from p from (end - from)) end
  seek_none h = sym (none_below _ end (omega (arith, seek_end h)))

-- A part of the range, from i up to j, is searched at once: r is what that search finds.
module _ {p : ℕ → Bool} {from end i : ℕ} (s : Seeking p from end i) (j : ℕ) (a : i ≤ j) (b : j ≤ end) {r : Option Place} (e : r ≡ place_below (lowest_from p i (j - i)) j) where
  abbrev found : ℕ
  found = lowest_from p i (j - i)

  least : Least p i (j - i) found
  least = lowest_least p i (j - i)

  pub part_some : is_some r ≡ true → r ≡ place_below (lowest_from p from (end - from)) end
  part_some h =
      below_or_not found j
      (λ l.
      let same : found ≡ lowest_from p from (end - from) =
      seek_hit (seek_skip s found least.low (omega arith) least.miss) (omega arith) (least.hit (omega arith))
      in
      e ∙ some_below found j l ∙ sym (some_below found end (omega arith)) ∙ ap (λ (k : ℕ). place_below k end) same)
      (λ l. clash (is_some r) h (ap is_some (e ∙ none_below found j l)))

  pub part_none : is_some r ≡ false → Seeking p from end j
  part_none h =
      below_or_not found j (λ l. clash (is_some r) (ap is_some (e ∙ some_below found j l)) h)
      (λ l. seek_skip s j a b (λ k u v. least.miss k u (omega arith)))

pub record Asking (p : ℕ → Bool) (from : ℕ) (hit : Bool) (j : ℕ) : Type 0 where
  pub none : hit ≡ false → some p from j ≡ false

pub ask_start : {p : ℕ → Bool} {from : ℕ} → Asking p from false 0
ask_start {p} {from} = record { none = λ e. some_none p from }

module _ {p : ℕ → Bool} {from : ℕ} {hit : Bool} {j : ℕ} (s : Asking p from hit j) where
  pub ask_turn : {may : Bool} → (may ≡ false → p (from + j) ≡ false) → Asking p from (hit || may) (j + 1)
  ask_turn {may} h =
      record {
        none = λ e.
            by_cases hit (λ t. clash (hit || may) (rw t refl) e)
            (λ f. rw (some_next p from j, s.none f, h (sym (ap (λ (b : Bool). b || may) f) ∙ e)) refl);
      }

-- each place of a range passes just where each of the list of them does
pub pass_list : (p : ℕ → Bool) (from d : ℕ) → list_all p (range_with_len from d) ≡ every p from d
pass_list p from zero = sym (every_none p from)
pass_list p from (suc d) =
    by_cases (p from)
    (λ t.
    rw (t, pass_list p (from + 1) d)
    (by_cases (every p (from + 1) d)
    (λ e.
    e ∙
    sym
    (all_every p from (suc d)
    (λ k a b. below_or_not from k (λ h. every_all p (from + 1) d e k (omega arith) (omega arith)) (λ h. subst (λ (x : ℕ). p x ≡ true) (omega arith) t))))
    (λ e.
    let miss = every_no p (from + 1) d e in
    e ∙ sym (every_miss p from (suc d) miss.at (omega (arith, miss.low)) (omega (arith, miss.high)) (not_flips (p miss.at) miss.hit)))))
    (λ f. rw f (sym (every_miss p from (suc d) from (omega arith) (omega arith) f)))

pub record Counting (p : ℕ → Bool) (from found i : ℕ) : Type 0 where
  pub low : from ≤ i
  pub count : found ≡ how_many p from (i - from)

-- one place adds at most 1
pub one_le : (b : Bool) → (if b then 1 else 0) ≤ 1
one_le true = le_refl 1
one_le false = omega arith

pub count_start : {p : ℕ → Bool} (from : ℕ) → Counting p from 0 from
count_start {p} from =
    let e : from - from ≡ 0 = omega arith in
    record { low = le_refl from; count = sym (ap (how_many p from) e ∙ many_none p from) }

module _ {p : ℕ → Bool} {from found i : ℕ} (s : Counting p from found i) where
  pub count_le : found ≤ i - from
  count_le = omega (arith, s.count, many_le p from (i - from))

  pub count_turn : Counting p from (found + (if p i then 1 else 0)) (i + 1)
  count_turn =
      let e : (i + 1) - from ≡ (i - from) + 1 = omega (arith, s.low) in
      let f : from + (i - from) ≡ i = omega (arith, s.low) in
      record {
        low = omega (arith, s.low);
        count =
            sym
            (ap (how_many p from) e ∙
            many_next p from (i - from) ∙
            ap (λ (k : ℕ). how_many p from (i - from) + (if p k then 1 else 0)) f ∙
            ap (λ (k : ℕ). k + (if p i then 1 else 0)) (sym s.count));
      }

  pub count_end : (d : ℕ) → i ≤ from + d → ((k : ℕ) → i ≤ k → k < from + d → p k ≡ false) → found ≡ how_many p from d
  count_end d h none =
      let e : d ≡ (i - from) + ((from + d) - i) = omega (arith, s.low) in
      let f : from + (i - from) ≡ i = omega (arith, s.low) in
      s.count ∙
      sym
      (ap (how_many p from) e ∙
      many_split p from (i - from) ((from + d) - i) ∙
      omega (arith, many_zero p (from + (i - from)) ((from + d) - i) (λ k a b. none k (omega arith) (omega arith))))

-- A loop that takes the places that pass off a number: what is left of it after the whole range is what is left of `left` after the rest.
pub record Taking (p : ℕ → Bool) (from end least left i : ℕ) : Type 0 where
  pub rest : least - how_many p from (end - from) ≡ left - how_many p i (end - i)

module _ {p : ℕ → Bool} {from end least left i : ℕ} (s : Taking p from end least left i) where
  -- a part of the range, at once
  pub take_part : (d : ℕ) → i + d ≤ end → Taking p from end least (left - how_many p i d) (i + d)
  take_part d h =
      let e : end - i ≡ d + (end - (i + d)) = omega arith in
      let f : how_many p i (end - i) ≡ how_many p i d + how_many p (i + d) (end - (i + d)) = ap (how_many p i) e ∙ many_split p i d (end - (i + d)) in
      record { rest = s.rest ∙ omega (arith, f) }

  pub take_done : left ≡ 0 → 0 ≡ least - how_many p from (end - from)
  take_done h = omega (arith, s.rest)

  pub take_rest : left - how_many p i (end - i) ≡ least - how_many p from (end - from)
  take_rest = sym s.rest
