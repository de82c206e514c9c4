-- A declaration that is not fixed takes the highest place that is allowed. Assumes nothing.
use Rattle.std.proofs.Common.{◌≡◌, ℕ, ◌+◌, ◌*◌, ◌/◌, ◌<◌, ◌≤◌, max, Bool, true, false, not, ◌&&◌, leb, sym, ap, ◌∙◌, ap₂, le-div_iff_mul-le, arith, le-leb, leb-true}
use borrow.Author.Tests.{lt-leb}
use Rattle.search.specs.Search.{highest_from}
use Rattle.search.proofs.Bools.{below_or_not, clash, and_left, and_right, and_both, and_right_false}
use Rattle.search.proofs.Highest.{Greatest, highest_greatest}
use Rattle.answer.specs.declared.Answer.{Answer}
use Rattle.answer.specs.Answers.{done, refused}
use Rattle.frames.specs.Tables.{Tables}
use Rattle.rules.specs.declared.Request.{Request}
use Rattle.rules.specs.declared.Record.{Record}
use Rattle.rules.specs.Declare.{alignment_for, base_for, size_for, limit_for, is_fixed, start_byte, area_from, is_vacant, first_multiple, multiples, fits_at, highest_fit, start_for, declare}
use Rattle.rules.specs.Limits.{page_bytes}
use Rattle.rules.specs.Outcomes.{Outcome, here, there}
use Rattle.rules.proofs.Checks.{checked_first, checked_passed}
use Rattle.rules.proofs.Rounding.{Amounts, in_pages, alignment_some, limit_high}
use Rattle.rules.proofs.Divisions.{ceiling_le, le_ceiling}
use Rattle.rules.proofs.Says.{Says}
use Rattle.rules.specs.Promises.Pages.{FreeOrdinary}
use Rattle.rules.specs.Promises.Declares.{InRange, Allowed, Highest, Judged, DeclareTakesHighest}
use Rattle.rules.proofs.Promises.Places.{judged_amounts, not_at_base, range_vacant}

module _ (m : Record) (r : Request) (t : Tables) (rounded : Amounts m r) where
  abbrev A : ℕ
  A = alignment_for m r

  abbrev found : ℕ
  found = highest_from (fits_at m r t) (first_multiple m r) (multiples m r)

  abbrev last : ℕ
  last = first_multiple m r + multiples m r

  greatest : Greatest (fits_at m r t) (first_multiple m r) (multiples m r) found
  greatest = highest_greatest (fits_at m r t) (first_multiple m r) (multiples m r)

  pages : (c : ℕ) → c * A ≡ c * A / page_bytes * page_bytes
  pages c = in_pages c A m.memory.block_order rounded.blocks

  vacant_says :
      (c : ℕ) → m.memory.base.0 * 4096 ≤ c * A → c * A + size_for m r ≤ limit_for m r →
      Says (is_vacant m t (area_from m r (c * A))) ((p : ℕ) → InRange m r (c * A) p → FreeOrdinary m t p)
  vacant_says c low high = range_vacant m r t rounded.size_pages (c * A) (pages c) low (omega (arith, limit_high m r))

  fits_known : (c : ℕ) → first_multiple m r ≤ c → fits_at m r t c ≡ true → Allowed m r t c
  unfolding fits_at
  fits_known c h e =
      let l = le_ceiling (max (base_for m r) (start_byte m)) A c (alignment_some m r) h in
      let fits : c * A + size_for m r ≤ limit_for m r = leb-true _ _ (and_left (leb (c * A + size_for m r) (limit_for m r)) _ e) in
      record {
        above_base = omega arith;
        in_memory = omega arith;
        below_limit = fits;
        vacant = (vacant_says c (omega arith) fits).fact (and_right (leb (c * A + size_for m r) (limit_for m r)) _ e);
      }

  fits_test : (c : ℕ) → Allowed m r t c → fits_at m r t c ≡ true
  unfolding fits_at
  fits_test c a =
      and_both _ _ (le-leb _ _ a.below_limit) ((vacant_says c a.in_memory a.below_limit).test a.vacant)

  first_low : (c : ℕ) → Allowed m r t c → first_multiple m r ≤ c
  first_low c a = ceiling_le (max (base_for m r) (start_byte m)) A c (alignment_some m r) (omega (arith, a.above_base, a.in_memory))

  below_last : (c : ℕ) → Allowed m r t c → c < last
  below_last c a =
      let h : c ≤ limit_for m r / A = (le-div_iff_mul-le (alignment_some m r)).1 (omega (arith, a.below_limit)) in
      omega arith

  pub found_highest : found < last → Highest m r t found
  found_highest h =
      record {
        allowed = fits_known found greatest.low (greatest.hit h);
        highest = λ k l a. clash (fits_at m r t k) (fits_test k a) (greatest.miss k l (below_last k a));
      }

  pub none_allowed : last ≤ found → (c : ℕ) → Allowed m r t c → ⊥
  none_allowed h c a =
      clash (fits_at m r t c) (fits_test c a) (greatest.none (omega (arith, greatest.high)) c (first_low c a) (below_last c a))

  highest_is : (c : ℕ) → Highest m r t c → found ≡ c
  highest_is c w =
      below_or_not found last
      (λ h.
      let f = found_highest h in
      below_or_not found c (λ l. absurd (f.highest c l w.allowed)) (λ l. below_or_not c found (λ k. absurd (w.highest found k f.allowed)) (λ k. omega arith)))
      (λ h. absurd (none_allowed h c w.allowed))

  highest_found : (c : ℕ) → Highest m r t c → found < last
  highest_found c w = below_or_not found last (λ h. h) (λ h. absurd (none_allowed h c w.allowed))

  module _ (judged : Judged m r t) (anywhere : is_fixed m r ≡ false) where
    abbrev answer : Answer
    answer = (declare m r t).answer

    -- the checks of a fixed request do not hold
    not_fixed : (b : Bool) → (is_fixed m r && b) ≡ false
    not_fixed b = rw anywhere

    start_is : start_for m r t ≡ found * A
    unfolding highest_fit
    start_is = rw anywhere

    answer_none : last ≤ found → answer ≡ refused 13
    unfolding declare highest_fit
    answer_none h =
        ap (λ (o : Outcome). o.answer)
        (checked_first m t _
        (there judged.shape
        (there judged.room
        (there judged.amounts
        (there judged.per_bit
        (there judged.limit
        (there judged.within
        (there judged.bitmap
        (there (not_fixed _) (there (not_fixed _) (here (and_both _ _ (ap not anywhere) (le-leb last found h)))))))))))))

    answer_done : found < last → answer ≡ done (found * A / page_bytes) (size_for m r / page_bytes)
    unfolding declare highest_fit
    answer_done h =
        ap (λ (o : Outcome). o.answer)
        (checked_passed m t _ _ (
          judged.shape,
          (
            judged.room,
            (
              judged.amounts,
              (
                judged.per_bit,
                (
                  judged.limit,
                  (judged.within, (judged.bitmap, (not_fixed _, (not_fixed _, (and_right_false (not (is_fixed m r)) _ (lt-leb last found h), tt))))),
                ),
              ),
            ),
          ),
        )) ∙
        ap (λ (at : ℕ). done (at / page_bytes) (size_for m r / page_bytes)) start_is

    by_answer :
        {P : Type 0} →
        (found < last → answer ≡ done (found * A / page_bytes) (size_for m r / page_bytes) → P) → (last ≤ found → answer ≡ refused 13 → P) → P
    by_answer accepted none = below_or_not found last (λ h. accepted h (answer_done h)) (λ h. none h (answer_none h))

    abbrev Accepted : ℕ → ℕ → Type 0
    Accepted f n = (c : ℕ) × Highest m r t c × (c * A / page_bytes ≡ f) × (size_for m r / page_bytes ≡ n)

    accepted_known : (f n : ℕ) → answer ≡ done f n → Accepted f n
    accepted_known f n e =
        by_answer
        (λ h d. (found, found_highest h, ap (λ (x : Answer). x.first) (sym d ∙ e), ap (λ (x : Answer). x.second) (sym d ∙ e)))
        (λ h d. absurd (let z : ◌≡◌ {A = ℕ} 13 0 = ap (λ (x : Answer). x.refusal) (sym d ∙ e) in omega arith))

    accepted_test : (f n : ℕ) → Accepted f n → answer ≡ done f n
    accepted_test f n w =
        answer_done (highest_found w.0 w.1) ∙ ap₂ done (ap (λ (c : ℕ). c * A / page_bytes) (highest_is w.0 w.1) ∙ w.2) w.3

    no_place_known : answer.refusal ≡ 13 → (c : ℕ) → Allowed m r t c → ⊥
    no_place_known e =
        by_answer (λ h d. absurd (let z : ◌≡◌ {A = ℕ} 0 13 = sym (ap (λ (x : Answer). x.refusal) d) ∙ e in omega arith))
        (λ h d. none_allowed h)

    no_place_test : ((c : ℕ) → Allowed m r t c → ⊥) → answer.refusal ≡ 13
    no_place_test none =
        by_answer (λ h d. absurd (none found (found_highest h).allowed)) (λ h d. ap (λ (x : Answer). x.refusal) d)

pub declare_takes_highest : DeclareTakesHighest
declare_takes_highest m r t judged w =
    let anywhere = not_at_base m r w in
    let rounded = judged_amounts m r t judged in (
      record {
        accepted = λ f n. (accepted_known m r t rounded judged anywhere f n, accepted_test m r t rounded judged anywhere f n);
        no_place = (no_place_known m r t rounded judged anywhere, no_place_test m r t rounded judged anywhere);
      },
      limit_high m r,
    )
