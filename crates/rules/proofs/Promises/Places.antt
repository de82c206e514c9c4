-- Where a request is placed, as its tests say and in plain quantifiers. Assumes nothing.
--     at_base, anywhere    it is fixed and its base, rounded, is not 0; or else it is placed anywhere
--     judged_amounts       the amounts of a request that passes its first checks
--     range_vacant, range_taken    each frame of a range is free and ordinary; one is not
use Rattle.std.proofs.Common.{◌≡◌, ℕ, ◌+◌, ◌*◌, ◌/◌, ◌<◌, ◌≤◌, Bool, true, false, not, eqb, ap, inl, inr, ⊎_elim, arith, eqb-true}
use borrow.Author.Tests.{eqb-false, not-true, not-false}
use Rattle.search.proofs.Bools.{by_cases, clash, not_flips}
use Rattle.search.proofs.Ranges.{every_all, every_no}
use Rattle.frames.specs.Units.{place}
use Rattle.frames.specs.Areas.{in_areas}
use Rattle.frames.specs.Tables.{Tables}
use Rattle.rules.specs.declared.Request.{Request}
use Rattle.rules.specs.declared.Record.{Record}
use Rattle.rules.specs.Record.{place_of, frame_at}
use Rattle.rules.specs.Declare.{alignment_for, base_for, size_for, limit_for, is_fixed, area_from, is_vacant, fits_at, highest_fit, declare}
use Rattle.rules.specs.Limits.{page_bytes}
use Rattle.rules.specs.PageCalls.{is_free, free_ordinary}
use Rattle.rules.specs.Shape.{shape_right}
use Rattle.rules.specs.Promises.Changes.{kind_at}
use Rattle.rules.specs.Promises.Pages.{FreeOrdinary}
use Rattle.rules.specs.Promises.Declares.{AtBase, Anywhere, BaseZeroCancelsFixed, Taken, Judged, InRange}
use Rattle.rules.proofs.Rounding.{Amounts, amounts}
use Rattle.rules.proofs.Says.{Says, says_no, says_false, says_true, says_eqb, says_not, says_and}
use Rattle.rules.proofs.ShapeFacts.{shape_memory}
use Rattle.rules.proofs.Promises.PlaceTests.{in_areas_lem, free_ordinary_lem}

module _ (m : Record) (r : Request) where
  pub at_base : Says (is_fixed m r) (AtBase m r)
  at_base = says_and (says_true r.fixed) (λ _. says_not (says_eqb (base_for m r) 0))

  pub not_at_base : Anywhere m r → is_fixed m r ≡ false
  not_at_base w = says_false at_base (λ b. ⊎_elim (clash r.fixed b.0) b.1 w)

  pub anywhere : Says (not (is_fixed m r)) (Anywhere m r)
  anywhere =
      record {
        fact = λ e.
            by_cases r.fixed
            (λ is.
            by_cases (eqb (base_for m r) 0) (λ z. inr (eqb-true (base_for m r) 0 z))
            (λ n. absurd (says_no at_base (not-true (is_fixed m r) e) (is, eqb-false (base_for m r) 0 n))))
            inl;
        test = λ w. ap not (not_at_base w);
      }

pub base_zero_cancels_fixed : BaseZeroCancelsFixed
unfolding declare alignment_for base_for size_for limit_for is_vacant fits_at highest_fit
base_zero_cancels_fixed m r t z = rw (not_at_base m r (inr z))

pub judged_amounts : (m : Record) (r : Request) (t : Tables) → Judged m r t → Amounts m r
judged_amounts m r t judged = amounts m r (shape_memory m t (not-false (shape_right m t) judged.shape)) judged.amounts

-- ---- one place
module _ (m : Record) (t : Tables) (p : ℕ) where
  not_both : FreeOrdinary m t p → Taken m t p → ⊥
  not_both v = ⊎_elim (λ n. n v.is_free) (λ w. v.is_ordinary w.0 w.1)

  taken : p < m.memory.frames → free_ordinary m t (place p) ≡ false → Taken m t p
  taken h e =
      by_cases (is_free t (place p))
      (λ free.
      by_cases (in_areas m.areas m.memory.declared (frame_at m (place p))) (λ y. inr ((in_areas_lem m t p).fact y))
      (λ n.
      absurd
      (says_no (free_ordinary_lem m t p h) e
      (record { in_memory = h; is_free = eqb-true (kind_at t p) 0 free; is_ordinary = λ i w. says_no (in_areas_lem m t p) n (i, w) }))))
      (λ used. inl (eqb-false (kind_at t p) 0 used))

-- ---- the range of the size asked that begins at a byte, on a page, and lies in memory
module _
    (m : Record) (r : Request) (t : Tables) (size : size_for m r ≡ size_for m r / page_bytes * page_bytes)
    (at : ℕ) (pages : at ≡ at / page_bytes * page_bytes) (low : m.memory.base.0 * 4096 ≤ at)
    (high : at + size_for m r ≤ (m.memory.base.0 + m.memory.frames) * 4096) where
  abbrev all : Bool
  all = is_vacant m t (area_from m r at)

  each_vacant : all ≡ true → (p : ℕ) → InRange m r at p → FreeOrdinary m t p
  unfolding is_vacant
  each_vacant v p w =
      (free_ordinary_lem m t p (omega (arith, w.high))).fact
      (every_all (λ q. free_ordinary m t (place q)) (place_of m (area_from m r at).base).0 (area_from m r at).count v p (omega (arith, w.low))
      (omega (arith, w.high)))

  one_taken : all ≡ false → (p : ℕ) × InRange m r at p × Taken m t p
  unfolding is_vacant
  one_taken n =
      let w = every_no (λ q. free_ordinary m t (place q)) (place_of m (area_from m r at).base).0 (area_from m r at).count n in (
        w.at,
        record { low = omega (arith, w.low); high = omega (arith, w.high) },
        taken m t w.at (omega (arith, w.high)) (not_flips (free_ordinary m t (place w.at)) w.hit),
      )

  pub range_vacant : Says all ((p : ℕ) → InRange m r at p → FreeOrdinary m t p)
  range_vacant =
      record {
        fact = each_vacant;
        test = λ v. by_cases all (λ e. e) (λ n. let w = one_taken n in absurd (not_both m t w.0 (v w.0 w.1) w.2));
      }

  pub range_taken : Says (not all) ((p : ℕ) × InRange m r at p × Taken m t p)
  range_taken =
      record {
        fact = λ e. one_taken (not-true all e);
        test = λ w. ap not (says_false range_vacant (λ v. not_both m t w.0 (v w.0 w.1) w.2));
      }
