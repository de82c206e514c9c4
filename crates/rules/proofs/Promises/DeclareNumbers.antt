-- The conditions of declare's numbers. Assumes nothing.
use Rattle.std.proofs.Common.{◌≡◌, ℕ, ◌+◌, ◌*◌, ◌^◌, ◌<◌, ◌≤◌, Bool, not, ◌&&◌, eqb, ltb, leb, ◌≢◌, ◌⊎◌, ◌↔◌, length, sym, refl, ap, subst, inl, inr, ⊎_elim, add-mul, arith, pow_mono, le-leb, leb-true}
use Rattle.std.specs.Prelude.{if◌then◌else◌}
use Rattle.search.proofs.Bools.{below_or_not}
use Rattle.frames.specs.Areas.{ceiling, word_count}
use Rattle.frames.specs.Tables.{Tables}
use Rattle.regions.specs.Amounts.{is_power_of_two}
use Rattle.rules.specs.declared.Request.{Request}
use Rattle.rules.specs.declared.Record.{Record}
use Rattle.rules.specs.Outcomes.{Outcome}
use Rattle.rules.specs.Shape.{words_needed}
use Rattle.rules.specs.Declare.{bad_request, alignment_for, base_for, size_for, is_fixed, limit_rounded, limit_vanishes, limit_for, end_for, above_limit, start_byte, end_byte, area_from, area_for, is_vacant, is_outside, first_multiple, multiples, highest_fit, start_for, declare_checks, declare}
use Rattle.rules.specs.Promises.Declares.{AtBase, RangeAboveLimit, RangeOutside, RangeTaken, NoPlace}
use Rattle.rules.specs.Promises.Numbers.{BadAmounts, SmallLimit, ShortBitmap, DeclareRefusal}
use Rattle.rules.proofs.Divisions.{rounds_to_none}
use Rattle.rules.proofs.Rounding.{Amounts, amounts, alignment_some, limit_high, limit_given, limit_keeps}
use Rattle.rules.proofs.Says.{Says, says_is, says_false, says_yes, says_ltb, says_leb, says_eqb, says_not, says_and, says_or, says_right, says_some}
use Rattle.rules.proofs.ShapeFacts.{shape_memory}
use Rattle.rules.proofs.Promises.HighestPlace.{found_highest, none_allowed}
use Rattle.rules.proofs.Promises.Ladder.{Ladder, rung, foot, exactly}
use Rattle.rules.proofs.Promises.Places.{at_base, anywhere, range_taken}
use Rattle.rules.proofs.Promises.Shapes.{shape_says, wrong_shape}

-- ---- the amounts
power_says : (x : ℕ) → x ≤ 2 ^ 48 → Says (is_power_of_two x) ((k : ℕ) × (x ≡ 2 ^ k))
unfolding is_power_of_two
power_says x most =
    says_is (λ w. (w.0, w.3)) (λ w. (w.0, omega arith, below w.0 w.1, w.1))
    (says_some (λ k. eqb x (2 ^ k)) (λ k. x ≡ 2 ^ k) 0 64 (λ k. says_eqb x (2 ^ k)))
  where
    below : (k : ℕ) → x ≡ 2 ^ k → k < 0 + 64
    below k is =
        below_or_not k 64 (λ h. omega arith)
        (λ h. let large : 2 ^ 64 ≤ 2 ^ k = pow_mono {i = 64} {j = k} h in absurd (omega arith))

bad_amounts : (r : Request) → Says (bad_request r) (BadAmounts r)
bad_amounts r =
    says_right
    (says_right
    (says_right
    (says_right
    (says_or
    (says_or
    (says_or
    (says_or (says_or (says_ltb (2 ^ 48) r.base) (λ _. says_ltb (2 ^ 48) r.size)) (λ _. says_ltb (2 ^ 48) r.limit))
    (λ _. says_ltb (2 ^ 48) r.alignment))
    (λ _. says_eqb r.size 0))
    (λ none.
    says_not
    (says_or (says_eqb r.alignment 0)
    (λ _. power_says r.alignment (below_or_not (2 ^ 48) r.alignment (λ h. absurd (none (inl (inr h)))) (λ h. h)))))))))

module _ (m : Record) (r : Request) (t : Tables) where
  below_alignment : Says (eqb (limit_rounded m r) 0) (r.limit < alignment_for m r)
  below_alignment = rw (rounds_to_none r.limit (alignment_for m r) (alignment_some m r)) (says_ltb r.limit (alignment_for m r))

  small_limit : Says (limit_vanishes m r) (SmallLimit m r)
  unfolding alignment_for
  small_limit =
      says_is (λ w. (w.0, below_or_not r.limit r.alignment inl (λ h. inr (omega (arith, w.1)))))
      (λ w. (w.0, ⊎_elim (λ l. omega arith) (λ l. omega arith) w.1))
      (says_and (says_not (says_eqb r.limit 0)) (λ _. below_alignment))

  -- ---- a fixed range and the limit
  abbrev range_end : ℕ
  range_end = end_for m r

  -- it ends at a multiple of the alignment
  end_multiple : range_end ≡ (ceiling r.base (alignment_for m r) + ceiling r.size (alignment_for m r)) * alignment_for m r
  unfolding base_for size_for
  end_multiple = sym (add-mul (ceiling r.base (alignment_for m r)) (ceiling r.size (alignment_for m r)) (alignment_for m r))

  end_kept : range_end ≤ r.limit → range_end ≤ end_byte m → range_end ≤ limit_for m r
  end_kept given inside = rw end_multiple (limit_keeps m r _ (rw end_multiple at given) (rw end_multiple at inside))

  -- the limit is not small, if given
  module _ (large : SmallLimit m r → ⊥) where
    end_above : r.limit ≢ 0 → Says (ltb (limit_for m r) range_end) ((r.limit < range_end) ⊎ (end_byte m < range_end))
    end_above given =
        says_is (λ l. below_or_not r.limit range_end inl (λ h. below_or_not (end_byte m) range_end inr (λ k. absurd (omega (arith, end_kept h k)))))
        (⊎_elim (λ l. omega (arith, limit_given m r given (says_false small_limit large))) (λ l. omega (arith, limit_high m r)))
        (says_ltb (limit_for m r) range_end)

    above_limit_lem : Says (above_limit m r) (AtBase m r × RangeAboveLimit m r)
    above_limit_lem =
        says_is (λ w. (w.0.0, (w.0.1, w.1))) (λ w. ((w.0, w.1.0), w.1.1))
        (says_and (says_and (at_base m r) (λ _. says_not (says_eqb r.limit 0))) (λ w. end_above w.1))

  short_bitmap : Says (ltb (length t.bitmap) (words_needed m + word_count (area_for m r t))) (ShortBitmap m r t)
  short_bitmap = says_ltb _ _

  -- ---- a fixed range
  range_outside : Says (is_fixed m r && is_outside m r) (AtBase m r × RangeOutside m r)
  range_outside =
      says_and (at_base m r) (λ _. says_or (says_ltb (base_for m r) (start_byte m)) (λ _. says_ltb (end_byte m) (base_for m r + size_for m r)))

  -- one that lies in memory, of a request whose amounts are allowed
  base_taken : Amounts m r → (RangeOutside m r → ⊥) → Says (not (is_vacant m t (area_from m r (base_for m r)))) (RangeTaken m r t)
  base_taken rounded inside =
      range_taken m r t rounded.size_pages (base_for m r) rounded.base_pages
      (below_or_not (base_for m r) (m.memory.base.0 * 4096) (λ h. absurd (inside (inl h))) (λ h. h))
      (below_or_not ((m.memory.base.0 + m.memory.frames) * 4096) (base_for m r + size_for m r) (λ h. absurd (inside (inr h))) (λ h. h))

  not_vacant :
      Amounts m r → (AtBase m r × RangeOutside m r → ⊥) →
      Says (is_fixed m r && not (is_vacant m t (area_for m r t))) (AtBase m r × RangeTaken m r t)
  not_vacant rounded inside =
      says_and (at_base m r)
      (λ is.
      let at : start_for m r t ≡ base_for m r =
      ap (λ (b : Bool). if b then base_for m r else highest_fit m r t * alignment_for m r) ((at_base m r).test is)
      in
      subst (λ (x : ℕ). Says (not (is_vacant m t (area_from m r x))) (RangeTaken m r t)) (sym at) (base_taken rounded (λ out. inside (is, out))))

  -- ---- the highest place, of a request whose amounts are allowed
  highest_says : Amounts m r → Says (leb (first_multiple m r + multiples m r) (highest_fit m r t)) (NoPlace m r t)
  unfolding highest_fit
  highest_says rounded =
      record {
        fact = λ e. none_allowed m r t rounded (leb-true _ _ e);
        test = λ none. le-leb _ _ (below_or_not _ _ (λ h. absurd (none _ (found_highest m r t rounded h).allowed)) (λ h. h));
      }

declare_numbers :
    (m : Record) (r : Request) (t : Tables) {o : Outcome} →
    o.answer.refusal ≡ 0 → Ladder m t o (declare_checks m r t) (DeclareRefusal r m t)
declare_numbers m r t done =
    rung (wrong_shape m t)
    (λ shape.
    rung (says_leb 64 m.memory.declared)
    (λ room.
    rung (bad_amounts r)
    (λ good.
    rung (says_ltb m.memory.block_order r.order_per_bit)
    (λ order.
    rung (small_limit m r t)
    (λ limit.
    rung (above_limit_lem m r t limit)
    (λ _.
    rung (short_bitmap m r t)
    (λ words.
    let rounded = amounts m r (shape_memory m t (says_yes (shape_says m t) shape)) (says_false (bad_amounts r) good) in
    rung (range_outside m r t)
    (λ inside.
    rung (not_vacant m r t rounded inside)
    (λ _. rung (says_and (anywhere m r) (λ _. highest_says m r t rounded)) (λ _. foot done))))))))))

pub declare_exactly : (m : Record) (r : Request) (t : Tables) (n : ℕ) → ((declare m r t).answer.refusal ≡ n) ↔ DeclareRefusal r m t n
unfolding declare
declare_exactly m r t = exactly (declare_numbers m r t refl)
