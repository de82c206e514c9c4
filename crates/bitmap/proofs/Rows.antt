-- Rows of clear bits, as the two steps of the search find them. Assumes nothing.
--     Rows, rows_start, rows_end    what holds at the head of the loop over them: none that begins before `from` is longer than that found
--     Turned, rows_turn             a turn of it
--     gap_high                      the bits that a turn passes are among those left
use Prim.Native.Nat.{ℕ, ◌+◌, ◌-◌, ◌%◌, ◌^◌, ◌≤◌, ◌<◌, max}
use native.Mathlib.Omega.{arith}
use mathlib.Core.Path.{◌≡◌, refl, ap, ◌∙◌}
use mathlib.Core.Bool.{Bool, true, false, not}
use mathlib.Core.List.{List}
use Rattle.search.specs.Search.{lowest, every, stretch, longest}
use Rattle.search.proofs.Bools.{by_cases, below_or_not, clash, not_flips}
use Rattle.search.proofs.Lowest.{found_passes, found_low, lowest_le}
use Rattle.search.proofs.Longest.{Reached, reach_start, reach_turn, reach_end}
use Rattle.bitmap.specs.Bits.{is_clear, is_start, opens}
use Rattle.bitmap.proofs.Promises.{clear_run_opens, set_bit_is_passed}
use Rattle.bitmap.proofs.Smears.{ones_set}

-- each bit is one at which a row may begin
abbrev ones : ℕ
ones = 2 ^ 64 - 1

each_starts : (j : ℕ) → is_start ones j ≡ true
unfolding is_start
each_starts j = ones_set (j % 64) (omega arith)

module _ (ws : List ℕ) (start count : ℕ) where
  abbrev pub Rows : ℕ → ℕ → Type 0
  Rows found from = Reached (is_clear ws start) 0 count found from

  pub rows_start : Rows 0 0
  rows_start = reach_start (is_clear ws start) 0 count

  pub rows_end : (found from : ℕ) → Rows found from → count - from ≤ found → found ≡ longest (is_clear ws start) 0 count
  rows_end found from s h = reach_end (is_clear ws start) 0 count found from s (omega arith)

  -- a turn that passes `gap` bits, and then a row of `clear` ones: it goes on by a bit at least
  pub record Turned (found from gap clear : ℕ) : Type 0 where
    pub on : 0 < gap + clear
    pub rows : Rows (max found clear) (from + gap + clear)

  -- `gap` bits come before the next at which a longer row could begin
  module _ (found from gap : ℕ) (g : gap ≡ lowest (λ k. opens ws start (found + 1) ones (from + k)) (count - from)) where
    abbrev opens_at : ℕ → Bool
    opens_at k = opens ws start (found + 1) ones (from + k)

    pub gap_high : gap ≤ count - from
    gap_high = rw g (lowest_le opens_at (count - from))

    passed : (j : ℕ) → from ≤ j → j < from + gap → every (is_clear ws start) j (found + 1) ≡ false
    passed j a b =
        let shut : opens_at (j - from) ≡ false = found_low opens_at (count - from) (j - from) (omega arith) in
        let here : from + (j - from) ≡ j = omega arith in
        by_cases (every (is_clear ws start) j (found + 1))
        (λ t. clash (opens_at (j - from)) (rw here (clear_run_opens ws start (found + 1) ones j (omega arith) (each_starts j) t)) shut) (λ f. f)

    -- and the row there has `clear` bits
    module _ (clear : ℕ) (c : clear ≡ lowest (λ k. not (is_clear ws start (from + gap + k))) (count - (from + gap))) where
      abbrev set_at : ℕ → Bool
      set_at k = not (is_clear ws start (from + gap + k))

      -- a bit that opens is clear
      opens_clear : gap < count - from → is_clear ws start (from + gap) ≡ true
      opens_clear h =
          by_cases (is_clear ws start (from + gap)) (λ t. t)
          (λ f.
          clash (opens_at gap) (rw g (found_passes opens_at (count - from) (omega arith)))
          (set_bit_is_passed ws start (found + 1) ones (from + gap) (from + gap) (omega arith) (omega arith) refl f))

      on : from < count → 0 < gap + clear
      on more =
          below_or_not 0 (gap + clear) (λ h. h)
          (λ h.
          let none : lowest set_at (count - (from + gap)) ≡ 0 = omega arith in
          let first : from + gap + 0 ≡ from + gap = omega arith in
          let set : set_at 0 ≡ true = rw none at (found_passes set_at (count - (from + gap)) (omega arith)) in
          clash (is_clear ws start (from + gap)) (opens_clear (omega arith)) (rw first at (not_flips (is_clear ws start (from + gap + 0)) set)))

      pub rows_turn : from < count → Rows found from → Turned found from gap clear
      unfolding stretch
      rows_turn more s =
          let high = gap_high in
          let left : count - (from + gap) ≡ 0 + count - (from + gap) = omega arith in
          record {
            on = on more;
            rows =
                reach_turn (is_clear ws start) 0 count found from s (from + gap) clear (omega arith) (omega arith) passed
                (c ∙ ap (stretch (is_clear ws start) (from + gap)) left);
          }
