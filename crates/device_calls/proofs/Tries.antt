-- A run that is tried at a bit: what its bits, and what its frames, rule out. Assumes nothing.
--     frames_free, frames_ruled    by the first frame that cannot leave
--     set_ruled, open_ruled, set_rules_out    by a set bit; up to the bit that the search of the words came to
--     clear_on, clear_both, all_clear, looked_at    what is known to be clear
use Prim.Native.Nat.{ℕ, ◌+◌, ◌-◌, ◌*◌, ◌/◌, ◌≤◌, ◌<◌, max}
use native.Mathlib.Omega.{arith}
use native.Mathlib.Nat.{add-mul, mul-le-mul_right, div-mul-le_self, le-div_iff_mul-le, one-mul}
use mathlib.Core.Path.{◌≡◌, ap, ◌∙◌}
use mathlib.Core.Bool.{Bool, true, false, not}
use lib.Pow.{pow_pos}
use Rattle.search.specs.Search.{lowest}
use Rattle.search.proofs.Bools.{by_cases, below_or_not, clash, not_flips}
use Rattle.search.proofs.Lowest.{found_passes, found_low, lowest_le}
use Rattle.search.proofs.Ranges.{all_every, every_miss}
use Rattle.bitmap.specs.Bits.{is_start, opens}
use Rattle.bitmap.proofs.Promises.{clear_run_opens}
use Rattle.frames.specs.declared.Bit.{Bit}
use Rattle.frames.specs.Units.{bit}
use Rattle.frames.specs.Marks.{can_leave}
use Rattle.frames.specs.Areas.{per_bit, frame_of_bit, bits_for}
use Rattle.frames.specs.Scans.{marked}
use Rattle.device_calls.specs.declared.runs.Search.{Search}
use Rattle.device_calls.specs.Steps.DeviceSteps.{TriesAt, ClearTo, ClearUpTo, SetIn, FramesRuledOut, BitsRuleOut, clear_at, is_clear_run, is_leaving_run}

-- ---- the frames
module _ (s : Search) (j : ℕ) where
  -- the place of a bit's first frame
  abbrev pub page : ℕ → ℕ
  page k = (frame_of_bit s.area (bit k)).0 - s.base.0

  abbrev leaves : ℕ → Bool
  leaves = marked can_leave s.marks.now

  abbrev pub stuck : ℕ
  stuck = lowest (λ k. not (leaves (page j + k))) s.count

  pub frames_free : s.count ≤ stuck → is_leaving_run s j ≡ true
  frames_free h =
      all_every leaves (page j) s.count
      (λ k low high.
      let here : k ≡ page j + (k - page j) = omega arith in
      ap leaves here ∙ not_flips (leaves (page j + (k - page j))) (found_low (λ i. not (leaves (page j + i))) s.count (k - page j) (omega arith)))

  -- a bit not after that of the stuck frame
  near : (k : ℕ) → j ≤ k → k < j + (stuck / per_bit s.area + 1) → (k - j) * per_bit s.area ≤ stuck
  near k low high =
      let fewer : k - j ≤ stuck / per_bit s.area = omega arith in
      let most : (k - j) * per_bit s.area ≤ stuck / per_bit s.area * per_bit s.area = mul-le-mul_right (per_bit s.area) fewer in
      omega (arith, div-mul-le_self stuck (per_bit s.area))

  -- the frames up to the stuck one rule out so many bits
  pub frames_ruled : s.bits ≡ bits_for s.area s.count → stuck < s.count → FramesRuledOut s j (stuck / per_bit s.area + 1)
  frames_ruled e h =
      let per = per_bit s.area in
      let positive : 0 < per = pow_pos s.area.order_per_bit in
      let whole : (stuck / per + 1) * per ≤ s.count + (per - 1) = omega (arith, add-mul (stuck / per) 1 per, one-mul per, div-mul-le_self stuck per) in
      record {
        some = omega arith;
        ruled_out =
            λ k low high.
            let apart : k * per ≡ j * per + (k - j) * per = ap (λ (x : ℕ). x * per) (let sum : k ≡ j + (k - j) = omega arith in sum) ∙ add-mul j (k - j) per in
            every_miss leaves (page k) s.count (page j + stuck) (omega (arith, near k low high)) (omega (arith, near k low high))
            (not_flips (leaves (page j + stuck)) (found_passes (λ i. not (leaves (page j + i))) s.count h));
        high = omega (arith, e, (le-div_iff_mul-le positive).1 whole);
      }

-- ---- the bits
module _ (s : Search) (j : ℕ) where
  abbrev open_at : ℕ → Bool
  open_at = opens s.bitmap.words.now s.bitmap.start s.bits s.starts

  -- where a run may begin and could not, its bits are not clear
  closed : (k : ℕ) → 0 < s.bits → is_start s.starts k ≡ true → open_at k ≡ false → is_clear_run s k ≡ false
  closed k some may e =
      by_cases (is_clear_run s k) (λ t. clash (open_at k) (clear_run_opens s.bitmap.words.now s.bitmap.start s.bits s.starts k some may t) e) (λ f. f)

  -- a run over a set bit
  pub set_ruled : (set : ℕ) → SetIn s j set → (k : ℕ) → j ≤ k → k ≤ set → is_clear_run s k ≡ false
  set_ruled set i k low high = every_miss (clear_at s) k s.bits set high (omega (arith, i.high)) i.is_set

  -- and one that begins before the next bit at which one could
  pub open_ruled : (set count passed : ℕ) → SetIn s j set → passed ≡ lowest (λ k. open_at (set + 1 + k)) count → (k : ℕ) → j ≤ k → k < set + 1 + passed → is_start s.starts k ≡ true → is_clear_run s k ≡ false
  open_ruled set count passed i e k low high may =
      below_or_not k (set + 1) (λ l. set_ruled set i k low (omega arith))
      (λ l.
      let here : k ≡ set + 1 + (k - (set + 1)) = omega arith in
      closed k (omega (arith, i.low, i.high)) may (ap open_at here ∙ found_low (λ n. open_at (set + 1 + n)) count (k - (set + 1)) (omega arith)))

  -- what was clear is, further on
  pub clear_on : (end next : ℕ) → j ≤ next → ClearTo s j end → ClearTo s next end
  clear_on end next h c = record { high = c.high; clear = λ k low high. c.clear k (omega arith) high }

  -- what is known to be clear, and what was found clear behind it
  pub clear_both : (known from end r : ℕ) → ClearTo s j known → from ≡ max j known → ClearUpTo s from end r → j ≤ s.last + s.bits → ClearTo s j r
  clear_both known from end r c f u h =
      record {
        high = omega (arith, u.high, c.high);
        clear = λ k low high. below_or_not k known (λ l. c.clear k low l) (λ l. u.clear k (omega arith) high);
      }

  pub all_clear : (r : ℕ) → ClearTo s j r → j + s.bits ≤ r → is_clear_run s j ≡ true
  all_clear r c h = all_every (clear_at s) j s.bits (λ k low high. c.clear k low (omega arith))

-- ---- a look that begins at a bit
pub looked_at : (s : Search) (from end count r : ℕ) → from < end → end ≤ from + count → from + count ≤ s.last + s.bits → r ≡ lowest (λ k. not (clear_at s (from + k))) count → ClearUpTo s from end (from + r)
looked_at s from end count r some reach high e =
    let p : ℕ → Bool = λ k. not (clear_at s (from + k)) in
    record {
      low = omega arith;
      high = omega (arith, lowest_le p count);
      clear = λ k a b.
          let here : k ≡ from + (k - from) = omega arith in
          ap (clear_at s) here ∙ not_flips (clear_at s (from + (k - from))) (found_low p count (k - from) (omega arith));
      stops = λ l. not_flips (clear_at s (from + r)) (ap p e ∙ found_passes p count (omega arith));
    }

-- ---- what a set bit rules out by itself
pub set_rules_out : (s : Search) (j : Bit) (set : ℕ) → TriesAt s j → SetIn s j.0 set → BitsRuleOut s j.0 (set + 1 - j.0)
set_rules_out s j set t i =
    record {
      some = omega (arith, i.low);
      ruled_out = λ k low high may. set_ruled s j.0 set i k low (omega (arith, i.low));
      high = omega (arith, i.high, t.room, t.last_high);
    }
