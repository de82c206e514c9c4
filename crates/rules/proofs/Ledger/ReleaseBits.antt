-- The bits of a released grant: none of their frames is granted then, and they are clear. Assumes nothing.
--     spare           a frame that shares a bit with the run is no other grant's
--     freed_bits      the bitmap is sound after the release
use Rattle.std.proofs.Common.{◌≡◌, ℕ, suc, ◌+◌, ◌-◌, ◌*◌, ◌/◌, ◌%◌, ◌<◌, ◌≤◌, true, false, sym, ap, ◌∙◌, subst, mul-le-mul_right, suc-mul, lt_of_mul-lt-mul_right, div-add-mod', arith, eqb-true}
use Rattle.search.proofs.Bools.{by_cases}
use Rattle.search.proofs.Ranges.{none_some}
use Rattle.bitmap.specs.Bits.{clear_in, clear_bits}
use Rattle.frames.specs.declared.Area.{Area}
use Rattle.frames.specs.declared.Frame.{Frame}
use Rattle.frames.specs.Units.{place, bit}
use Rattle.frames.specs.Marks.{is_granted}
use Rattle.frames.specs.Areas.{is_multiple, end_of, per_bit, bit_count, bit_of_frame, bits_for}
use Rattle.frames.specs.Tables.{Tables, mark_at}
use Rattle.rules.specs.declared.Record.{Record}
use Rattle.rules.specs.Record.{area_at, place_of, frame_at}
use Rattle.rules.specs.DeviceCalls.{place_of_bit, bitmap_of}
use Rattle.rules.specs.Ledger.Ledger.{Grant, Ledger, grant_of, is_among, without}
use Rattle.rules.specs.Steps.Invariant.{GrantInArea, has_granted, BitsSound, Sound}
use Rattle.rules.proofs.AreaRight.{AreaFacts, area_facts}
use Rattle.rules.proofs.Ledger.FrameRuns.{RunChange, in_run_or_not}
use Rattle.rules.proofs.Ledger.Grants.{takes_low, takes_high, low_takes, among_at, TakenBy, at_among, without_among}
use Rattle.bitmap.proofs.Word.{clearing}
use Rattle.rules.proofs.Ledger.BitRuns.{run_fits, bit_inside, place_inside, one_area, first_in_run}
use Rattle.rules.proofs.Ledger.BitsSound.{bits_run}
use Rattle.rules.proofs.Ledger.ReleasedGrant.{Releasable, OneGrant, granted_once}

module _ (m : Record) (t : Tables) (l : Ledger) (s : Sound m t l) (i : ℕ) (f : Frame) (count : ℕ) (ok : Releasable m t i f count) (its : OneGrant m t l f count) where
  abbrev r : ℕ
  r = (place_of m f).0

  abbrev g : Grant
  g = grant_of f count

  abbrev a : Area
  a = area_at m i

  abbrev j : ℕ
  j = (bit_of_frame a f).0

  area : AreaFacts m a
  area = area_facts m t s.shape i ok.declared

  on_bit : f.0 ≡ a.base.0 + j * per_bit a
  on_bit =
      let none = eqb-true ((f.0 - a.base.0) % per_bit a) 0 ok.on_bit in
      let parts = div-add-mod' (f.0 - a.base.0) (per_bit a) in
      let above = ok.above in
      omega arith

  ends : a.base.0 + j * per_bit a + count ≤ end_of a
  ends = let below = ok.below in let at = on_bit in omega arith

  fits : j + bits_for a count ≤ bit_count a
  fits = let e = ends in run_fits m a area j count (omega arith)

  abbrev bit_place : ℕ → ℕ
  bit_place k = (place_of_bit m i (bit k)).0

  same_place : r ≡ bit_place j
  same_place = ap (λ (x : ℕ). x - m.memory.base.0) on_bit

  -- a frame of one of the run's bits is no other live grant's: such a grant would have the bit's first frame too, which is the run's
  module _ (k : ℕ) (after_first : j ≤ k) (before_last : k < j + bits_for a count) (q : ℕ) (at_least_lem : bit_place k ≤ q) (at_most : q < bit_place k + per_bit a) where
    bit_frames : k * per_bit a + per_bit a ≤ a.count
    bit_frames = let inside = fits in bit_inside a k (omega arith)

    shared :
        (h : Grant) →
        h.first.0 ≤ m.memory.base.0 + q →
        m.memory.base.0 + q < h.first.0 + h.count →
        a.base.0 ≤ h.first.0 → is_multiple (h.first.0 - a.base.0) (per_bit a) ≡ true → is_among (without l.grants g) h ≡ true → ⊥
    shared h from to above multiple other =
        let low = area.low in
        let n = (h.first.0 - a.base.0) / per_bit a in
        let exact = eqb-true ((h.first.0 - a.base.0) % per_bit a) 0 multiple in
        let parts = div-add-mod' (h.first.0 - a.base.0) (per_bit a) in
        let next = suc-mul k (per_bit a) in
        let before : n < suc k = lt_of_mul-lt-mul_right (per_bit a) {m = n} {n = suc k} (omega arith) in
        let under : n * per_bit a ≤ k * per_bit a = mul-le-mul_right {m = n} {n = k} (per_bit a) (omega arith) in
        let begins = first_in_run a j count ok.some k before_last in
        let not_before : j * per_bit a ≤ k * per_bit a = mul-le-mul_right {m = j} {n = k} (per_bit a) after_first in
        let at = on_bit in
        let none = its.alone (bit_place k) (omega arith) (omega arith) in
        let some = among_at (without l.grants g) h (frame_at m (place (bit_place k))) other (low_takes h (frame_at m (place (bit_place k))) (omega arith) (omega arith)) in
        omega arith

    -- the other grant lies in the same area
    in_same_area :
        (h : Grant) →
        h.first.0 ≤ m.memory.base.0 + q → m.memory.base.0 + q < h.first.0 + h.count → GrantInArea m h → is_among (without l.grants g) h ≡ true → ⊥
    in_same_area h from to home other =
        let low = area.low in
        let frames = bit_frames in
        let home_low = home.low in
        let home_high = home.high in
        let same : home.area ≡ i =
        sym (one_area m t s.shape i home.area (m.memory.base.0 + q) ok.declared home.declared (omega arith) (omega arith) (omega arith) (omega arith))
        in
        shared h from to (subst (λ (z : ℕ). (area_at m z).base.0 ≤ h.first.0) same home_low)
        (subst (λ (z : ℕ). is_multiple (h.first.0 - (area_at m z).base.0) (per_bit (area_at m z)) ≡ true) same home.on_bit) other

    taken_by_other : TakenBy (without l.grants g) (frame_at m (place q)) → ⊥
    taken_by_other w =
        in_same_area w.by (takes_low w.by (frame_at m (place q)) w.taken) (takes_high w.by (frame_at m (place q)) w.taken)
        (s.grants w.by (without_among l.grants g w.by w.among)).in_area w.among

    spare : (r ≤ q → q < r + count → ⊥) → is_granted (mark_at t (place q)) ≡ true → ⊥
    spare out e =
        let inside = fits in
        let once = granted_once m t l s q (place_inside m t s.shape i k q ok.declared (omega arith) at_most) e in
        let split = its.parted q in
        let none = its.outside q out in
        taken_by_other (at_among (without l.grants g) (frame_at m (place q)) (omega arith))

  module _ (t' : Tables) (run : RunChange t t' r count) (emptied : (q : ℕ) → r ≤ q → q < r + count → mark_at t' (place q) ≡ 0) where
    none_left : (k : ℕ) → j ≤ k → k < j + bits_for a count → has_granted m t' i k ≡ false
    none_left k u v =
        none_some (λ p. is_granted (mark_at t' (place p))) (bit_place k) (per_bit a)
        (λ q b₁ b₂.
        in_run_or_not q r count (λ c d. ap is_granted (emptied q c d))
        (λ out.
        ap is_granted (run.marks q out) ∙
        by_cases (is_granted (mark_at t (place q))) (λ e. absurd (spare k u v q b₁ b₂ out e)) (λ e. e)))

    pub freed_bits : t'.bitmap ≡ clear_bits t.bitmap (bitmap_of m i) j (bits_for a count) → BitsSound m t'
    freed_bits bitmap =
        bits_run m t t' s.shape i j count ok.declared fits ends clear_in 0 clearing bitmap
        (λ q out. run.marks q (λ c d. out (omega (arith, same_place)) (omega (arith, same_place)))) none_left s.bits
