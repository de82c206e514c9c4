-- The search for the lowest bit at which a run can be granted. Assumes nothing.
--     some_bits           some frames take some bits
--     Looking             what holds at the head of the loop: the bit is aligned, and none below it will do
--     look_hit, look_skip, look_end, look_none
--     run_found, run_none    what it finds is what the rules choose; there is none
use Prim.Native.Nat.{ℕ, ◌+◌, ◌-◌, ◌*◌, ◌≤◌, ◌<◌}
use native.Mathlib.Omega.{arith}
use native.Mathlib.Nat.{add-mul, one-mul, div-mul-le_self}
use mathlib.Core.Path.{◌≡◌, refl, sym, ap, ap₂, subst, ◌∙◌}
use mathlib.Core.Bool.{Bool, true, false, ◌&&◌}
use mathlib.Core.List.{List}
use lib.Dec.{leb, ltb}
use Rattle.std.specs.Prelude.{Option, Some, None, if◌then◌else◌}
use lib.Pow.{pow_pos}
use borrow.Author.Tests.{le-leb, lt-leb, lt-ltb, le-ltb}
use Rattle.search.specs.Search.{lowest, every}
use Rattle.search.proofs.Bools.{by_cases, below_or_not}
use Rattle.search.proofs.Lowest.{found_is, found_none}
use Rattle.bitmap.specs.Bits.{is_clear}
use Rattle.frames.specs.declared.Area.{Area}
use Rattle.frames.specs.declared.Bit.{Bit}
use Rattle.frames.specs.declared.Frame.{Frame}
use Rattle.frames.specs.Units.{bit}
use Rattle.frames.specs.Marks.{can_leave}
use Rattle.frames.specs.Areas.{per_bit, ceiling, bit_count, bits_for, frame_of_bit}
use Rattle.frames.specs.Scans.{marked}
use Rattle.frames.specs.Tables.{Tables}
use Rattle.rules.specs.declared.Record.{Record}
use Rattle.rules.specs.Record.{area_at}
use Rattle.rules.specs.DeviceCalls.{bitmap_of, is_candidate, is_grantable, chosen}
use Rattle.rules.proofs.Divisions.{ceiling_some}
use Rattle.device_calls.specs.Steps.DeviceSteps.{is_aligned, run_for}
use Rattle.device_calls.proofs.Alignment.{Steps, aligned_times, aligned_between}

-- four tests in a row
first_fails : (a l c v : Bool) → a ≡ false → (a && l && c && v) ≡ false
first_fails a l c v e = rw e

second_fails : (a l c v : Bool) → l ≡ false → (a && l && c && v) ≡ false
second_fails true l c v e = rw e
second_fails false l c v e = refl

last_two : (a l c v : Bool) → a ≡ true → l ≡ true → (a && l && c && v) ≡ (c && v)
last_two a l c v e f = rw (e, f)

-- some frames take some bits
pub some_bits : (a : Area) (count : ℕ) → 0 < count → 0 < bits_for a count
some_bits a count h = ceiling_some count (per_bit a) (pow_pos a.order_per_bit) h

-- of an area, and its bitmap's first word
module _ (marks bitmap : List ℕ) (base : Frame) (a : Area) (start count align : ℕ) where
  -- a run can be granted at a bit
  abbrev test : ℕ → Bool
  test j =
      is_aligned a align j && leb (j + bits_for a count) (bit_count a) && every (is_clear bitmap start) j (bits_for a count) &&
      every (marked can_leave marks) ((frame_of_bit a (bit j)).0 - base.0) count

  abbrev all : ℕ
  all = bit_count a

  abbrev bits : ℕ
  bits = bits_for a count

  abbrev found : Bit
  found = bit (lowest test all)

  out_of_room : (j : ℕ) → all < j + bits → test j ≡ false
  out_of_room j h = second_fails (is_aligned a align j) _ _ _ (lt-leb (j + bits) all h)

  not_aligned : (j : ℕ) → is_aligned a align j ≡ false → test j ≡ false
  not_aligned j e = first_fails (is_aligned a align j) _ _ _ e

  here_is : (j : ℕ) → is_aligned a align j ≡ true → j + bits ≤ all → test j ≡ (every (is_clear bitmap start) j bits && every (marked can_leave marks) ((frame_of_bit a (bit j)).0 - base.0) count)
  here_is j e h = last_two (is_aligned a align j) _ _ _ e (le-leb (j + bits) all h)

  -- the run is longer than the area
  pub look_none : all < bits → bit all ≡ found
  look_none h = ap bit (sym (found_none test all (λ k l. out_of_room k (omega arith))))

  pub record Looking (j : ℕ) : Type 0 where
    pub aligned : is_aligned a align j ≡ true
    pub none : (k : ℕ) → k < j → test k ≡ false

  module _ (n : ℕ) (e : n ≡ bits) where
    abbrev free : ℕ → Bool
    free j = every (is_clear bitmap start) j n && every (marked can_leave marks) ((frame_of_bit a (bit j)).0 - base.0) count

    free_is : (j : ℕ) → free j ≡ (every (is_clear bitmap start) j bits && every (marked can_leave marks) ((frame_of_bit a (bit j)).0 - base.0) count)
    free_is j = ap (λ (k : ℕ). every (is_clear bitmap start) j k && every (marked can_leave marks) ((frame_of_bit a (bit j)).0 - base.0) count) e

    pub look_hit : (j : ℕ) → 0 < count → Looking j → j + n ≤ all → free j ≡ true → bit j ≡ found
    look_hit j c l h f =
        let p : 0 < bits = some_bits a count c in
        ap bit (sym (found_is test all j (omega arith) (here_is j l.aligned (omega arith) ∙ sym (free_is j) ∙ f) l.none))

    -- the bits that were ruled out, and those from there on to the next aligned one
    pub look_skip : (s j passed : ℕ) → Steps a align s → Looking j → 0 < passed → ((k : ℕ) → j ≤ k → k < j + passed → is_aligned a align k ≡ true → free k ≡ false) → Looking (j + ceiling passed s * s)
    look_skip s j passed w l some ruled =
        record { aligned = aligned_times a align s j w l.aligned (ceiling passed s); none = λ k u. below_or_not k j (l.none k) (λ v. behind k v u) }
      where
        out : (k : ℕ) → j ≤ k → k < j + passed → test k ≡ false
        out k v u =
            by_cases (is_aligned a align k)
            (λ e. below_or_not all (k + bits) (out_of_room k) (λ room. here_is k e room ∙ sym (free_is k) ∙ ruled k v u e)) (not_aligned k)

        behind : (k : ℕ) → j ≤ k → k < j + ceiling passed s * s → test k ≡ false
        behind k v u =
            below_or_not k (j + passed) (out k v)
            (λ past.
            let steps : ceiling passed s ≡ (ceiling passed s - 1) + 1 = omega (arith, ceiling_some passed s w.positive some) in
            let apart : ceiling passed s * s ≡ (ceiling passed s - 1) * s + s = ap (λ (x : ℕ). x * s) steps ∙ add-mul (ceiling passed s - 1) 1 s ∙ ap (λ (x : ℕ). (ceiling passed s - 1) * s + x) (one-mul s) in
            let short = div-mul-le_self (passed + (s - 1)) s in
            not_aligned k
            (aligned_between a align s (j + (ceiling passed s - 1) * s) k w (aligned_times a align s j w l.aligned (ceiling passed s - 1)) (omega (arith, w.positive)) (omega arith)))

    pub look_end : (j : ℕ) → Looking j → all < j + n → bit all ≡ found
    look_end j l h =
        ap bit (sym (found_none test all (λ k u. below_or_not k j (λ v. l.none k v) (λ v. out_of_room k (omega arith)))))

-- what is found is what the rules choose
found_chosen : (m : Record) (t : Tables) (i count align : ℕ) {a : Area} {start : ℕ} {r : Bit} → a ≡ area_at m i → start ≡ bitmap_of m i →
    r ≡ found t.marks t.bitmap m.memory.base a start count align → chosen m t i count align ≡ r
unfolding chosen is_grantable is_candidate
found_chosen m t i count align e s f = sym (f ∙ ap₂ (λ (x : Area) (y : ℕ). found t.marks t.bitmap m.memory.base x y count align) e s)

-- which is below the area's bits, or is none
module _ (m : Record) (t : Tables) (i count align : ℕ) {a : Area} {start : ℕ} (e : a ≡ area_at m i) (s : start ≡ bitmap_of m i) {r : Bit} (f : r ≡ found t.marks t.bitmap m.memory.base a start count align) where
  abbrev run_at : Bit → Option Bit
  run_at j = if ltb j.0 (bit_count (area_at m i)) then Some j else None

  is_run : run_for m t i count align ≡ run_at r
  is_run = ap run_at (found_chosen m t i count align e s f)

  pub run_found : r.0 < bit_count a → Some r ≡ run_for m t i count align
  run_found h = sym (is_run ∙ rw (lt-ltb r.0 (bit_count (area_at m i)) (subst (λ (x : Area). r.0 < bit_count x) e h)))

  pub run_none : bit_count a ≤ r.0 → None ≡ run_for m t i count align
  run_none h = sym (is_run ∙ rw (le-ltb r.0 (bit_count (area_at m i)) (subst (λ (x : Area). bit_count x ≤ r.0) e h)))
