-- What a declaration comes to, from what its tests found. Assumes nothing.
--     next_is                            the next multiple, as the library has it
--     amounts_fit                        the amounts of a request that is not bad, rounded
--     planned-..                         the list of checks
--     plan_alike, place_alike            a plan goes by what the marks read, and by the bitmap's length
--     plan_full, .. plan_roomy           the checks in turn
--     fixed-..                           the cases of a fixed area
--     Searching                          the search from the top: what does not end at or below `high` does not fit
--     Tried, trying                      the next place to try
--     tried-..                           what a scan of that place says of the search; tried_all: there is none
use Prim.Native.Nat.{ℕ, suc, ◌+◌, ◌-◌, ◌*◌, ◌/◌, ◌%◌, ◌^◌, ◌≤◌, ◌<◌, max}
use native.Mathlib.Omega.{arith}
use native.Mathlib.Nat.{le_refl, mul_comm, div-add-mod, mod-lt, mod-eq_of_lt, mod_self, mul_assoc, mul-div_cancel, mul-le-mul_right, le-div_iff_mul-le, div-mul-le_self}
use mathlib.Core.Bool.{Bool, true, false, not, ◌&&◌, ◌||◌, true≢false}
use mathlib.Core.List.{List, [], ◌∷◌}
use mathlib.Core.Path.{◌≡◌, refl, sym, ap, ap₂, subst, ◌∙◌}
use lib.Dec.{leb, ltb, eqb}
use lib.ListN.{length}
use borrow.Author.Tests.{lt-ltb, le-ltb, le-leb, lt-leb, ltb-false}
use Rattle.std.specs.Int.{next_multiple_of}
use Rattle.std.specs.Prelude.{Option, Some, None, is_some, Result, Ok, Err, if◌then◌else◌}
use Rattle.search.specs.Search.{highest_from}
use Rattle.search.proofs.Bools.{below_or_not, and_both, and_left_false, and_right_false, or_left}
use Rattle.search.proofs.Ranges.{every_cong}
use Rattle.search.proofs.Highest.{highest_greatest, greatest_unique}
use Rattle.frames.specs.declared.Area.{Area}
use Rattle.frames.specs.declared.Frame.{Frame}
use Rattle.frames.specs.Units.{frame, place}
use Rattle.frames.specs.Marks.{has_kind, free}
use Rattle.frames.specs.Areas.{ceiling, word_count}
use Rattle.frames.specs.Tables.{Tables, mark_at}
use Rattle.frames.specs.Scans.{is_free_ordinary}
use Rattle.text.specs.Numbers.{most_bytes}
use Rattle.rules.specs.Limits.{page_bytes, most_areas, most_end}
use Rattle.rules.specs.declared.Record.{Record}
use Rattle.rules.specs.declared.Request.{Request}
use Rattle.rules.specs.Record.{place_of, is_ordinary}
use Rattle.rules.specs.Shape.{memory_right, words_needed}
use Rattle.rules.specs.Does.{record_in}
use Rattle.rules.specs.Outcomes.{Check}
use Rattle.rules.specs.PageCalls.{free_ordinary}
use Rattle.rules.specs.Declare.{bad_request, round_up, round_down, alignment_for, base_for, size_for, limit_vanishes, limit_for, above_limit, is_fixed, start_byte, end_byte, area_from, area_for, is_vacant, is_outside, first_multiple, multiples, fits_at, highest_fit}
use Rattle.rules.proofs.Divisions.{ceiling_le, le_ceiling, up_low}
use Rattle.rules.proofs.Rounding.{amounts, in_pages, alignment_some, limit_high}
use Rattle.rules.proofs.Shapes.{memory_known}
use Rattle.setup.specs.declared.amounts.Rounded.{Rounded}
use Rattle.setup.specs.declared.amounts.AllowedRequest.{AllowedRequest}
use Rattle.setup.specs.Steps.Held.{TakenFrom, Scanned}
use Rattle.setup.specs.Steps.Plan.{rounded_for, AmountsFit, plan_tables, planned, plan_after}

-- ---- the amounts
pub amounts_fit :
    (m : Record) (r : Request) →
    memory_right m.memory.base.0 m.memory.frames m.memory.block_order ≡ true → bad_request r ≡ false → AmountsFit (rounded_for m r)
amounts_fit m r memory good =
    let a = amounts m r memory good in
    record {
      some = alignment_some m r;
      alignment_pages = omega (arith, in_pages 1 (alignment_for m r) m.memory.block_order a.blocks);
      size_pages = a.size_pages;
      alignment_high = a.alignment_high;
      base_high = a.base_high;
      size_high = a.size_high;
      limit_high = omega (arith, limit_high m r, (memory_known _ _ _ memory).end_high);
    }

-- the alignment that is made of them
pub aligned :
    (m : Record) (r : Request) → memory_right m.memory.base.0 m.memory.frames m.memory.block_order ≡ true → bad_request r ≡ false →
    {a : ℕ} → a ≡ max r.alignment (page_bytes * 2 ^ m.memory.block_order) → (0 < a) × (a ≤ most_bytes)
unfolding alignment_for
aligned m r memory good e = (omega (arith, e, alignment_some m r), omega (arith, e, (amounts m r memory good).alignment_high))

-- so many times an amount of whole pages
whole : (c a : ℕ) → a ≡ a / page_bytes * page_bytes → c * a ≡ c * a / page_bytes * page_bytes
whole c a h =
    let k = a / page_bytes in
    let is : c * a ≡ c * k * page_bytes = ap (λ (y : ℕ). c * y) h ∙ sym (mul_assoc c k page_bytes) in
    let pages : c * a / page_bytes ≡ c * k = ap (λ (y : ℕ). y / page_bytes) is ∙ mul-div_cancel (c * k) {n = page_bytes} (omega arith) in
    is ∙ ap (λ (y : ℕ). y * page_bytes) (sym pages)

-- the next multiple of d at or above x
pub next_is : (x d : ℕ) → 0 < d → next_multiple_of x d ≡ round_up x d
next_is x d h =
    let q = x / d in
    let r = x % d in
    let is : x ≡ q * d + r = sym (ap (λ (k : ℕ). k + r) (mul_comm q d) ∙ div-add-mod x d) in
    let less : r < d = mod-lt x h in
    let low : x ≤ round_up x d = up_low x d h in
    below_or_not 0 r
    (λ some.
    let rest : (d - r) % d ≡ d - r = mod-eq_of_lt (omega arith) in
    let over : x ≤ suc q * d = omega arith in
    let high : round_up x d ≤ suc q * d = mul-le-mul_right d (ceiling_le x d (suc q) h over) in
    let more : q < ceiling x d = below_or_not q (ceiling x d) (λ l. l) (λ l. absurd (let k : round_up x d ≤ q * d = mul-le-mul_right d l in omega arith)) in
    let least : suc q * d ≤ round_up x d = mul-le-mul_right d more in
    omega (arith, rest))
    (λ none.
    let rest : (d - r) % d ≡ 0 = let z : d - r ≡ d = omega arith in ap (λ (k : ℕ). k % d) z ∙ mod_self d in
    let high : round_up x d ≤ q * d = mul-le-mul_right d (ceiling_le x d q h (omega arith)) in
    omega (arith, rest))

-- ---- the list of checks
module _ (c : Check) (cs : List Check) (a : Area) where
  planned_stop : c.holds ≡ true → planned (c ∷ cs) a ≡ Err c.number
  unfolding planned
  planned_stop e = rw e

  planned_pass : c.holds ≡ false → planned (c ∷ cs) a ≡ planned cs a
  unfolding planned
  planned_pass e = rw e

planned_end : (a : Area) → planned [] a ≡ Ok a
unfolding planned
planned_end a = refl

-- ---- marks that read the same
module _ (m : Record) (r : Request) (t u : Tables) (same : (q : ℕ) → mark_at t (place q) ≡ mark_at u (place q)) where
  vacant_alike : (a : Area) → is_vacant m t a ≡ is_vacant m u a
  unfolding is_vacant free_ordinary
  vacant_alike a =
      every_cong (λ q. free_ordinary m t (place q)) (λ q. free_ordinary m u (place q)) (place_of m a.base).0 a.count
      (λ q l h. ap (λ (k : ℕ). has_kind free k && is_ordinary m (place q)) (same q))

  fits_alike : (c : ℕ) → fits_at m r t c ≡ fits_at m r u c
  unfolding fits_at
  fits_alike c =
      ap (λ (b : Bool). leb (c * alignment_for m r + size_for m r) (limit_for m r) && b) (vacant_alike (area_from m r (c * alignment_for m r)))

  highest_alike : highest_fit m r t ≡ highest_fit m r u
  unfolding highest_fit
  highest_alike =
      let i = first_multiple m r in
      let d = multiples m r in
      let g = highest_greatest (fits_at m r u) i d in
      greatest_unique (fits_at m r t) i d _ _ (highest_greatest (fits_at m r t) i d)
      (record {
        low = g.low;
        high = g.high;
        hit = λ h. fits_alike _ ∙ g.hit h;
        miss = λ k a b. fits_alike k ∙ g.miss k a b;
        none = λ e k a b. fits_alike k ∙ g.none e k a b;
      })

  place_alike : plan_after 7 m r t ≡ plan_after 7 m r u
  place_alike = rw (highest_alike, vacant_alike (area_for m r u))

  pub plan_alike : length t.bitmap ≡ length u.bitmap → plan_after 1 m r t ≡ plan_after 1 m r u
  plan_alike e = rw (highest_alike, vacant_alike (area_for m r u), e)

-- ---- the checks in turn
module _ (m : Record) (r : Request) (t : Tables) where
  pub plan_full : most_areas ≤ m.memory.declared → Err 10 ≡ plan_after 1 m r t
  plan_full h = sym (planned_stop _ _ _ (le-leb most_areas m.memory.declared h))

  -- from what the code's tests found
  module _ (few : m.memory.declared < most_areas) {bad : Bool} (is : bad ≡ bad_request r) where
    room_left : leb most_areas m.memory.declared ≡ false
    room_left = lt-leb most_areas m.memory.declared few

    pub plan_bad : bad ≡ true → Err 2 ≡ plan_after 1 m r t
    plan_bad e = sym (planned_pass _ _ _ room_left ∙ planned_stop _ _ _ (sym is ∙ e))

    module _ (good : bad ≡ false) where
      pub plan_order : m.memory.block_order < r.order_per_bit → Err 11 ≡ plan_after 1 m r t
      plan_order h =
          sym
          (planned_pass _ _ _ room_left ∙
          planned_pass _ _ _ (sym is ∙ good) ∙ planned_stop _ _ _ (lt-ltb m.memory.block_order r.order_per_bit h))

      pub plan_on : {p : Result Area ℕ} → r.order_per_bit ≤ m.memory.block_order → p ≡ plan_after 4 m r t → p ≡ plan_after 1 m r t
      plan_on h e =
          e ∙
          sym
          (planned_pass _ _ _ room_left ∙
          planned_pass _ _ _ (sym is ∙ good) ∙ planned_pass _ _ _ (le-ltb m.memory.block_order r.order_per_bit h))

-- ---- a look at `count` frames from `first` on
abbrev pub ScannedIn : Record → Tables → ℕ → ℕ → Option Frame → Type 0
ScannedIn m t = Scanned m.memory.base t.marks m.areas m.memory.declared

module _ (m : Record) (t : Tables) (first count k : ℕ) where
  abbrev scanned_at : ℕ → Area
  scanned_at f = record { base = frame f; count = count; order_per_bit = k }

  scanned_free : ScannedIn m t first count None → is_vacant m t (scanned_at first) ≡ true
  unfolding is_vacant free_ordinary is_free_ordinary
  scanned_free is = is

  scanned_taken : {taken : Frame} → ScannedIn m t first count (Some taken) → (f : ℕ) → m.memory.base.0 ≤ f → f ≤ first → taken.0 < f + count → is_vacant m t (scanned_at f) ≡ false
  unfolding is_vacant free_ordinary is_free_ordinary
  scanned_taken is f a b h = is.fails f a b h

-- ---- the search from the top
pub record Searching (m : Record) (r : Request) (t : Tables) (high : ℕ) : Type 0 where
  pub below : high ≤ limit_for m r
  pub fails : (c : ℕ) → first_multiple m r ≤ c → high < c * alignment_for m r + size_for m r → fits_at m r t c ≡ false

-- the highest multiple that ends at or below `high`, and the frame where it begins
pub record Tried (m : Record) (r : Request) (high first : ℕ) : Type 0 where
  pub multiple : ℕ
  pub low : first_multiple m r ≤ multiple
  pub bytes : multiple * alignment_for m r ≡ first * page_bytes
  pub in_memory : m.memory.base.0 ≤ first
  pub ends : first * page_bytes + size_for m r ≤ high
  pub next : (c : ℕ) → c * alignment_for m r + size_for m r ≤ high → c ≤ multiple

-- the least byte that the area can begin at
abbrev least_for : Record → Request → ℕ
least_for m r = max (base_for m r) (start_byte m)

-- ---- of a request that is allowed
module _ (w : AllowedRequest) where
  abbrev m : Record
  m = record_in w.lent

  abbrev r : Request
  r = w.request

  abbrev x : Rounded
  x = w.rounded

  abbrev e : x ≡ rounded_for m r
  e = w.rounds

  abbrev fit : AmountsFit (rounded_for m r)
  fit = amounts_fit m r w.memory_value w.request_value

  base_is : x.base ≡ base_for m r
  base_is = ap (λ (y : Rounded). y.base) e

  size_is : x.size ≡ size_for m r
  size_is = ap (λ (y : Rounded). y.size) e

  limit_is : x.limit ≡ limit_for m r
  limit_is = ap (λ (y : Rounded). y.limit) e

  pub rounded_some : 0 < x.alignment
  rounded_some = rw e (alignment_some m r)

  pub rounded_fits : AmountsFit x
  rounded_fits = subst AmountsFit (sym e) fit

  pub memory_ends : w.lent.memory.base.0 + w.lent.memory.frames ≤ most_end
  memory_ends = (memory_known _ _ _ w.memory_value).end_high

  -- its checks, from what the code's tests found
  module _
      (t : Tables) {small fixed above short : Bool}
      (smalls : small ≡ (not (eqb r.limit 0) && eqb (round_down r.limit x.alignment) 0))
      (fixes : fixed ≡ (r.fixed && not (eqb x.base 0)))
      (aboves : above ≡ (fixed && not (eqb r.limit 0) && ltb x.limit (x.base + x.size)))
      (shorts : short ≡ ltb (length t.bitmap) (words_needed (m) + word_count (record { base = frame 0; count = x.size / page_bytes; order_per_bit = r.order_per_bit })))
    where
      -- the limit, as given, beside the alignment
      vanishes : small ≡ limit_vanishes m r
      vanishes = smalls ∙ ap (λ (y : Rounded). not (eqb r.limit 0) && eqb (round_down r.limit y.alignment) 0) e

      -- the end of a fixed range, beside the limit
      above_is : above ≡ above_limit m r
      above_is =
          aboves ∙ ap (λ (b : Bool). b && not (eqb r.limit 0) && ltb x.limit (x.base + x.size)) fixes ∙
          ap (λ (y : Rounded). r.fixed && not (eqb y.base 0) && not (eqb r.limit 0) && ltb y.limit (y.base + y.size)) e

      -- the area's size says how many words it takes
      lacks : short ≡ ltb (length t.bitmap) (words_needed m + word_count (area_for m r t))
      lacks =
          shorts ∙
          ap
          (λ (y : Rounded). ltb (length t.bitmap) (words_needed m + word_count (record { base = frame 0; count = y.size / page_bytes; order_per_bit = r.order_per_bit })))
          e

      pub plan_small : small ≡ true → Err 11 ≡ plan_after 4 m r t
      plan_small h = sym (planned_stop _ _ _ (sym vanishes ∙ h))

      module _ (whole_limit : small ≡ false) where
        pub plan_above : above ≡ true → Err 11 ≡ plan_after 4 m r t
        plan_above h = sym (planned_pass _ _ _ (sym vanishes ∙ whole_limit) ∙ planned_stop _ _ _ (sym above_is ∙ h))

        module _ (below : above ≡ false) where
          within : plan_after 4 m r t ≡ plan_after 6 m r t
          within = planned_pass _ _ _ (sym vanishes ∙ whole_limit) ∙ planned_pass _ _ _ (sym above_is ∙ below)

          pub plan_short : short ≡ true → Err 14 ≡ plan_after 4 m r t
          plan_short h = sym (within ∙ planned_stop _ _ _ (sym lacks ∙ h))

          -- where the area goes has nothing to do with the bitmap
          pub plan_roomy : {p : Result Area ℕ} → short ≡ false → p ≡ plan_after 7 m r (plan_tables t.marks []) → p ≡ plan_after 4 m r t
          plan_roomy h k = k ∙ place_alike m r (plan_tables t.marks []) t (λ q. refl) ∙ sym (within ∙ planned_pass _ _ _ (sym lacks ∙ h))

  -- ---- of the tables it is lent the marks alone
  module _ (marks : List ℕ) where
    abbrev t : Tables
    t = plan_tables marks []

    -- ---- fixed
    module _ (f : is_fixed m r ≡ true) where
      -- from what the code's test of the range gave
      module _
          {out : Bool} {start end : ℕ} (starts : start ≡ start_byte m) (ends : end ≡ end_byte m)
          (found : out ≡ (ltb x.base start || ltb end (x.base + x.size)))
        where
          tested : out ≡ (ltb x.base (start_byte m) || ltb (end_byte m) (x.base + x.size))
          tested = found ∙ ap₂ (λ (a b : ℕ). ltb x.base a || ltb b (x.base + x.size)) starts ends

          outside_is : out ≡ is_outside m r
          outside_is = tested ∙ ap (λ (y : Rounded). ltb y.base (start_byte m) || ltb (end_byte m) (y.base + y.size)) e

          pub fixed_outside : out ≡ true → Err 13 ≡ plan_after 7 m r t
          fixed_outside h = sym (planned_stop _ _ _ (and_both (is_fixed m r) (is_outside m r) f (sym outside_is ∙ h)))

          module _ (h : out ≡ false) where
            inside : (is_fixed m r && is_outside m r) ≡ false
            inside = and_right_false (is_fixed m r) (is_outside m r) (sym outside_is ∙ h)

            module _ {first : ℕ} (at : first ≡ x.base / page_bytes) where
              pub fixed_low : m.memory.base.0 ≤ first
              fixed_low =
                  omega
                  (arith, at, ltb-false x.base (start_byte m) (or_left (ltb x.base (start_byte m)) (ltb (end_byte m) (x.base + x.size)) (sym tested ∙ h)))

              abbrev fixed_area : Area
              fixed_area = record { base = frame first; count = x.size / page_bytes; order_per_bit = r.order_per_bit }

              fixed_is : fixed_area ≡ area_for m r t
              fixed_is =
                  let begins : first ≡ base_for m r / page_bytes = omega (arith, base_is) in
                  ap (λ (y : ℕ). record { base = frame y; count = x.size / page_bytes; order_per_bit = r.order_per_bit }) begins ∙
                  ap (λ (y : ℕ). record { base = frame (base_for m r / page_bytes); count = y / page_bytes; order_per_bit = r.order_per_bit }) (size_is) ∙
                  ap (λ (b : Bool). area_from m r (if b then base_for m r else highest_fit m r t * alignment_for m r)) (sym f)

              pub fixed_full : (taken : Option Frame) → true ≡ is_some taken → ScannedIn m t first (x.size / page_bytes) taken → Err 12 ≡ plan_after 7 m r t
              fixed_full None some is = absurd (true≢false some)
              fixed_full (Some taken) some is =
                  let v = sym (ap (is_vacant m t) fixed_is) ∙ scanned_taken m t first (x.size / page_bytes) r.order_per_bit is first fixed_low (le_refl first) is.before in
                  sym
                  (planned_pass _ _ _ inside ∙
                  planned_stop _ _ _ (and_both (is_fixed m r) (not (is_vacant m t (area_for m r t))) f (ap not v)))

              pub fixed_there : (taken : Option Frame) → false ≡ is_some taken → ScannedIn m t first (x.size / page_bytes) taken → Ok fixed_area ≡ plan_after 7 m r t
              fixed_there (Some taken) none is = absurd (true≢false (sym none))
              fixed_there None none is =
                  let v = sym (ap (is_vacant m t) fixed_is) ∙ scanned_free m t first (x.size / page_bytes) r.order_per_bit is in
                  ap Ok fixed_is ∙
                  sym
                  (planned_pass _ _ _ inside ∙
                  planned_pass _ _ _ (and_right_false (is_fixed m r) (not (is_vacant m t (area_for m r t))) (ap not v)) ∙
                  planned_pass _ _ _ (and_left_false (not (is_fixed m r)) (leb (first_multiple m r + multiples m r) (highest_fit m r t)) (ap not f)) ∙
                  planned_end (area_for m r t))

    -- ---- the search from the top
    pub search_start : Searching m r t x.limit
    unfolding fits_at
    search_start =
        let high = limit_is in
        record {
          below = omega arith;
          fails = λ c a h. and_left_false _ _ (lt-leb (c * alignment_for m r + size_for m r) (limit_for m r) (omega arith));
        }

    -- where the search ends
    abbrev LowestEnd : ℕ → Type 0
    LowestEnd lowest = lowest ≡ round_up (max x.base (start_byte m)) x.alignment + x.size

    ends_at : {lowest : ℕ} → LowestEnd lowest → lowest ≡ first_multiple m r * alignment_for m r + size_for m r
    ends_at l = l ∙ ap (λ (y : Rounded). round_up (max y.base (start_byte m)) y.alignment + y.size) e

    pub trying : {high lowest first : ℕ} → LowestEnd lowest → lowest ≤ high → first ≡ (high - x.size) / x.alignment * x.alignment / page_bytes → Tried m r high first
    trying {high} {lowest} {first} l h begins =
        let a = alignment_for m r in
        let s = size_for m r in
        let c = (high - s) / a in
        let end = ends_at l in
        let is : first ≡ c * a / page_bytes = begins ∙ ap (λ (y : Rounded). (high - y.size) / y.alignment * y.alignment / page_bytes) e in
        let low : first_multiple m r ≤ c = (le-div_iff_mul-le fit.some).1 (omega arith) in
        let start : least_for m r ≤ c * a = le_ceiling (least_for m r) a c fit.some low in
        let pages : c * a ≡ c * a / page_bytes * page_bytes = whole c a fit.alignment_pages in
        let down : c * a ≤ high - s = div-mul-le_self (high - s) a in
        let size = size_is in
        record {
          multiple = c;
          low = low;
          bytes = omega arith;
          in_memory = omega arith;
          ends = omega arith;
          next = λ k l. (le-div_iff_mul-le fit.some).1 (omega arith);
        }

    module _ {high first : ℕ} (s : Searching m r t high) (k : Tried m r high first) where
      abbrev at : ℕ
      at = k.multiple

      abbrev count : ℕ
      count = x.size / page_bytes

      pub tried_below : first + count ≤ high / page_bytes
      tried_below = omega (arith, k.ends, fit.size_pages, size_is)

      pub tried_inside : first + count ≤ most_end
      tried_inside = omega (arith, s.below, fit.limit_high, tried_below)

      below_last : at < first_multiple m r + multiples m r
      below_last =
          let h : at ≤ limit_for m r / alignment_for m r = (le-div_iff_mul-le fit.some).1 (omega (arith, s.below, k.bytes, k.ends)) in
          omega arith

      pub tried_taken : {o : Option Frame} {taken : Frame} → ScannedIn m t first count o → o ≡ Some taken → TakenFrom m.memory.base t.marks m.areas m.memory.declared first count taken.0
      tried_taken is e = subst (ScannedIn m t first count) e is

      -- nothing that ends above `taken` fits
      pub tried_on : {taken : Frame} → ScannedIn m t first count (Some taken) → Searching m r t (taken.0 * page_bytes)
      unfolding fits_at
      tried_on is =
          let size = size_is in
          record {
            below = omega (arith, s.below, k.ends, fit.size_pages, is.before);
            fails = λ c a l.
                below_or_not high (c * alignment_for m r + size_for m r) (λ u. s.fails c a u)
                (λ u.
                let wide : c * alignment_for m r ≤ at * alignment_for m r = mul-le-mul_right (alignment_for m r) (k.next c u) in
                let pages : c * alignment_for m r ≡ c * alignment_for m r / page_bytes * page_bytes = whole c (alignment_for m r) fit.alignment_pages in
                let start : least_for m r ≤ c * alignment_for m r = le_ceiling (least_for m r) (alignment_for m r) c fit.some a in
                let f = c * alignment_for m r / page_bytes in
                and_right_false (leb (c * alignment_for m r + size_for m r) (limit_for m r)) _
                (subst (λ (y : ℕ). is_vacant m t (record { base = frame f; count = y / page_bytes; order_per_bit = r.order_per_bit }) ≡ false) size
                (scanned_taken m t first count r.order_per_bit is f (omega arith) (omega (arith, k.bytes)) (omega (arith, fit.size_pages)))));
          }

      module _ (is : ScannedIn m t first count None) where
        abbrev there : Area
        there = record { base = frame first; count = count; order_per_bit = r.order_per_bit }

        there_is : there ≡ area_from m r (at * alignment_for m r)
        there_is =
            let begins : first ≡ at * alignment_for m r / page_bytes = omega (arith, k.bytes) in
            ap (λ (y : ℕ). record { base = frame y; count = count; order_per_bit = r.order_per_bit }) begins ∙
            ap (λ (y : ℕ). record { base = frame (at * alignment_for m r / page_bytes); count = y / page_bytes; order_per_bit = r.order_per_bit }) (size_is)

        fits_there : fits_at m r t at ≡ true
        unfolding fits_at
        fits_there =
            and_both (leb (at * alignment_for m r + size_for m r) (limit_for m r)) (is_vacant m t (area_from m r (at * alignment_for m r)))
            (le-leb (at * alignment_for m r + size_for m r) (limit_for m r) (omega (arith, s.below, k.bytes, k.ends)))
            (sym (ap (is_vacant m t) there_is) ∙ scanned_free m t first count r.order_per_bit is)

        found_there : highest_fit m r t ≡ at
        unfolding highest_fit
        found_there =
            let p = fits_at m r t in
            let i = first_multiple m r in
            let d = multiples m r in
            greatest_unique p i d _ at (highest_greatest p i d)
            (record {
              low = k.low;
              high = omega (arith, below_last);
              hit = λ _. fits_there;
              miss = λ c a b. below_or_not high (c * alignment_for m r + size_for m r) (λ l. s.fails c (omega (arith, k.low)) l) (λ l. absurd (omega (arith, k.next c l)));
              none = λ same. absurd (omega (arith, below_last));
            })

        pub tried_made : is_fixed m r ≡ false → Ok there ≡ plan_after 7 m r t
        tried_made f =
            let found = found_there in
            ap Ok (there_is ∙ ap (λ (y : ℕ). area_from m r (y * alignment_for m r)) (sym found)) ∙
            ap (λ (b : Bool). Ok (area_from m r (if b then base_for m r else highest_fit m r t * alignment_for m r))) (sym f) ∙
            sym
            (planned_pass _ _ _ (and_left_false (is_fixed m r) (is_outside m r) f) ∙
            planned_pass _ _ _ (and_left_false (is_fixed m r) (not (is_vacant m t (area_for m r t))) f) ∙
            planned_pass _ _ _
            (and_right_false (not (is_fixed m r)) (leb (first_multiple m r + multiples m r) (highest_fit m r t))
            (lt-leb (first_multiple m r + multiples m r) (highest_fit m r t) (omega (arith, found, below_last)))) ∙
            planned_end (area_for m r t))

    pub tried_all : {high lowest : ℕ} → is_fixed m r ≡ false → LowestEnd lowest → Searching m r t high → high < lowest → Err 13 ≡ plan_after 7 m r t
    unfolding highest_fit
    tried_all {high} {lowest} f l s h =
        let p = fits_at m r t in
        let a = alignment_for m r in
        let i = first_multiple m r in
        let d = multiples m r in
        let end = ends_at l in
        let none : (c : ℕ) → i ≤ c → p c ≡ false = λ c u. s.fails c u (let wide : i * a ≤ c * a = mul-le-mul_right a u in omega arith) in
        let last : highest_from p i d ≡ i + d =
        greatest_unique p i d _ (i + d) (highest_greatest p i d)
        (record {
          low = omega arith;
          high = le_refl (i + d);
          hit = λ u. absurd (omega arith);
          miss = λ c u v. absurd (omega arith);
          none = λ same c u v. none c u;
        })
        in
        sym
        (planned_pass _ _ _ (and_left_false (is_fixed m r) (is_outside m r) f) ∙
        planned_pass _ _ _ (and_left_false (is_fixed m r) (not (is_vacant m t (area_for m r t))) f) ∙
        planned_stop _ _ _
        (and_both (not (is_fixed m r)) (leb (i + d) (highest_from p i d)) (ap not f) (le-leb (i + d) (highest_from p i d) (omega (arith, last)))))
