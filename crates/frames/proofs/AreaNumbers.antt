-- The laws of the numbers that hold a record's areas. Assumes nothing.
--     area_past           past the end of the numbers an area is all zeros
--     area_set_same       an area that the numbers have room for is read as it was put
--     area_set_other      every other area stays
--     length_set_area     the length stays
--     set_area_past       past the end of the numbers nothing is kept
use Prim.Native.Nat.{ℕ, ◌+◌, ◌*◌, ◌≤◌, ◌<◌}
use native.Mathlib.Omega.{arith}
use mathlib.Core.Logic.{◌≢◌}
use mathlib.Core.Path.{◌≡◌, ◌∙◌}
use mathlib.Core.List.{List}
use lib.ListN.{length, get_or, set, length-set, get_or-eq_default}
use lib.Seq.{set_out, get_or-set_same, get_or-set_other}
use Rattle.frames.specs.declared.Area.{Area}
use Rattle.frames.specs.Units.{frame}
use Rattle.frames.specs.Areas.{area_numbers, area_in, set_area, no_area}

module _ (numbers : List ℕ) (i : ℕ) where
  pub area_past : length numbers ≤ area_numbers * i → area_in numbers i ≡ no_area
  area_past h =
      let e : get_or numbers (area_numbers * i) 0 ≡ 0 = get_or-eq_default numbers 0 (omega arith) in
      let f : get_or numbers (area_numbers * i + 1) 0 ≡ 0 = get_or-eq_default numbers 0 (omega arith) in
      let g : get_or numbers (area_numbers * i + 2) 0 ≡ 0 = get_or-eq_default numbers 0 (omega arith) in
      cc

  module _ (a : Area) where
    pub length_set_area : length (set_area numbers i a) ≡ length numbers
    length_set_area = simp length-set

    pub set_area_past : length numbers ≤ area_numbers * i → set_area numbers i a ≡ numbers
    set_area_past h =
        let n = area_numbers * i in
        let e = set_out numbers n a.base.0 (omega arith) in
        let f = set_out numbers (n + 1) a.count (omega arith) in
        let g = set_out numbers (n + 2) a.order_per_bit (omega arith) in
        rw (e, f, g)

    pub area_set_same : area_numbers * i + 2 < length numbers → area_in (set_area numbers i a) i ≡ a
    area_set_same h =
        let n = area_numbers * i in
        let l = set numbers n a.base.0 in
        let m = set l (n + 1) a.count in
        let e : get_or (set_area numbers i a) n 0 ≡ a.base.0 =
        get_or-set_other m (n + 2) n a.order_per_bit 0 (λ e. omega arith) ∙
        get_or-set_other l (n + 1) n a.count 0 (λ e. omega arith) ∙ get_or-set_same numbers n a.base.0 0 (omega arith) in
        let f : get_or (set_area numbers i a) (n + 1) 0 ≡ a.count =
        get_or-set_other m (n + 2) (n + 1) a.order_per_bit 0 (λ e. omega arith) ∙
        get_or-set_same l (n + 1) a.count 0 (omega (arith, length-set numbers n a.base.0)) in
        let g : get_or (set_area numbers i a) (n + 2) 0 ≡ a.order_per_bit =
        get_or-set_same m (n + 2) a.order_per_bit 0 (omega (arith, length-set l (n + 1) a.count, length-set numbers n a.base.0)) in
        let whole : area_in (set_area numbers i a) i ≡ record { base = frame a.base.0; count = a.count; order_per_bit = a.order_per_bit } = cc in
        whole

    pub area_set_other : (k : ℕ) → k ≢ i → area_in (set_area numbers i a) k ≡ area_in numbers k
    area_set_other k h =
        let n = area_numbers * i in
        let l = set numbers n a.base.0 in
        let m = set l (n + 1) a.count in
        let other : (j : ℕ) → j ≢ n → j ≢ n + 1 → j ≢ n + 2 → get_or (set_area numbers i a) j 0 ≡ get_or numbers j 0 =
        λ j u v w.
        get_or-set_other m (n + 2) j a.order_per_bit 0 w ∙ get_or-set_other l (n + 1) j a.count 0 v ∙ get_or-set_other numbers n j a.base.0 0 u in
        let e = other (area_numbers * k) (λ e. h (omega arith)) (λ e. omega arith) (λ e. omega arith) in
        let f = other (area_numbers * k + 1) (λ e. omega arith) (λ e. h (omega arith)) (λ e. omega arith) in
        let g = other (area_numbers * k + 2) (λ e. omega arith) (λ e. omega arith) (λ e. h (omega arith)) in
        cc
