-- The laws of the record's layout. Assumes nothing.
--     length_areas    a record that is read has all its areas' numbers
--     areas_kept      a memory and counters written over numbers whose areas' are a record's already
use Prim.Native.Nat.{ℕ, ◌≤◌}
use native.Mathlib.Omega.{arith}
use mathlib.Core.Path.{◌≡◌, ap, ◌∙◌}
use mathlib.Core.List.{List, ◌++◌}
use lib.ListN.{length, take, drop, length-drop}
use lib.Seq.{drop_at, drop-drop, length-take-le}
use Rattle.rules.specs.declared.Counters.{Counters}
use Rattle.rules.specs.declared.Memory.{Memory}
use Rattle.rules.specs.Limits.{most_area_numbers}
use Rattle.rules.specs.Does.{record_with}
use Rattle.szk.specs.Layout.{areas_start, record_length, record_from, own_numbers, numbers_of, over}

pub length_areas : (numbers : List ℕ) → record_length ≤ length numbers → length (record_from numbers).areas ≡ most_area_numbers
length_areas numbers h = length-take-le most_area_numbers (drop areas_start numbers) (omega (arith, length-drop areas_start numbers))

pub areas_kept :
    (memory : Memory) (c : Counters) (areas numbers : List ℕ) → record_length ≤ length numbers → length areas ≡ most_area_numbers →
    over (own_numbers memory c) (take areas_start numbers ++ (areas ++ drop most_area_numbers (drop areas_start numbers))) ≡
    over (numbers_of (record_with memory areas) c) numbers
unfolding over
areas_kept memory c areas numbers h e =
    ap (λ (l : List ℕ). own_numbers memory c ++ l)
    (drop_at (take areas_start numbers) (areas ++ drop most_area_numbers (drop areas_start numbers)) areas_start (length-take-le areas_start numbers (omega arith))) ∙
    ap (λ (l : List ℕ). own_numbers memory c ++ (areas ++ l)) (drop-drop most_area_numbers areas_start numbers) ∙
    ap (λ (n : ℕ). own_numbers memory c ++ (areas ++ drop n numbers)) whole
  where
    whole : record_length ≡ length (numbers_of (record_with memory areas) c)
    whole = omega arith
