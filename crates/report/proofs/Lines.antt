-- The lines of the areas, one after the other. Assumes nothing.
--     line_most                 an area's line has at most 89 bytes
--     lines_none, lines_next    the lines of no areas; of one area more
--     lines_most                and the lines of n areas at most n times as many
use Prim.Native.Nat.{ℕ, zero, suc, ◌+◌, ◌*◌, ◌≤◌}
use native.Mathlib.Numerals.{add-one}
use native.Mathlib.Omega.{arith}
use mathlib.Core.Path.{◌≡◌, refl}
use mathlib.Core.List.{List, [], ◌++◌}
use lib.ListN.{length, length-append}
use Rattle.frames.specs.Tables.{Tables}
use Rattle.text.proofs.Texts.{four_most}
use Rattle.rules.specs.declared.Record.{Record}
use Rattle.rules.specs.Report.{sum_over, area_line, line_of_area, lines_over}
use Rattle.report.proofs.OverAreas.{sum_none, sum_suc, sum_most}

pub line_most : (i count used chunk : ℕ) → length (area_line i count used chunk) ≤ 89
unfolding area_line
line_most i count used chunk = omega (arith, four_most i count used chunk)

module _ (line : ℕ → List ℕ) where
  pub lines_none : lines_over line 0 ≡ []
  unfolding lines_over
  lines_none = refl

  lines_suc : (n : ℕ) → lines_over line (suc n) ≡ lines_over line n ++ line n
  unfolding lines_over
  lines_suc n = refl

  pub lines_next : (n : ℕ) → lines_over line (n + 1) ≡ lines_over line n ++ line n
  lines_next n = rw add-one (lines_suc n)

  lines_length : (n : ℕ) → length (lines_over line n) ≡ sum_over (λ k. length (line k)) n
  lines_length zero = rw (lines_none, sum_none)
  lines_length (suc n) = rw (lines_suc, sum_suc, length-append, lines_length n)

pub lines_most : (m : Record) (t : Tables) (n : ℕ) → length (lines_over (line_of_area m t) n) ≤ n * 89
lines_most m t n = rw (lines_length (line_of_area m t) n) (sum_most _ 89 n (λ k h. line_most _ _ _ _))
