-- A call that asks for the numbers of all areas. Assumes nothing.
--     asked      lent them all, it is made
--     lacking    lent more or fewer, it is refused as the wrong shape
use mathlib.Core.Path.{◌≡◌}
use lib.ListN.{length}
use borrow.Author.Tests.{eq-eqb, ne_eqb}
use Rattle.frames.specs.Tables.{Tables}
use Rattle.rules.specs.declared.Record.{Record}
use Rattle.rules.specs.Limits.{most_area_numbers}
use Rattle.rules.specs.Outcomes.{Outcome, refuse}
use Rattle.rules.specs.Does.{with_all_areas}

module _ (call : Record → Tables → Outcome) (m : Record) (t : Tables) where
  pub asked : length m.areas ≡ most_area_numbers → call m t ≡ with_all_areas call m t
  unfolding with_all_areas
  asked e = rw (eq-eqb (length m.areas) most_area_numbers e)

  pub lacking : (length m.areas ≡ most_area_numbers → ⊥) → refuse m t 1 ≡ with_all_areas call m t
  unfolding with_all_areas
  lacking e = rw (ne_eqb (length m.areas) most_area_numbers e)
