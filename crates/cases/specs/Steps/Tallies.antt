-- What the counts of cases keep to, so that no sum wraps.
use Rattle.std.specs.Prelude.{ℕ, ◌≤◌}
use Rattle.cases.specs.declared.Tally.{Tally}

-- a file with as many bytes counts as one that cannot be read whole, and a list has fewer names than bytes
abbrev pub most_file : ℕ
most_file = 65536

pub record Counted (most : ℕ) (t : Tally) : Type 0 where
  pub cases : t.cases ≤ most
  pub failed : t.failed ≤ t.cases
