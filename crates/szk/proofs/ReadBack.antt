-- The layout loses nothing: a record and its counters are read back as they were written, and written back as they were read. Assumes nothing.
use Prim.Native.Nat.{ℕ, ◌+◌, ◌*◌, ◌/◌, ◌%◌}
use native.Mathlib.Omega.{arith}
use mathlib.Core.Path.{◌≡◌, ap}
use mathlib.Core.List.{[], ◌∷◌}
use lib.ListN.{take}
use lib.Seq.{take_at}
use Rattle.rules.specs.Counters.{counters}
use Rattle.rules.specs.Does.{record_with}
use Rattle.rules.specs.Limits.{most_area_numbers}
use Rattle.szk.specs.Statement.{ReadBack, WrittenBack}

pub written_back : WrittenBack
written_back (a ∷ b ∷ c ∷ d ∷ e ∷ more) h = ap (λ (n : ℕ). a ∷ b ∷ c ∷ d ∷ n ∷ take most_area_numbers more) (omega arith)
written_back (a ∷ b ∷ c ∷ d ∷ []) h = absurd (omega arith)
written_back (a ∷ b ∷ c ∷ []) h = absurd (omega arith)
written_back (a ∷ b ∷ []) h = absurd (omega arith)
written_back (a ∷ []) h = absurd (omega arith)
written_back [] h = absurd (omega arith)

pub read_back : ReadBack
read_back m c rest e small =
    let granted : (c.granted + 4294967296 * c.refused) % 4294967296 ≡ c.granted = omega arith in
    let refused : (c.granted + 4294967296 * c.refused) / 4294967296 ≡ c.refused = omega arith in
    (ap (record_with m.memory) (take_at m.areas rest most_area_numbers e), λ i. counters (granted i) (refused i))
