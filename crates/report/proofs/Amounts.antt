-- How long a line with an amount is, and what the shape says of the areas. Assumes nothing.
--     amount_length, amount_most    its label, its digits and four bytes; at most 24 bytes and the label
--     bounded                       of the areas
use Prim.Native.Nat.{ℕ, ◌+◌, ◌≤◌}
use native.Mathlib.Omega.{arith}
use mathlib.Core.Bool.{true}
use mathlib.Core.List.{List}
use mathlib.Core.Path.{◌≡◌}
use lib.ListN.{length, length-append}
use Rattle.text.specs.Writing.{decimal}
use Rattle.text.proofs.Decimal.{decimal_most}
use Rattle.frames.specs.Tables.{Tables}
use Rattle.rules.specs.declared.Record.{Record}
use Rattle.rules.specs.Shape.{shape_right}
use Rattle.rules.specs.Report.{amount_line}
use Rattle.rules.proofs.Shapes.{shape_known}
use Rattle.rules.proofs.AreaRight.{area_facts}
use Rattle.report.specs.Steps.Listing.{Bounded}

pub amount_length : (label : List ℕ) (k_b : ℕ) → length (amount_line label k_b) ≡ length label + length (decimal k_b) + 4
unfolding amount_line
amount_length label k_b = simp length-append (omega arith)

pub amount_most : (label : List ℕ) (k_b : ℕ) → length (amount_line label k_b) ≤ length label + 24
amount_most label k_b = omega (arith, amount_length label k_b, decimal_most k_b)

pub bounded : (m : Record) (t : Tables) → shape_right m t ≡ true → Bounded m.memory m.areas
bounded m t right =
    let s = shape_known m t right in
    record {
      few = s.declared_high;
      counts = λ i h. let a = area_facts m t right i h in omega (arith, a.low, a.high, s.memory.frames_high);
      orders = λ i h. let a = area_facts m t right i h in omega (arith, a.order, s.memory.order_high);
    }
