-- `report::put_area` meets its contract: the label and the four numbers are appended one after the other. Assumes nothing.
use Prim.Native.Nat.{ℕ}
use native.Mathlib.Omega.{arith}
use mathlib.Core.List.{List, [], ◌∷◌}
use lib.ListN.{length-append}
use Rattle.text.specs.Writing.{four_numbers}
use Rattle.text.proofs.Texts.{four_most}
use Rattle.rules.specs.Report.{area_line}
use Rattle.report.proofs.Fronts.{appends_then}
use Rattle.report.proofs.put_area.Goals as goal

pub returns : goal.returns
unfolding area_line
returns c =
    let a = c.args in
    let label : List ℕ = 97 ∷ 114 ∷ 101 ∷ 97 ∷ 32 ∷ [] in
    let numbers = four_numbers a.number a.count a.used a.chunk in
    appends_then c.put_bytes.ensures c.put_four.ensures
    (omega (arith, length-append label numbers, four_most a.number a.count a.used a.chunk, c.requires))
