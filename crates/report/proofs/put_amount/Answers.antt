-- `report::put_amount` meets its contract: the label, the number and the unit are appended one after the other. Assumes nothing.
use Prim.Native.Nat.{ℕ}
use native.Mathlib.Omega.{arith}
use mathlib.Core.List.{List, [], ◌∷◌, ◌++◌}
use lib.ListN.{length-append}
use Rattle.text.specs.Writing.{decimal}
use Rattle.text.proofs.Decimal.{decimal_most}
use Rattle.rules.specs.Report.{amount_line}
use Rattle.report.proofs.Fronts.{appends_then}
use Rattle.report.proofs.put_amount.Goals as goal

pub returns : goal.returns
unfolding amount_line
returns c =
    let label = c.args.label.now in
    let number = decimal c.args.kilobytes in
    let unit : List ℕ = 32 ∷ 107 ∷ 66 ∷ 10 ∷ [] in
    appends_then
    (appends_then c.put_bytes.ensures c.put_number.ensures (omega (arith, length-append label number, decimal_most c.args.kilobytes, c.requires)))
    c.put_bytes-2.ensures
    (omega (arith, length-append (label ++ number) unit, length-append label number, decimal_most c.args.kilobytes, c.requires))
