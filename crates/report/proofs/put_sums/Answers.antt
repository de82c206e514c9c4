-- `report::put_sums` meets its contract: the two lines are appended one after the other. Assumes nothing.
use Prim.Native.Nat.{◌*◌}
use native.Mathlib.Omega.{arith}
use lib.ListN.{length-append}
use Rattle.rules.specs.Report.{total_label, free_label, amount_line}
use Rattle.report.proofs.Amounts.{amount_most}
use Rattle.report.proofs.Fronts.{appends_then, kept_length, next_length}
use Rattle.report.proofs.put_sums.Goals as goal

pub put_amount-requires-2 : goal.put_amount-requires-2
put_amount-requires-2 c =
    let total = amount_most total_label (4 * c.args.sums.total) in
    let first = c.put_amount.ensures in
    omega (arith, total, kept_length first, next_length first (omega (arith, total)))

pub returns : goal.returns
returns c =
    let total = amount_line total_label (4 * c.args.sums.total) in
    let free = amount_line free_label (4 * c.args.sums.free) in
    appends_then c.put_amount.ensures c.put_amount-2.ensures
    (omega (arith, length-append total free, amount_most total_label (4 * c.args.sums.total), amount_most free_label (4 * c.args.sums.free)))
