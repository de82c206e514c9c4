-- `report::put_report` meets its contract: the sums' lines and the areas' lines are the report. Assumes nothing.
use native.Mathlib.Omega.{arith}
use Prim.Native.Nat.{ℕ, ◌*◌, ◌≤◌}
use mathlib.Core.List.{[], ◌++◌}
use mathlib.Core.Path.{refl, sym}
use lib.ListN.{length, length-append}
use Rattle.std.proofs.Common.{rules}
use Rattle.frames.specs.Tables.{tables}
use Rattle.rules.specs.Does.{record_in}
use Rattle.rules.specs.Report.{total_label, free_label, amount_line, report_of}
use Rattle.report.proofs.Amounts.{amount_most}
use Rattle.report.proofs.OverAreas.{total_most, free_most}
use Rattle.report.proofs.Lines.{lines_most}
use Rattle.report.proofs.Fronts.{at_front, fronts_put}
use Rattle.report.proofs.put_report.Goals as goal

-- the two lines have room for theirs
sums_room : (total free : ℕ) → length (amount_line total_label total ++ amount_line free_label free) ≤ 128
sums_room total free =
    omega (arith, length-append (amount_line total_label total) (amount_line free_label free), amount_most total_label total, amount_most free_label free)

pub put_sums-requires : goal.put_sums-requires
put_sums-requires c =
    let m = record_in c.args.lent in
    let lists = c.list_areas-sums.ensures in
    let total = total_most m.memory m.areas c.requires m.memory.declared (omega arith) in
    let free = free_most m.memory m.areas c.requires m.memory.declared (omega arith) (tables c.args.marks.now [] c.args.bitmap.now []) in
    (omega (arith, lists.total, total, c.requires.few), omega (arith, lists.free, free, c.requires.few), refl, omega arith)

pub slice_bounds-put_both-end : goal.slice_bounds-put_both-end
slice_bounds-put_both-end c =
    let room = sums_room (4 * c.list_areas-sums.result.total) (4 * c.list_areas-sums.result.free) in
    let head = at_front c.put_sums.ensures refl room in
    omega (arith, head.long, room)

pub slice_bounds-put_both-end-2 : goal.slice_bounds-put_both-end-2
slice_bounds-put_both-end-2 c =
    let m = record_in c.args.lent in
    let room = lines_most m (tables c.args.marks.now [] c.args.bitmap.now []) m.memory.declared in
    let lines = at_front c.list_areas-sums.ensures.lines refl (omega (arith, room, c.requires.few)) in
    omega (arith, lines.long, room, c.requires.few)

pub returns : goal.returns
unfolding report_of
returns c =
    let m = record_in c.args.lent in
    let t = tables c.args.marks.now [] c.args.bitmap.now [] in
    let lists = c.list_areas-sums.ensures in
    let head = at_front c.put_sums.ensures refl (sums_room (4 * c.list_areas-sums.result.total) (4 * c.list_areas-sums.result.free)) in
    let lines = at_front lists.lines refl (omega (arith, lines_most m t m.memory.declared, c.requires.few)) in
    rw (sym lists.total, sym lists.free) (fronts_put head lines (search rules) (search rules) c.put_both.ensures)
