-- `report::list_areas` meets its contract: the loop has listed the first i areas. Assumes nothing.
use mathlib.Core.List.{[]}
use Rattle.frames.specs.Tables.{tables}
use Rattle.rules.specs.Does.{record_in}
use Rattle.report.proofs.Listing.{Listing}
use Rattle.report.proofs.list_areas.Given as goal

abbrev pub invariant-loop-i : goal.invariant-loop-i
invariant-loop-i l = Listing (record_in l.lent) (tables l.marks [] l.bitmap []) l.i l.fn.lines l.lines l.total l.free l.start
