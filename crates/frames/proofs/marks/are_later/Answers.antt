-- `frames::marks::are_later` meets its contract: a range that passes the end has a mark that reads 0, which is free; in
-- any other each place is tried. Assumes nothing.
use Prim.Native.Nat.{max}
use native.Mathlib.Omega.{arith}
use borrow.Author.Tests.{tests}
use mathlib.Core.Path.{refl, sym, ◌∙◌}
use lib.ListN.{length}
use Rattle.std.proofs.Common.{rules}
use Rattle.std.proofs.lemmas.Iterator.{YieldsList-from_range}
use Rattle.std.proofs.lemmas.Iterator.Search.{all_from_yields_List}
use Rattle.search.proofs.Ranges.{every_miss}
use Rattle.frames.specs.Marks.{has_kind, later}
use Rattle.frames.specs.Scans.{marked}
use Rattle.frames.proofs.MarkFacts.{past_end}
use Rattle.frames.proofs.ScanFacts.{pass_list}
use Rattle.frames.proofs.marks.are_later.Goals as goal

pub returns-then-saturating_sub-count : goal.returns-then-saturating_sub-count
returns-then-saturating_sub-count c =
    let marks = c.args.marks.now in
    let at = max c.args.from.0 (length marks) in
    sym (every_miss (marked (has_kind later) marks) c.args.from.0 c.args.count at (omega arith) (omega arith) (past_end (has_kind later) marks at (omega arith)))

pub returns : goal.returns
returns c =
    let x = c.args in
    let is_later = marked (has_kind later) x.marks.now in
    all_from_yields_List is_later _ _ c.all.result c.all.ensures.ran (YieldsList-from_range x.from.0 _ x.count refl (omega arith)) (λ i b q k. search (rules, tests))
    ∙ pass_list is_later x.from.0 x.count
