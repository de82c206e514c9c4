-- `frames::marks::find_free` meets its contract: the range is all the marks. Assumes nothing.
use Prim.Native.Nat.{ℕ}
use mathlib.Core.Path.{sym, ap, ◌∙◌}
use lib.ListN.{length}
use Rattle.search.proofs.Lowest.{lowest_start}
use Rattle.frames.specs.Units.{place_below}
use Rattle.frames.specs.Marks.{has_kind, free}
use Rattle.frames.specs.Scans.{marked}
use Rattle.frames.proofs.marks.find_free.Goals as goal

pub returns : goal.returns
returns c =
    let len = length c.args.marks.now in
    c.first_met.ensures ∙ ap (λ (i : ℕ). place_below i len) (sym (lowest_start (marked (has_kind free) c.args.marks.now) len))
