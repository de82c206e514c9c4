-- `frames::marks::find_free_ordinary` meets its contract: where the stretch begins. Assumes nothing.
use Prim.Native.Nat.{ℕ, min}
use native.Mathlib.Omega.{arith}
use mathlib.Core.Path.{sym, ap, ◌∙◌}
use lib.ListN.{length}
use Rattle.search.proofs.Lowest.{lowest_start}
use Rattle.frames.specs.Units.{place_below}
use Rattle.frames.specs.Areas.{most_areas}
use Rattle.frames.specs.Orders.{in_use, Ordered}
use Rattle.frames.specs.Scans.{is_free_ordinary}
use Rattle.frames.proofs.marks.find_free_ordinary.Goals as goal

pub returns : goal.returns
returns c =
    let x = c.args in
    let o = c.new.result in
    let n = min x.declared most_areas in
    let made = c.new.ensures in
    let ordered : Ordered o.areas.now (in_use o.areas.now n) o.order = rw made.areas made.ordered in
    let found = (c.free_stretch-stretch.ensures n ordered (omega arith) (λ k h. absurd (omega arith))).found in
    let at = rw made.areas at (rw made.base at found) in
    c.below.ensures ∙
    ap (λ (i : ℕ). place_below i (length x.marks.now)) (at ∙ sym (lowest_start (is_free_ordinary x.marks.now x.base x.areas.now n) (length x.marks.now)))
