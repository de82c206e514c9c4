-- `frames::order::OrderedAreas::free_stretch` meets its contract: stretch by stretch of the ordinary places. Assumes nothing.
use Prim.Native.Nat.{◌-◌}
use native.Mathlib.Omega.{arith}
use mathlib.Core.Path.{refl}
use Rattle.search.proofs.Lowest.{Least, lowest_least}
use Rattle.frames.specs.Marks.{has_kind, free}
use Rattle.frames.specs.Scans.{marked}
use Rattle.frames.proofs.PlaceFacts.{below_some, below_none}
use Rattle.frames.proofs.ScanFacts.{seek_end}
use Rattle.frames.proofs.StretchFacts.{stretch_hit, stretch_skip}
use Rattle.frames.proofs.order.OrderedAreas.free_stretch.Goals as goal

pub returns-in-Some : goal.returns-in-Some
returns-in-Some c n ord few passed =
    let x = c.args in
    let stretch = c.next_stretch-stretch in
    let inv = c.loop-i.invariant n ord few passed in
    let walked = stretch.ensures.walks_on n ord inv.1 inv.2 in
    let at = below_some _ _ c.first_met.ensures c.in-Some.is in
    let l : Least (marked (has_kind free) x.marks.now) stretch.result.from.0 (stretch.result.end.0 - stretch.result.from.0) c.in-Some.from.0 =
    rw (at.is) (lowest_least (marked (has_kind free) x.marks.now) stretch.result.from.0 (stretch.result.end.0 - stretch.result.from.0))
    in
    record {
      found = stretch_hit _ stretch.ensures.within walked.stretch _ inv.0 at.is at.high;
      walks = record { ordinary = λ k low high. walked.stretch.clear k (omega (arith, l.low)) high; next = walked.next; passed = walked.passed };
    }

pub loop-i-preserved : goal.loop-i-preserved
loop-i-preserved c n ord few passed =
    let inv = c.loop-i.invariant n ord few passed in
    let stretch = c.next_stretch-stretch in
    let walked = stretch.ensures.walks_on n ord inv.1 inv.2 in
    (stretch_skip _ stretch.ensures.within walked.stretch _ inv.0 refl (below_none _ _ c.first_met.ensures c.in_default.is), walked.next, walked.passed)

pub returns : goal.returns
returns c n ord few passed =
    let inv = c.loop-i.invariant n ord few passed in
    record { found = seek_end inv.0 (omega arith); walks = record { ordinary = λ k low high. absurd (omega arith); next = inv.1; passed = inv.2 } }
