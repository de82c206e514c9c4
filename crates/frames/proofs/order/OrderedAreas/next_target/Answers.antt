-- `frames::order::OrderedAreas::next_target` meets its contract: the ordinary places first, and then the other areas. Assumes nothing.
use lib.ListN.{length}
use Rattle.frames.specs.Scans.{is_free_ordinary}
use Rattle.frames.specs.Walk.{FreeStretch}
use Rattle.frames.specs.Targets.{is_free_elsewhere}
use Rattle.frames.proofs.TargetFacts.{Scanned, scanned, first_ordinary, first_other}
use Rattle.frames.proofs.order.OrderedAreas.next_target.Goals as goal

pub returns-then-to-marks : goal.returns-then-to-marks
returns-then-to-marks c n ord s =
    let x = c.args in
    let free : FreeStretch x.marks.now x.self.now.base x.self.now.areas.now n x.self.now.order x.last.ordinary.from.0 c.next_free-ordinary.result = c.next_free-ordinary.ensures n ord s.walks in
    let here : Scanned (is_free_ordinary x.marks.now x.self.now.base x.self.now.areas.now n) (length x.marks.now) c.next_free-ordinary.result.from.0 = scanned _ _ _ _ s.ordinary_high s.ordinary free.found in (
      first_ordinary x.marks.now x.self.now.base x.self.now.areas.now n x.held here c.if-to-marks.true,
      record { ordinary_high = here.high; ordinary = here.none; walks = free.walks; others_high = s.others_high; others = s.others; few = s.few; passed = s.passed },
    )

pub returns : goal.returns
returns c n ord s =
    let x = c.args in
    let free : FreeStretch x.marks.now x.self.now.base x.self.now.areas.now n x.self.now.order x.last.ordinary.from.0 c.next_free-ordinary.result = c.next_free-ordinary.ensures n ord s.walks in
    let here : Scanned (is_free_ordinary x.marks.now x.self.now.base x.self.now.areas.now n) (length x.marks.now) c.next_free-ordinary.result.from.0 = scanned _ _ _ _ s.ordinary_high s.ordinary free.found in
    let found = c.next_other-others.ensures n ord s.others_high s.few s.passed in
    let there : Scanned (is_free_elsewhere x.marks.now x.self.now.base x.self.now.areas.now n x.held) (length x.marks.now) c.next_other-others.result.from.0 = scanned _ _ _ _ s.others_high s.others found.0 in (
      first_other x.marks.now x.self.now.base x.self.now.areas.now n x.held here c.if-to-marks.false there,
      record { ordinary_high = here.high; ordinary = here.none; walks = free.walks; others_high = there.high; others = there.none; few = found.1; passed = found.2 },
    )
