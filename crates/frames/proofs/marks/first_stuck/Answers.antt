-- `frames::marks::first_stuck` meets its contract: a scan for the first kind above movable; past the end a mark reads free. Assumes nothing.
use mathlib.Core.Path.{refl}
use Rattle.frames.proofs.PlaceFacts.{below_some, below_none}
use Rattle.frames.proofs.Stuck.{stuck_none, stuck_low, stuck_found, stuck_left}
use Rattle.frames.proofs.marks.first_stuck.Goals as goal

pub returns-then-end-first : goal.returns-then-end-first
returns-then-end-first c = let x = c.args in stuck_none x.marks.now x.from.0 x.count c.range_end-end.result c.range_end-end.ensures c.if-end-first.true

pub overflow_sub-result : goal.overflow_sub-result
overflow_sub-result c =
    let x = c.args in
    stuck_low x.marks.now x.from.0 x.count c.range_end-end.result c.range_end-end.ensures c.if-end-first.false c.in-Some.at.0 (below_some _ _ c.stuck_in.ensures c.in-Some.is).is

pub returns-in-Some : goal.returns-in-Some
returns-in-Some c =
    let x = c.args in
    let at = below_some _ _ c.stuck_in.ensures c.in-Some.is in
    stuck_found x.marks.now x.from.0 x.count c.range_end-end.result c.range_end-end.ensures c.if-end-first.false c.in-Some.at.0 at.is at.high

pub returns-in-None : goal.returns-in-None
returns-in-None c =
    let x = c.args in
    stuck_left x.marks.now x.from.0 x.count c.range_end-end.result c.range_end-end.ensures c.if-end-first.false _ refl (below_none _ _ c.stuck_in.ensures c.in-None.is)
