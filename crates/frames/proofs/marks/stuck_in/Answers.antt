-- `frames::marks::stuck_in` meets its contract: what is found among the first few places is the lowest of the range. Assumes nothing.
use Prim.Native.Nat.{◌+◌}
use native.Mathlib.Omega.{arith}
use mathlib.Core.Bool.{not}
use mathlib.Core.Path.{sym, ◌∙◌}
use Rattle.frames.specs.Marks.{can_leave}
use Rattle.frames.specs.Scans.{marked}
use Rattle.frames.proofs.ScanFacts.{seek_start, part_some}
use Rattle.frames.proofs.marks.stuck_in.Goals as goal

pub returns-then-is_some : goal.returns-then-is_some
returns-then-is_some c =
    let x = c.args in
    part_some (seek_start {p = marked (λ mark. not (can_leave mark)) x.marks.now} {from = x.from.0} {end = x.end.0}) (x.from.0 + 8) (omega arith) (omega arith) c.one_by_one-found.ensures
    (sym c.is_some.ensures ∙ c.if-is_some.true)
