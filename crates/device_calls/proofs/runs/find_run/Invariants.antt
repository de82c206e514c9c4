-- `device_calls::runs::find_run` meets its contract: at the loop's head the bit is aligned, none below it will do, and the bits from it on are
-- clear as far as is known. Assumes nothing.
use Prim.Native.Nat.{◌+◌, ◌-◌}
use Rattle.device_calls.specs.Steps.DeviceSteps.{ClearTo}
use Rattle.device_calls.proofs.GrantSearch.{Looking}
use Rattle.device_calls.proofs.runs.find_run.Given as goal

abbrev pub invariant-loop-j : goal.invariant-loop-j
invariant-loop-j l =
    let s = l.search in
    Looking s.marks.now s.bitmap.words.now s.base s.area s.bitmap.start s.count l.fn.request.align l.j × ClearTo s l.j l.clear_to

abbrev pub decreases-loop-j : goal.decreases-loop-j
decreases-loop-j l = (l.last + 1) - l.j
