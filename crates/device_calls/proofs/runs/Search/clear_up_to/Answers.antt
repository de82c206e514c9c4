-- `device_calls::runs::Search::clear_up_to` meets its contract: nothing is looked at where all is known, else the words up to the run's last.
-- Assumes nothing.
use Prim.Native.Nat.{◌+◌, ◌-◌}
use native.Mathlib.Omega.{arith}
use mathlib.Core.Bool.{not}
use Rattle.search.proofs.Lowest.{lowest_le}
use Rattle.device_calls.specs.Steps.DeviceSteps.{clear_at}
use Rattle.device_calls.proofs.Tries.{looked_at}
use Rattle.device_calls.proofs.runs.Search.clear_up_to.Goals as goal

pub overflow_add-result : goal.overflow_add-result
overflow_add-result c =
    let x = c.args in
    omega (arith, c.clear_bits.ensures.0, lowest_le (λ k. not (clear_at x.self.now (x.from + k))) (c.min-far.result - x.from), c.min-far.ensures, c.requires.1)

pub returns : goal.returns
returns c =
    let x = c.args in
    looked_at x.self.now x.from x.end (c.min-far.result - x.from) c.clear_bits.result.bits (omega arith) (omega (arith, c.div_ceil.ensures, c.min-far.ensures, c.requires.0))
    (omega (arith, c.min-far.ensures)) c.clear_bits.ensures.0
