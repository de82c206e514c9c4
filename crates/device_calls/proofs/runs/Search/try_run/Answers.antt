-- `device_calls::runs::Search::try_run` meets its contract: its bits are looked at first, and its frames where they are clear. Assumes nothing.
use Prim.Native.Nat.{ℕ, ◌+◌, max}
use mathlib.Core.Path.{◌≡◌}
use native.Mathlib.Omega.{arith}
use Rattle.search.proofs.Bools.{and_both}
use Rattle.frames.specs.declared.Bit.{Bit}
use Rattle.device_calls.specs.declared.runs.Search.{Search}
use Rattle.device_calls.specs.Steps.DeviceSteps.{TriesAt, ClearTo, ClearUpTo}
use Rattle.device_calls.proofs.Tries.{clear_both, all_clear}
use Rattle.device_calls.proofs.runs.Search.try_run.Goals as goal

-- the run's bits are clear
cleared : (s : Search) (j : Bit) (known clear : ℕ) {from : ℕ} → TriesAt s j → ClearTo s j.0 known → from ≡ max j.0 known → ClearUpTo s from (j.0 + s.bits) clear → ClearTo s j.0 clear
cleared s j known clear t c e u = clear_both s j.0 known _ (j.0 + s.bits) clear c e u (omega (arith, t.room))

pub returns-in_err-passed : goal.returns-in_err-passed
returns-in_err-passed c =
    let s = c.args.self.now in
    let x = c.args in
    let clear = cleared s x.bit x.clear_to c.clear_up_to-clear.result c.requires.tries_at c.requires.clear_to c.max.ensures c.clear_up_to-clear.ensures in
    rw c.from_residual.ensures (and_both _ _ (all_clear s x.bit.0 c.clear_up_to-clear.result clear (omega arith)) c.in_err-passed.ensures)
