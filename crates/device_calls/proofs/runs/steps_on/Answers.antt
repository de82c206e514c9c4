-- `device_calls::runs::steps_on` meets its contract: no number of it is too large. Assumes nothing.
use Prim.Native.Nat.{ℕ, ◌+◌, ◌*◌, ◌^◌, ◌≤◌, ◌<◌}
use native.Mathlib.Omega.{arith}
use mathlib.Core.Path.{◌≡◌, ap, ap₂, ◌∙◌}
use lib.Pow.{pow_pos, pow_mono}
use Rattle.frames.specs.Areas.{ceiling}
use Rattle.frames.proofs.AreaFacts.{ceiling_is}
use Rattle.rules.specs.Limits.{most_align_order}
use Rattle.device_calls.proofs.runs.steps_on.Goals as goal

-- a step is some bits, and no more than of the most order
step_fits : {order step : ℕ} → step ≡ 2 ^ order → order ≤ most_align_order → (0 < step) × (step ≤ 2 ^ most_align_order)
step_fits {order} e h = (omega (arith, e, pow_pos order), omega (arith, e, pow_mono {i = order} {j = most_align_order} h))

pub returns : goal.returns
returns c =
    let some = (step_fits c.block_of-step.ensures c.requires.0).0 in
    ap₂ (λ (n s : ℕ). c.args.bit + n * s) (c.div_ceil.ensures ∙ ceiling_is c.args.passed c.block_of-step.result some ∙ ap (ceiling c.args.passed) c.block_of-step.ensures) c.block_of-step.ensures
