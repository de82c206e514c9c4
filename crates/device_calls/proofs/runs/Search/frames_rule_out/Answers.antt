-- `device_calls::runs::Search::frames_rule_out` meets its contract: the first frame that cannot leave rules out the bits up to its own.
-- Assumes nothing.
use Prim.Native.Nat.{ℕ, ◌+◌, ◌-◌, ◌/◌, ◌<◌}
use native.Mathlib.Omega.{arith}
use mathlib.Core.Path.{◌≡◌, ap, ◌∙◌}
use mathlib.Core.Bool.{not}
use Rattle.search.specs.Search.{lowest}
use Rattle.frames.specs.declared.Frame.{Frame}
use Rattle.frames.specs.declared.Place.{Place}
use Rattle.frames.specs.Marks.{can_leave}
use Rattle.frames.specs.declared.Bit.{Bit}
use Rattle.frames.specs.Units.{place}
use Rattle.frames.specs.Areas.{per_bit, frame_of_bit}
use Rattle.frames.specs.Scans.{marked}
use Rattle.device_calls.specs.declared.runs.Search.{Search}
use Rattle.device_calls.specs.Steps.DeviceSteps.{TriesAt, FramesRuledOut}
use Rattle.device_calls.proofs.Tries.{stuck, frames_free, frames_ruled}
use Rattle.device_calls.proofs.runs.Search.frames_rule_out.Goals as goal

-- the first stuck frame of the run, as the scan of the marks finds it
found : (s : Search) (j : Bit) {p : Place} {f : Frame} {n : ℕ} → f ≡ frame_of_bit s.area j → p ≡ place (f.0 - s.base.0) → n ≡ lowest (λ k. not (marked can_leave s.marks.now (p.0 + k))) s.count → n ≡ stuck s j.0
found s j e at n = n ∙ ap (λ (p : Place). lowest (λ k. not (marked can_leave s.marks.now (p.0 + k))) s.count) (at ∙ ap (λ (f : Frame). place (f.0 - s.base.0)) e)

-- the bits up to it are ruled out
ruled : (s : Search) (j : Bit) {n : ℕ} → TriesAt s j → n ≡ stuck s j.0 → n < s.count → FramesRuledOut s j.0 (n / per_bit s.area + 1)
ruled s j t e h = rw (e) (frames_ruled s j.0 t.bits_is (omega arith))

pub returns-then-self-stuck : goal.returns-then-self-stuck
returns-then-self-stuck c = frames_free c.args.self.now c.args.bit.0 (omega (arith, found c.args.self.now c.args.bit c.frame_of_bit.ensures c.place_of-page.ensures c.first_stuck-stuck.ensures))

pub returns : goal.returns
returns c = ruled c.args.self.now c.args.bit c.requires (found c.args.self.now c.args.bit c.frame_of_bit.ensures c.place_of-page.ensures c.first_stuck-stuck.ensures) c.if-self-stuck.false
