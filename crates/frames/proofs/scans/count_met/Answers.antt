-- `frames::scans::count_met` meets its contract: the count of the places passed, and a mark past the end reads 0, which does not pass. Assumes
-- nothing.
use native.Mathlib.Omega.{arith}
use mathlib.Core.Path.{◌∙◌}
use mathlib.Core.Logic.{⊎_elim}
use mathlib.Core.Path.{◌≡◌, refl}
use mathlib.Core.Bool.{Bool, true, false}
use mir.Val.{bool_byte}
use Rattle.std.specs.Prelude.{if◌then◌else◌}
use Rattle.frames.proofs.MarkFacts.{past_end}
use Rattle.frames.proofs.ScanFacts.{count_start, count_le, one_le, count_turn, count_end}
use Rattle.frames.proofs.scans.count_met.Goals as goal

counted_as : (b : Bool) → bool_byte b ≡ (if b then 1 else 0)
counted_as true = refl
counted_as false = refl

pub loop-i-init : goal.loop-i-init
loop-i-init g c = (omega arith, count_start _)

pub overflow_add-found : goal.overflow_add-found
overflow_add-found g c =
    let x = c.args in
    let l = c.loop-i in
    omega (arith, counted_as c.is_met.result, c.from-found.ensures, count_le l.invariant.1, one_le c.is_met.result)

pub loop-i-preserved : goal.loop-i-preserved
loop-i-preserved g c = (omega arith, rw (c.from-found.ensures, counted_as c.is_met.result, c.is_met.ensures) (count_turn c.loop-i.invariant.1))

pub returns : goal.returns
returns g c =
    let x = c.args in
    count_end c.loop-i.invariant.1 _ (omega arith)
    (λ k a b.
    ⊎_elim (λ h. past_end (g.T.MarkTest.test x.test.now) x.marks.now k (omega arith) ∙ h) (λ h. absurd (omega arith)) c.requires)
