-- `frames::areas::first_word` meets its contract: the words of the areas passed, up to the largest number. Assumes nothing.
use native.Mathlib.Omega.{arith}
use Rattle.frames.proofs.AreaFacts.{first_word_zero, first_word_next, first_word_clip}
use Rattle.frames.proofs.areas.first_word.Goals as goal

pub loop-before-init : goal.loop-before-init
loop-before-init c = omega (arith, first_word_zero c.args.areas.now)

pub loop-before-preserved : goal.loop-before-preserved
loop-before-preserved c =
    let at = c.loop-before in
    let words = rw c.area_at.ensures at c.words.ensures in
    omega (arith, at.invariant, first_word_next c.args.areas.now at.before, c.saturating_add-word.ensures, words)

pub returns : goal.returns
returns c =
    let x = c.args in
    let at = c.loop-before in
    omega (arith, at.invariant, first_word_clip x.areas.now x.i at.before (omega arith))
