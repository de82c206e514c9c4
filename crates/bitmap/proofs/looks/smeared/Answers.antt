-- `bitmap::looks::smeared` meets its contract: each turn tells of twice as many bits, and the last step of those that are left. Assumes nothing.
use native.Mathlib.Omega.{arith}
use Rattle.bitmap.proofs.Smears.{smear_none, smear_more, smear_to}
use Rattle.bitmap.proofs.looks.smeared.Goals as goal

pub loop-told-init : goal.loop-told-init
loop-told-init c = (omega arith, omega arith, smear_none c.args.w)

pub loop-told-preserved : goal.loop-told-preserved
loop-told-preserved c =
    let l = c.loop-told in
    (omega arith, omega arith, smear_more c.args.w l.x l.told l.told (omega arith) l.invariant.2)

pub returns : goal.returns
returns c =
    let l = c.loop-told in
    smear_to c.args.w l.x l.told c.args.reach l.invariant.1 (omega arith) l.invariant.2
