-- `bitmap::looks::smeared` meets its contract. The loop's invariant: the word tells of `told` bits of the word given, from each bit on.
-- The measure is how many bits are left to tell of. Assumes nothing.
use Prim.Native.Nat.{◌-◌, ◌≤◌, ◌<◌}
use Rattle.bitmap.specs.Steps.Looks.{Smears}
use Rattle.bitmap.proofs.looks.smeared.Given as goal

abbrev pub invariant-loop-told : goal.invariant-loop-told
invariant-loop-told l = (0 < l.told) × (l.told ≤ l.reach) × Smears l.told l.w l.x

abbrev pub decreases-loop-told : goal.decreases-loop-told
decreases-loop-told l = l.reach - l.told
