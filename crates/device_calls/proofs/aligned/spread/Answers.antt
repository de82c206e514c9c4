-- `device_calls::aligned::spread` meets its contract: of each word all 64 bits are computed. Assumes nothing.
use native.Mathlib.Omega.{arith}
use mathlib.Core.Path.{◌≡◌, refl, sym, subst}
use Prim.Native.Nat.{ℕ}
use Rattle.search.specs.Search.{lowest_from, some, every}
use Rattle.device_calls.specs.Steps.DeviceSteps.{Spreads}
use Rattle.device_calls.proofs.Starts.{spreads, spreads_one}
use Rattle.device_calls.proofs.aligned.spread.Goals as goal

at : {order k : ℕ} (r : ℕ) → order ≡ k → Spreads k r → Spreads order r
at r e s = subst (λ (o : ℕ). Spreads o r) (sym e) s

pub returns-in-0 : goal.returns-in-0
unfolding every some lowest_from
returns-in-0 c = at _ c.in-0.is (spreads 0 _ refl)

pub returns-in-1 : goal.returns-in-1
unfolding every some lowest_from
returns-in-1 c = at _ c.in-1.is (spreads 1 _ refl)

pub returns-in-2 : goal.returns-in-2
unfolding every some lowest_from
returns-in-2 c = at _ c.in-2.is (spreads 2 _ refl)

pub returns-in-3 : goal.returns-in-3
unfolding every some lowest_from
returns-in-3 c = at _ c.in-3.is (spreads 3 _ refl)

pub returns-in-4 : goal.returns-in-4
unfolding every some lowest_from
returns-in-4 c = at _ c.in-4.is (spreads 4 _ refl)

pub returns-in-5 : goal.returns-in-5
unfolding every some lowest_from
returns-in-5 c = at _ c.in-5.is (spreads 5 _ refl)

pub returns-in_default : goal.returns-in_default
returns-in_default c = spreads_one _ (omega arith)
