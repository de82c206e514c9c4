-- Laws of parts that are read one after the other. Assumes nothing.
--     then_given, then_refused    what was read first gives a value, or is refused
use Prim.Native.Nat.{ℕ}
use mathlib.Core.Path.{◌≡◌, ap}
use Rattle.text.specs.Reading.{Read, gives, refuses, ◌then◌}

module _ {A B : Type 0} (r : Read A) (next : A → ℕ → Read B) where
  pub then_given : (v : A) (at : ℕ) → r ≡ gives v at → (r then next) ≡ next v at
  then_given v at e = ap (λ (x : Read A). x then next) e

  pub then_refused : (number at : ℕ) → r ≡ refuses number at → (r then next) ≡ refuses number at
  then_refused number at e = ap (λ (x : Read A). x then next) e
