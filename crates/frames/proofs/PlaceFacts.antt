-- A place where it comes before the end, and none else. Assumes nothing.
--     some_below, none_below    whether there is one, by the number
--     below_some, below_none    the number, by whether there is one
use Prim.Native.Nat.{ℕ, ◌≤◌, ◌<◌}
use mathlib.Core.Bool.{Bool}
use mathlib.Core.Path.{◌≡◌, sym, ap, subst, ◌∙◌}
use borrow.Author.Tests.{le-ltb, lt-ltb}
use Rattle.std.specs.Prelude.{Option, Some, None, if◌then◌else◌}
use Rattle.std.specs.Option.{is_some, unwrap_or}
use Rattle.search.proofs.Bools.{below_or_not, clash}
use Rattle.frames.specs.declared.Place.{Place}
use Rattle.frames.specs.Units.{place, place_below}

pub some_below : (i end : ℕ) → i < end → place_below i end ≡ Some (place i)
some_below i end h = ap (λ (b : Bool). if b then Some (place i) else None) (lt-ltb i end h)

pub none_below : (i end : ℕ) → end ≤ i → place_below i end ≡ None
none_below i end h = ap (λ (b : Bool). if b then Some (place i) else None) (le-ltb i end h)

pub record Below (i end : ℕ) (p : Place) : Type 0 where
  pub is : p.0 ≡ i
  pub high : p.0 < end

module _ {r : Option Place} (i end : ℕ) (e : r ≡ place_below i end) where
  pub below_some : {p : Place} → r ≡ Some p → Below i end p
  below_some {p} f =
      below_or_not i end
      (λ h.
      let is : p.0 ≡ i = ap (λ (o : Option Place). (unwrap_or o p).0) (sym f ∙ e ∙ some_below i end h) in
      record { is = is; high = subst (λ (k : ℕ). k < end) (sym is) h })
      (λ h. clash (is_some r) (ap is_some f) (ap is_some (e ∙ none_below i end h)))

  pub below_none : r ≡ None → end ≤ i
  below_none f = below_or_not i end (λ h. clash (is_some r) (ap is_some (e ∙ some_below i end h)) (ap is_some f)) (λ h. h)
