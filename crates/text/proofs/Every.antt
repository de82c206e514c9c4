-- "Each" of a range as a list. Assumes nothing.
--     every_list    each number of a range passes just where each of the list of them does
use Prim.Native.Nat.{ℕ, zero, suc, ◌+◌}
use native.Mathlib.Omega.{arith}
use mathlib.Core.Path.{◌≡◌, ap, subst, ◌∙◌}
use mathlib.Core.Bool.{Bool, true, ◌&&◌}
use Rattle.std.specs.List.{list_all, range_with_len}
use Rattle.search.specs.Search.{every}
use Rattle.search.proofs.Bools.{by_cases, below_or_not, not_flips}
use Rattle.search.proofs.Ranges.{all_every, every_all, every_miss, every_no, every_none}

module _ (p : ℕ → Bool) where
  -- the first number of a range, and the rest
  every_first : (i d : ℕ) → every p i (suc d) ≡ (p i && every p (i + 1) d)
  every_first i d =
      by_cases (p i)
      (λ t.
      by_cases (every p (i + 1) d)
      (λ u.
      rw (t, u)
      (all_every p i (suc d)
      (λ k a b. below_or_not i k (λ h. every_all p (i + 1) d u k (omega arith) (omega arith)) (λ h. subst (λ (x : ℕ). p x ≡ true) (omega arith) t))))
      (λ u.
      let w = every_no p (i + 1) d u in
      rw (t, u) (every_miss p i (suc d) w.at (omega (arith, w.low)) (omega (arith, w.high)) (not_flips (p w.at) w.hit))))
      (λ f. rw f (every_miss p i (suc d) i (omega arith) (omega arith) f))

  pub every_list : (i d : ℕ) → every p i d ≡ list_all p (range_with_len i d)
  every_list i zero = every_none p i
  every_list i (suc d) = every_first i d ∙ ap (λ (b : Bool). p i && b) (every_list (i + 1) d)
