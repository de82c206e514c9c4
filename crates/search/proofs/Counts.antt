-- The laws of "how many" in a range, for every test and width. Assumes nothing.
--     many_none, many_pass, many_fail   an empty range; the first number of a range passes; it fails
--     many_next                         the range grows by one at its end
--     many_split                        a range in two parts
--     many_cong                         it goes by the test's values in the range alone
--     many_le, many_zero, many_all      at most the width; none where none passes; the width where each does
--     many_parts                        those that pass are of two sorts
--     many_run                          a run of numbers passes one test and not the other, which are the same elsewhere
use Prim.Native.Nat.{ℕ, zero, suc, ◌+◌, ◌-◌, ◌≤◌, ◌<◌}
use native.Mathlib.Nat.{add-zero, zero-add, suc-add}
use native.Mathlib.Omega.{arith}
use mathlib.Core.Path.{◌≡◌, refl, sym, ap, ◌∙◌}
use mathlib.Core.Bool.{Bool, true, false}
use Rattle.std.specs.Prelude.{if◌then◌else◌}
use Rattle.search.specs.Search.{how_many}
use Rattle.search.proofs.Bools.{by_cases}

module _ (p : ℕ → Bool) where
  pub many_none : (i : ℕ) → how_many p i 0 ≡ 0
  unfolding how_many
  many_none i = refl

  pub many_pass : (i d : ℕ) → p i ≡ true → how_many p i (suc d) ≡ suc (how_many p (suc i) d)
  unfolding how_many
  many_pass i d e = rw (e, how_many)

  pub many_fail : (i d : ℕ) → p i ≡ false → how_many p i (suc d) ≡ how_many p (suc i) d
  unfolding how_many
  many_fail i d e = rw (e, how_many)

  -- one number as a range: 1 where it passes, else 0
  abbrev pub one : ℕ → ℕ
  one i = if p i then 1 else 0

  pub many_suc : (i d : ℕ) → how_many p i (suc d) ≡ one i + how_many p (suc i) d
  many_suc i d =
      by_cases (p i) (λ e. many_pass i d e ∙ rw e (omega arith)) (λ e. many_fail i d e ∙ rw e (omega arith))

  pub many_split : (i d e : ℕ) → how_many p i (d + e) ≡ how_many p i d + how_many p (i + d) e
  many_split i zero e = rw (zero-add, many_none, add-zero, zero-add)
  many_split i (suc d) e =
      let step : how_many p (suc i) (d + e) ≡ how_many p (suc i) d + how_many p (suc i + d) e = many_split (suc i) d e in
      let same : suc i + d ≡ i + suc d = omega arith in
      rw (suc-add, many_suc i (d + e), many_suc i d, step, same) (omega arith)

  pub many_one : (i : ℕ) → how_many p i 1 ≡ one i
  many_one i = many_suc i 0 ∙ rw many_none (omega arith)

  pub many_next : (i d : ℕ) → how_many p i (d + 1) ≡ how_many p i d + one (i + d)
  many_next i d = many_split i d 1 ∙ ap (λ (x : ℕ). how_many p i d + x) (many_one (i + d))

  pub many_le : (i d : ℕ) → how_many p i d ≤ d
  many_le i zero = rw many_none (omega arith)
  many_le i (suc d) =
      let h = many_le (suc i) d in
      by_cases (p i) (λ e. rw (many_pass i d e) (omega arith)) (λ e. rw (many_fail i d e) (omega arith))

  pub many_zero : (i d : ℕ) → ((k : ℕ) → i ≤ k → k < i + d → p k ≡ false) → how_many p i d ≡ 0
  many_zero i zero none = many_none i
  many_zero i (suc d) none =
      many_fail i d (none i (omega arith) (omega arith)) ∙ many_zero (suc i) d (λ k a b. none k (omega arith) (omega arith))

pub many_cong : (p q : ℕ → Bool) (i d : ℕ) → ((k : ℕ) → i ≤ k → k < i + d → p k ≡ q k) → how_many p i d ≡ how_many q i d
many_cong p q i zero same = many_none p i ∙ sym (many_none q i)
many_cong p q i (suc d) same =
    let here : p i ≡ q i = same i (omega arith) (omega arith) in
    let rest : how_many p (suc i) d ≡ how_many q (suc i) d = many_cong p q (suc i) d (λ k a b. same k (omega arith) (omega arith)) in
    rw (many_suc p i d, many_suc q i d, rest, here)

-- each number that passes p passes one of two others, and no number both of them
pub many_parts :
    (p q r : ℕ → Bool) (i d : ℕ) → ((k : ℕ) → i ≤ k → k < i + d → one p k ≡ one q k + one r k) → how_many p i d ≡ how_many q i d + how_many r i d
many_parts p q r i zero parts = rw (many_none p i, many_none q i, many_none r i) (omega arith)
many_parts p q r i (suc d) parts =
    let here : one p i ≡ one q i + one r i = parts i (omega arith) (omega arith) in
    let rest : how_many p (suc i) d ≡ how_many q (suc i) d + how_many r (suc i) d = many_parts p q r (suc i) d (λ k a b. parts k (omega arith) (omega arith)) in
    rw (many_suc p i d, many_suc q i d, many_suc r i d) (omega arith)

pub many_all : (p : ℕ → Bool) (i d : ℕ) → ((k : ℕ) → i ≤ k → k < i + d → p k ≡ true) → how_many p i d ≡ d
many_all p i zero all = many_none p i
many_all p i (suc d) all =
    many_pass p i d (all i (omega arith) (omega arith)) ∙ ap suc (many_all p (suc i) d (λ k a b. all k (omega arith) (omega arith)))

-- the run's numbers pass p and not q, and the others pass both or neither
pub many_run :
    (p q : ℕ → Bool) (n r c : ℕ) →
    r + c ≤ n →
    ((k : ℕ) → r ≤ k → k < r + c → p k ≡ true) →
    ((k : ℕ) → r ≤ k → k < r + c → q k ≡ false) →
    ((k : ℕ) → k < n → (r ≤ k → k < r + c → ⊥) → p k ≡ q k) → how_many p 0 n ≡ how_many q 0 n + c
many_run p q n r c h yes_all no_all others =
    let width : n ≡ r + (c + (n - (r + c))) = omega arith in
    let p_parts = many_split p 0 r (c + (n - (r + c))) in
    let q_parts = many_split q 0 r (c + (n - (r + c))) in
    let p_rest = many_split p (0 + r) c (n - (r + c)) in
    let q_rest = many_split q (0 + r) c (n - (r + c)) in
    let low = many_cong p q 0 r (λ k a b. others k (omega arith) (λ u v. omega arith)) in
    let high = many_cong p q (0 + r + c) (n - (r + c)) (λ k a b. others k (omega arith) (λ u v. omega arith)) in
    let p_run = many_all p (0 + r) c (λ k a b. yes_all k (omega arith) (omega arith)) in
    let q_run = many_zero q (0 + r) c (λ k a b. no_all k (omega arith) (omega arith)) in
    ap (how_many p 0) width ∙ total p_parts q_parts p_rest q_rest low high p_run q_run ∙ ap (λ (x : ℕ). how_many q 0 x + c) (sym width)
  where
    total :
        {a b a₁ a₂ b₁ b₂ a₃ a₄ b₃ b₄ : ℕ} →
        a ≡ a₁ + a₂ → b ≡ b₁ + b₂ → a₂ ≡ a₃ + a₄ → b₂ ≡ b₃ + b₄ → a₁ ≡ b₁ → a₄ ≡ b₄ → a₃ ≡ c → b₃ ≡ 0 → a ≡ b + c
    total e₁ e₂ e₃ e₄ e₅ e₆ e₇ e₈ = omega arith
