-- A run of frames is set: release frees it, and a grant takes it once its pages have left. Assumes nothing.
--     RunChange             nothing outside the run changed; fill_run: filling a run is that
--     in_run_or_not         a place is in the run or not
use Rattle.std.proofs.Common.{◌≡◌, ℕ, ◌+◌, ◌<◌, ◌≤◌, arith}
use Rattle.search.proofs.Bools.{below_or_not}
use Rattle.frames.specs.Units.{place}
use Rattle.frames.specs.Tables.{Tables, mark_at, word_at, fill_pages}
use Rattle.frames.proofs.FillFacts.{get_d_fill_below, get_d_fill_above}

pub record RunChange (t t' : Tables) (r c : ℕ) : Type 0 where
  pub marks : (q : ℕ) → (r ≤ q → q < r + c → ⊥) → mark_at t' (place q) ≡ mark_at t (place q)
  pub words : (q : ℕ) → (r ≤ q → q < r + c → ⊥) → word_at t' (place q) ≡ word_at t (place q)

pub in_run_or_not {ℓ} : {P : Type ℓ} (q r c : ℕ) → (r ≤ q → q < r + c → P) → ((r ≤ q → q < r + c → ⊥) → P) → P
in_run_or_not q r c inside outside =
    below_or_not q r (λ a. outside (λ u v. omega arith)) (λ a. below_or_not q (r + c) (λ b. inside a b) (λ b. outside (λ u v. omega arith)))

pub fill_run : (t : Tables) (r c mark word : ℕ) → RunChange t (fill_pages t (place r) c mark word) r c
fill_run t r c mark word =
    record {
      marks = λ q out.
          below_or_not q r (λ a. get_d_fill_below mark t.marks r c q a)
          (λ a. below_or_not q (r + c) (λ b. absurd (out a b)) (λ b. get_d_fill_above mark t.marks r c q b));
      words = λ q out.
          below_or_not q r (λ a. get_d_fill_below word t.words r c q a)
          (λ a. below_or_not q (r + c) (λ b. absurd (out a b)) (λ b. get_d_fill_above word t.words r c q b));
    }
