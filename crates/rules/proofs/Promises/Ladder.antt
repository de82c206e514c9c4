-- A list of checks answers as a list of plain conditions says, once for every list. Assumes nothing.
--     Ladder       the refusal of the checks is n just where the rule says n
--     rung, foot   one check more, whose later ones may use that it does not hold; no check is left
--     exactly      the law as it is stated
use Rattle.std.proofs.Common.{◌≡◌, ℕ, Bool, ◌↔◌, List, [], ◌∷◌, sym, ap, ◌∙◌, inl, inr, ⊎_elim}
use Rattle.search.proofs.Bools.{by_cases}
use Rattle.frames.specs.Tables.{Tables}
use Rattle.rules.specs.declared.Record.{Record}
use Rattle.rules.specs.Outcomes.{Outcome, Check, ◌⇒◌, checked}
use Rattle.rules.specs.Promises.Numbers.{◌answers◌otherwise◌, Accepted}
use Rattle.rules.proofs.Checks.{checked_stop, checked_pass, checked_end}
use Rattle.rules.proofs.Says.{Says, says_no}

-- the refusal that a list of checks comes to
abbrev pub refusal_by : Record → Tables → Outcome → List Check → ℕ
refusal_by m t o cs = (checked m t cs o).answer.refusal

pub record Ladder (m : Record) (t : Tables) (o : Outcome) (cs : List Check) (rule : ℕ → Type 0) : Type 0 where
  pub known : (n : ℕ) → refusal_by m t o cs ≡ n → rule n
  pub given : (n : ℕ) → rule n → refusal_by m t o cs ≡ n

refusal_is : {x y : Outcome} → x ≡ y → x.answer.refusal ≡ y.answer.refusal
refusal_is e = ap (λ (x : Outcome). x.answer.refusal) e

module _ {m : Record} {t : Tables} {o : Outcome} where
  pub rung :
      {b : Bool} {P : Type 0} {number : ℕ} {cs : List Check} {later : ℕ → Type 0} →
      Says b P → ((P → ⊥) → Ladder m t o cs later) → Ladder m t o (b ⇒ number ∷ cs) (P answers number otherwise later)
  rung {b} {P} {number} {cs} {later} s rest =
      by_cases b (λ e. stops (s.fact e) (refusal_is (checked_stop m t (b ⇒ number) cs o e)))
      (λ e. passes (says_no s e) (refusal_is (checked_pass m t (b ⇒ number) cs o e)))
    where
      Goal : Type 0
      Goal = Ladder m t o (b ⇒ number ∷ cs) (P answers number otherwise later)

      stops : P → refusal_by m t o (b ⇒ number ∷ cs) ≡ number → Goal
      stops holds is =
          record {
            known = λ n h. inl (holds, sym h ∙ is);
            given = λ n. ⊎_elim (λ w. is ∙ sym w.1) (λ w. absurd (w.0 holds));
          }

      passes : (P → ⊥) → refusal_by m t o (b ⇒ number ∷ cs) ≡ refusal_by m t o cs → Goal
      passes none is =
          record {
            known = λ n h. inr (none, (rest none).known n (sym is ∙ h));
            given = λ n. ⊎_elim (λ w. absurd (none w.0)) (λ w. is ∙ (rest none).given n w.1);
          }

  pub foot : o.answer.refusal ≡ 0 → Ladder m t o [] Accepted
  foot done =
      let end = refusal_is (checked_end m t o) ∙ done in
      record { known = λ n h. sym h ∙ end; given = λ n h. end ∙ sym h }

  pub exactly : {cs : List Check} {rule : ℕ → Type 0} → Ladder m t o cs rule → (n : ℕ) → (refusal_by m t o cs ≡ n) ↔ rule n
  exactly l n = (l.known n, l.given n)
