-- The laws of a call's list of checks. Assumes nothing.
--     checked_stop, checked_pass    the first check holds; it does not
--     checked_first, checked_passed what a call does then
--     checked_cases                 what holds of a refusal, and of the call where it passed, holds of what the call does
--     accepted_does, accepted_passed    a call that is accepted has passed every check
use Rattle.std.proofs.Common.{◌≡◌, ℕ, ◌<◌, Bool, true, false, ◌&&◌, ltb, List, [], ◌∷◌, refl, ◌∙◌, arith, ltb-true}
use Rattle.search.proofs.Bools.{by_cases, and_left, and_right}
use Rattle.frames.specs.Tables.{Tables}
use Rattle.rules.specs.declared.Record.{Record}
use Rattle.rules.specs.Outcomes.{Outcome, Check, refuse, checked, First, here, there, Passed}

module _ (m : Record) (t : Tables) where
  pub checked_stop : (c : Check) (cs : List Check) (o : Outcome) → c.holds ≡ true → checked m t (c ∷ cs) o ≡ refuse m t c.number
  unfolding checked
  checked_stop c cs o e = rw e

  pub checked_pass : (c : Check) (cs : List Check) (o : Outcome) → c.holds ≡ false → checked m t (c ∷ cs) o ≡ checked m t cs o
  unfolding checked
  checked_pass c cs o e = rw e

  pub checked_end : (o : Outcome) → checked m t [] o ≡ o
  unfolding checked
  checked_end o = refl

  pub checked_first : {cs : List Check} {n : ℕ} (o : Outcome) → First cs n → checked m t cs o ≡ refuse m t n
  checked_first o (here {c} {cs} e) = checked_stop c cs o e
  checked_first o (there {c} {cs} e f) = checked_pass c cs o e ∙ checked_first o f

  pub checked_passed : (cs : List Check) (o : Outcome) → Passed cs → checked m t cs o ≡ o
  checked_passed [] o p = checked_end o
  checked_passed (c ∷ cs) o p = checked_pass c cs o p.0 ∙ checked_passed cs o p.1

-- each check has a refusal's number
abbrev pub numbered : List Check → Bool
numbered [] = true
numbered (c ∷ cs) = ltb 0 c.number && numbered cs

pub checked_cases :
    (P : Outcome → Type 0) (m : Record) (t : Tables) (cs : List Check) (o : Outcome) →
    numbered cs ≡ true → ((number : ℕ) → 0 < number → P (refuse m t number)) → (Passed cs → P o) → P (checked m t cs o)
unfolding checked
checked_cases P m t [] o nums refused passed = passed tt
checked_cases P m t (c ∷ cs) o nums refused passed =
    by_cases c.holds (λ e. rw e (refused c.number (ltb-true 0 c.number (and_left (ltb 0 c.number) (numbered cs) nums))))
    (λ e. rw e (checked_cases P m t cs o (and_right (ltb 0 c.number) (numbered cs) nums) refused (λ rest. passed (e, rest))))

-- what holds of the call where it passed holds of what it does where it is accepted
pub accepted_does :
    (P : Outcome → Type 0) (m : Record) (t : Tables) (cs : List Check) (o : Outcome) →
    numbered cs ≡ true → (checked m t cs o).answer.refusal ≡ 0 → (Passed cs → P o) → P (checked m t cs o)
accepted_does P m t cs o nums accepted does =
    checked_cases (λ x. x.answer.refusal ≡ 0 → P x) m t cs o nums (λ number h e. absurd (omega arith)) (λ passed e. does passed) accepted

pub accepted_passed :
    (m : Record) (t : Tables) (cs : List Check) (o : Outcome) → numbered cs ≡ true → (checked m t cs o).answer.refusal ≡ 0 → Passed cs
accepted_passed m t cs o nums accepted = accepted_does (λ _. Passed cs) m t cs o nums accepted (λ passed. passed)
