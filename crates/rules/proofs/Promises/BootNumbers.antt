-- Boot's numbers and their places: the shape's, the text's, and the first region's that is refused. Assumes nothing.
use Rattle.std.proofs.Common.{◌≡◌, ℕ, suc, Bool, true, false, not, ◌&&◌, eqb, ◌⊎◌, ◌↔◌, List, [], ◌∷◌, sym, refl, ◌∙◌, subst, ap₂, inl, inr, ⊎_elim, eqb-true}
use mathlib.Core.Logic.Iff
use borrow.Author.Tests.{eqb-false}
use Rattle.std.specs.Prelude.{if◌then◌else◌}
use Rattle.frames.specs.Tables.{Tables}
use Rattle.regions.specs.declared.Region.{Region}
use Rattle.text.specs.Reading.{Read, gives, refuses, ◌then◌, refuse_if}
use Rattle.regions.specs.Text.{regions}
use Rattle.rules.specs.declared.Record.{Record}
use Rattle.rules.specs.Outcomes.{Outcome}
use Rattle.rules.specs.Shape.{memory_right, lengths_right}
use Rattle.rules.specs.Declare.{declare}
use Rattle.rules.specs.Boot.{zero_tables, declare_all, boot_record, booted, boot}
use Rattle.rules.specs.Record.{bare_record}
use Rattle.rules.specs.Promises.Boots.{region_request}
use Rattle.rules.specs.Promises.Shapes.{RightMemory, RightLengths}
use Rattle.rules.specs.Promises.Numbers.{DeclareRefusal, RegionsAnswer, BootAnswers, BootAnswersPlace}
use Rattle.rules.proofs.Says.{Says, says_no, says_and}
use Rattle.rules.proofs.Promises.DeclareNumbers.{declare_exactly}
use Rattle.rules.proofs.Promises.Shapes.{memory_says, lengths_says}

-- the number and the place that a reading comes to
abbrev Comes : Read Record → ℕ → ℕ → Type 0
Comes (gives new end) n at = (n ≡ 0) × (at ≡ 0)
Comes (refuses number place) n at = (n ≡ number) × (at ≡ place)

-- ---- the regions in turn
regions_come : (rs : List Region) (i : ℕ) (m : Record) (t : Tables) (n at : ℕ) → Comes (declare_all rs i m t) n at ↔ RegionsAnswer rs i m t n at
unfolding declare_all
regions_come [] i m t n at = (λ h. h, λ h. h)
regions_come (r ∷ rs) i m t n at = by (eqb o.answer.refusal 0) refl (regions_come rs (suc i) o.machine o.left n at)
  where
    o : Outcome
    o = declare m (region_request r) t

    exact : (n : ℕ) → (o.answer.refusal ≡ n) ↔ DeclareRefusal (region_request r) m t n
    exact = declare_exactly m (region_request r) t

    next : Read Record
    next = declare_all rs (suc i) o.machine o.left

    by :
        (b : Bool) → eqb o.answer.refusal 0 ≡ b →
        Comes next n at ↔ RegionsAnswer rs (suc i) o.machine o.left n at →
        Comes (if b then next else refuses o.answer.refusal i) n at ↔ RegionsAnswer (r ∷ rs) i m t n at
    by true e rest =
        let done = eqb-true o.answer.refusal 0 e in (
          λ h. inr ((exact 0).0 done, rest.0 h),
          ⊎_elim (λ w. absurd (w.0 (sym ((exact n).1 w.1) ∙ done))) (λ w. rest.1 w.1),
        )
    by false e rest =
        let not_done = eqb-false o.answer.refusal 0 e in (
          λ h. inl (λ z. not_done (sym h.0 ∙ z), (exact n).0 (sym h.0), h.1),
          ⊎_elim (λ w. (sym ((exact n).1 w.1), w.2)) (λ w. absurd (not_done ((exact 0).1 w.0))),
        )

module _ (base frames block_order : ℕ) (text : List ℕ) (t : Tables) (n at : ℕ) where
  -- ---- the text, then its regions
  abbrev rest : Read (List Region) → Read Record
  rest read = read then λ rs _. declare_all rs 0 (bare_record base frames block_order) (zero_tables t)

  abbrev RestAnswers : Type 0
  RestAnswers =
      (regions text ≡ refuses n at) ⊎
      ((rs : List Region) × (end : ℕ) × (regions text ≡ gives rs end) × RegionsAnswer rs 0 (bare_record base frames block_order) (zero_tables t) n at)

  text_known : (read : Read (List Region)) → regions text ≡ read → Comes (rest read) n at → RestAnswers
  text_known (gives rs end) e h = inr (rs, end, e, (regions_come rs 0 (bare_record base frames block_order) (zero_tables t) n at).0 h)
  text_known (refuses number place) e h = inl (e ∙ ap₂ refuses (sym h.0) (sym h.1))

  text_test : RestAnswers → Comes (rest (regions text)) n at
  text_test (inl e) = subst (λ (x : Read (List Region)). Comes (rest x) n at) (sym e) (refl, refl)
  text_test (inr w) =
      subst (λ (x : Read (List Region)). Comes (rest x) n at) (sym w.2)
      ((regions_come w.0 0 (bare_record base frames block_order) (zero_tables t) n at).1 w.3)

  -- ---- the shape comes first
  shape_says : Says (memory_right base frames block_order && lengths_right frames t) (RightMemory base frames block_order × RightLengths frames t)
  shape_says = says_and (memory_says base frames block_order) (λ _. lengths_says frames t)

  boot_comes : Comes (boot_record base frames block_order text t) n at ↔ BootAnswers base frames block_order text t n at
  unfolding boot_record
  boot_comes = by (memory_right base frames block_order && lengths_right frames t) refl
    where
      by :
          (b : Bool) → (memory_right base frames block_order && lengths_right frames t) ≡ b →
          Comes (refuse_if (not b) 1 0 (rest (regions text))) n at ↔ BootAnswers base frames block_order text t n at
      by true e = (
        λ h. inr (shape_says.fact e, text_known (regions text) refl h),
        ⊎_elim (λ w. absurd (w.0 (shape_says.fact e))) (λ w. text_test w.1),
      )
      by false e = (λ h. inl (says_no shape_says e, h.0, h.1), ⊎_elim (λ w. (w.1, w.2)) (λ w. absurd (says_no shape_says e w.0)))

-- ---- the answer of a boot is what its reading comes to
booted_comes :
    (m : Record) (t : Tables) (read : Read Record) (n at : ℕ) →
    (((booted m t read).answer.refusal ≡ n) × ((booted m t read).answer.first ≡ at)) ↔ Comes read n at
booted_comes m t (gives new end) n at = (λ h. (sym h.0, sym h.1), λ h. (sym h.0, sym h.1))
booted_comes m t (refuses number place) n at = (λ h. (sym h.0, sym h.1), λ h. (sym h.0, sym h.1))

booted_zero : (m : Record) (t : Tables) (read : Read Record) → (booted m t read).answer.second ≡ 0
booted_zero m t (gives new end) = refl
booted_zero m t (refuses number place) = refl

pub boot_answers_place : BootAnswersPlace
unfolding boot
boot_answers_place base frames block_order text m t = (
  λ n at. Iff.trans (booted_comes m t (boot_record base.0 frames block_order text t) n at) (boot_comes base.0 frames block_order text t n at),
  booted_zero m t (boot_record base.0 frames block_order text t),
)
