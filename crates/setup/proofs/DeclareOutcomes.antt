-- What a declaration does: the shape check, then the plan, then what the plan says is written. Assumes nothing.
--     concluded          what is left by a plan
--     declare_plan       a declaration of the right shape
--     plan_few           a plan that makes an area finds room for its record
--     declare_lacking, declare_wrong, declare_not, declare_few, declare_made    the same, from what the call has
use Rattle.std.specs.Prelude.{Result, Ok, Err}
use Prim.Native.Nat.{ℕ, ◌≤◌, ◌<◌}
use native.Mathlib.Omega.{arith}
use mathlib.Core.Bool.{Bool, true, false, not}
use mathlib.Core.List.{List, [], ◌∷◌}
use mathlib.Core.Path.{◌≡◌, refl, sym, ap, ◌∙◌}
use lib.ListN.{length, drop}
use Rattle.search.proofs.Bools.{by_cases, below_or_not}
use Rattle.answer.specs.Answers.{done}
use Rattle.frames.specs.declared.Area.{Area}
use Rattle.frames.specs.Areas.{word_count}
use Rattle.frames.specs.Tables.{Tables, tables, fill, with_bitmap}
use Rattle.rules.specs.Limits.{most_areas, most_area_numbers}
use Rattle.rules.specs.Does.{with_all_areas}
use Rattle.rules.specs.declared.Record.{Record}
use Rattle.rules.specs.declared.Request.{Request}
use Rattle.rules.specs.Shape.{words_needed, shape_right, shape_wrong}
use Rattle.rules.specs.Outcomes.{Outcome, outcome, Check, ◌⇒◌, refuse, checked}
use Rattle.rules.specs.Declare.{area_for, with_area, declare_checks, declare}
use Rattle.rules.proofs.Checks.{checked_stop, checked_pass}
use Rattle.rules.proofs.Shapes.{shape_known}
use Rattle.setup.specs.Steps.Plan.{plan_tables, planned, plan}
use Rattle.setup.proofs.AllAreas.{asked, lacking}
use Rattle.setup.proofs.Plans.{plan_alike, plan_full}

-- the record, the answer and the tables that an area leaves
abbrev pub declared : Record → Tables → Area → Outcome
declared m t a = outcome (with_area m a) (done a.base.0 a.count) (with_bitmap t (fill t.bitmap (words_needed m) (word_count a) 0))

abbrev pub concluded : Record → Tables → Result Area ℕ → Outcome
concluded m t (Ok a) = declared m t a
concluded m t (Err n) = refuse m t n

module _ (m : Record) (t : Tables) (a : Area) where
  conclude : (cs : List Check) → checked m t cs (declared m t a) ≡ concluded m t (planned cs a)
  unfolding checked planned
  conclude [] = refl
  conclude (c ∷ cs) = by_cases c.holds (λ e. rw e) (λ e. rw e (conclude cs))

pub plan_few : (m : Record) (r : Request) (t : Tables) {a : Area} → plan m r t ≡ Ok a → m.memory.declared < most_areas
plan_few m r t e =
    below_or_not m.memory.declared most_areas (λ h. h)
    (λ h. absurd (let z : ◌≡◌ {A = ℕ} 0 1 = (let g = plan_full m r t h in cc) in omega arith))

module _ (m : Record) (r : Request) (t : Tables) where
  pub declare_plan : shape_right m t ≡ true → declare m r t ≡ concluded m t (plan m r t)
  unfolding declare
  declare_plan s =
      checked_pass m t (shape_wrong m t ⇒ 1) (drop 1 (declare_checks m r t)) (declared m t (area_for m r t)) (ap not s) ∙
      conclude m t (area_for m r t) (drop 1 (declare_checks m r t))

  declare_shape : shape_right m t ≡ false → declare m r t ≡ refuse m t 1
  unfolding declare
  declare_shape e = checked_stop m t (shape_wrong m t ⇒ 1) (drop 1 (declare_checks m r t)) (declared m t (area_for m r t)) (ap not e)

  -- what a declaration does that asks for the numbers of all areas: lent more or fewer, it is refused
  abbrev does : Outcome
  does = with_all_areas (λ m. declare m r) m t

  pub declare_lacking : (length m.areas ≡ most_area_numbers → ⊥) → refuse m t 1 ≡ does
  declare_lacking = lacking (λ m. declare m r) m t

  -- ---- from what the call's tests and its plan gave
  module _ (all : length m.areas ≡ most_area_numbers) {right : Bool} (is : right ≡ shape_right m t) where
    does_declare : declare m r t ≡ does
    does_declare = asked (λ m. declare m r) m t all

    pub declare_wrong : right ≡ false → refuse m t 1 ≡ does
    declare_wrong e = sym (declare_shape (sym is ∙ e)) ∙ does_declare

    module _ (yes : right ≡ true) where
      pub shape_is : shape_right m t ≡ true
      shape_is = sym is ∙ yes

      pub words_inside : words_needed m ≤ length t.bitmap
      words_inside = (shape_known m t shape_is).bitmap_high

      module _ {p : Result Area ℕ} (e : p ≡ plan m r (plan_tables t.marks t.bitmap)) where
        concludes : concluded m t p ≡ does
        concludes = sym (declare_plan shape_is ∙ ap (concluded m t) (plan_alike m r t (plan_tables t.marks t.bitmap) (λ q. refl) refl ∙ sym e)) ∙ does_declare

      pub declare_not : (n : ℕ) → Err n ≡ plan m r (plan_tables t.marks t.bitmap) → refuse m t n ≡ does
      declare_not n e = concludes e

      pub declare_few : (a : Area) → Ok a ≡ plan m r (plan_tables t.marks t.bitmap) → m.memory.declared < most_areas
      declare_few a e = plan_few m r (plan_tables t.marks t.bitmap) (sym e)

      pub declare_made :
          {a : Area} {next : Record} {bitmap : List ℕ} →
          Ok a ≡ plan m r (plan_tables t.marks t.bitmap) →
          bitmap ≡ fill t.bitmap (words_needed m) (word_count a) 0 →
          next ≡ with_area m a → outcome next (done a.base.0 a.count) (tables t.marks t.words bitmap t.owners) ≡ does
      declare_made e b w = rw (b, w) (concludes e)
