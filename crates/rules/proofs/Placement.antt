-- The call: a declare is refused, or adds its area and clears its words, and the shape stays right. Assumes nothing.
use Rattle.std.proofs.Common.{◌≡◌, ℕ, ◌<◌, true, length, refl, ◌∙◌}
use Rattle.answer.specs.Answers.{done}
use Rattle.frames.specs.declared.Area.{Area}
use Rattle.frames.specs.Areas.{word_count}
use Rattle.frames.specs.Tables.{Tables, fill, with_bitmap}
use Rattle.frames.proofs.AreaNumbers.{length_set_area}
use Rattle.frames.proofs.FillFacts.{length_fill}
use Rattle.rules.specs.declared.Request.{Request}
use Rattle.rules.specs.declared.Record.{Record}
use Rattle.rules.specs.Declare.{area_for, with_area, declare}
use Rattle.rules.specs.Limits.{most_area_numbers}
use Rattle.rules.specs.Shape.{words_needed, shape_right}
use Rattle.rules.specs.Outcomes.{Outcome, outcome, refuse}
use Rattle.rules.proofs.Checks.{checked_cases}
use Rattle.rules.proofs.NewArea.{new_shape}
use Rattle.rules.proofs.Promises.Declares.{right}
pub use Rattle.rules.proofs.Placed.{Declarable}

-- what an accepted declare leaves
abbrev pub new_area : Record → Request → Tables → Area
new_area = area_for

abbrev pub new_tables : Record → Request → Tables → Tables
new_tables m r t = with_bitmap t (fill t.bitmap (words_needed m) (word_count (new_area m r t)) 0)

-- a declare is refused, or it passed all its checks
pub declare_cases :
    (P : Outcome → Type 0) (m : Record) (r : Request) (t : Tables) →
    ((number : ℕ) → 0 < number → P (refuse m t number)) →
    (Declarable m r t → P (outcome (with_area m (new_area m r t)) (done (new_area m r t).base.0 (new_area m r t).count) (new_tables m r t))) →
    P (declare m r t)
unfolding declare
declare_cases P m r t refused passed =
    checked_cases P m t _ _ refl refused (λ c. passed (right m r t c))

-- ---- and leaves the shape right

module _ (m : Record) (r : Request) (t : Tables) (shape : shape_right m t ≡ true) (records : length m.areas ≡ most_area_numbers) (d : Declarable m r t) where
  pub declared_shape : shape_right (with_area m (new_area m r t)) (new_tables m r t) ≡ true
  declared_shape =
      new_shape m t (new_area m r t) shape records d.more d.right d.vacant (new_tables m r t)
      (record { marks = refl; words = refl; bitmap = length_fill 0 t.bitmap (words_needed m) (word_count (new_area m r t)); owners = refl }) d.room

  pub declared_records : length (with_area m (new_area m r t)).areas ≡ most_area_numbers
  declared_records = length_set_area m.areas m.memory.declared (new_area m r t) ∙ records
