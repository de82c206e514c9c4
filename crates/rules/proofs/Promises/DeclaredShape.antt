-- An accepted declare leaves the shape right. Assumes nothing.
use Rattle.std.proofs.Common.{◌≡◌, true, length, refl, arith}
use Rattle.search.proofs.Bools.{not_flips}
use Rattle.frames.specs.Tables.{Tables}
use Rattle.rules.specs.declared.Request.{Request}
use Rattle.rules.specs.declared.Record.{Record}
use Rattle.rules.specs.Declare.{declare_checks, declare}
use Rattle.rules.specs.Limits.{most_area_numbers}
use Rattle.rules.specs.Outcomes.{Outcome}
use Rattle.rules.specs.Shape.{shape_right}
use Rattle.rules.specs.Promises.Declares.{DeclareKeepsShape}
use Rattle.rules.proofs.Checks.{accepted_passed}
use Rattle.rules.proofs.Placement.{declare_cases, declared_shape, declared_records}

first_check : (m : Record) (r : Request) (t : Tables) → (declare m r t).answer.refusal ≡ 0 → shape_right m t ≡ true
unfolding declare
first_check m r t e = not_flips (shape_right m t) (accepted_passed m t (declare_checks m r t) _ refl e).0

abbrev KeepsShape : Outcome → Type 0
KeepsShape o = o.answer.refusal ≡ 0 → (shape_right o.machine o.left ≡ true) × (length o.machine.areas ≡ most_area_numbers)

pub declare_keeps_shape : DeclareKeepsShape
declare_keeps_shape m r t records accepted =
    declare_cases KeepsShape m r t (λ number some e. absurd (omega arith))
    (λ d e. (declared_shape m r t (first_check m r t accepted) records d, declared_records m r t (first_check m r t accepted) records d)) accepted
