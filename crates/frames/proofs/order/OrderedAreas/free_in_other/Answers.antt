-- `frames::order::OrderedAreas::free_in_other` meets its contract. Assumes nothing.
use mathlib.Core.Path.{subst}
use Rattle.frames.specs.declared.Area.{Area}
use Rattle.frames.specs.Steps.Others.{FreeIn}
use Rattle.frames.proofs.order.OrderedAreas.free_in_other.Goals as goal

pub returns : goal.returns
returns c =
    let x = c.args in
    record {
      other = λ _. subst (λ (a : Area). FreeIn x.marks.now x.self.now.base a x.from.0 c.free_in_area.result.0) c.area_at.ensures c.free_in_area.ensures;
      left_out = λ e. absurd (c.if-i-held.false e);
    }
