-- `shape::past_other` meets its contract: an area that is apart from another and does not begin after it ends before it, and one that does
-- begins after its end. Assumes nothing.
use native.Mathlib.Omega.{arith}
use Prim.Native.Nat.{◌≤◌, ◌<◌}
use mathlib.Core.Path.{◌≡◌}
use mathlib.Core.Bool.{true}
use mathlib.Core.Logic.{inl, inr, ⊎_elim}
use Rattle.frames.specs.declared.Area.{Area}
use Rattle.frames.specs.Areas.{end_of, are_disjoint}
use Rattle.shape.proofs.Disjoint.{one_ends}
use Rattle.shape.proofs.Rooms.{lies, does_lie}
use Rattle.shape.proofs.past_other.Goals as goal

ends-before : (other a : Area) → are_disjoint other a ≡ true → 1 ≤ a.count → other.base.0 ≤ a.base.0 → end_of other ≤ a.base.0
ends-before other a e some l = ⊎_elim (λ h. h) (λ h. absurd (omega arith)) (one_ends other a e)

begins-after : (other a : Area) → are_disjoint other a ≡ true → a.base.0 < other.base.0 → end_of a ≤ other.base.0
begins-after other a e l = ⊎_elim (λ h. absurd (omega arith)) (λ h. h) (one_ends other a e)

pub overflow_add-past : goal.overflow_add-past
overflow_add-past c = omega (arith, ends-before c.args.other c.args.a c.requires.a_value c.requires.room_value.1 c.if-other-a.true)

pub returns-then-other-a : goal.returns-then-other-a
returns-then-other-a c =
    let inside = lies c.args.a c.args.room c.requires.room_value.0 in
    let before = ends-before c.args.other c.args.a c.requires.a_value c.requires.room_value.1 c.if-other-a.true in
    record { part_beside = record { low = omega arith; high = omega arith; beside = inl (omega arith) }; result_value = does_lie c.args.a _ (omega arith) (omega arith) }

pub returns : goal.returns
returns c =
    let inside = lies c.args.a c.args.room c.requires.room_value.0 in
    let after = begins-after c.args.other c.args.a c.requires.a_value (omega arith) in
    record { part_beside = record { low = omega arith; high = omega arith; beside = inr (omega arith) }; result_value = does_lie c.args.a _ (omega arith) (omega arith) }
