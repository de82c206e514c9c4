-- `shape::larger_part` meets its contract: of an area in the room neither difference goes below 0, and both parts lie beside it.
-- Assumes nothing.
use native.Mathlib.Omega.{arith}
use mathlib.Core.Logic.{inl, inr}
use Rattle.shape.proofs.Rooms.{lies}
use Rattle.shape.proofs.larger_part.Goals as goal

pub overflow_add-past : goal.overflow_add-past
overflow_add-past c = let inside = lies c.args.a c.args.room c.requires in omega arith

pub overflow_sub-end : goal.overflow_sub-end
overflow_sub-end c = let inside = lies c.args.a c.args.room c.requires in omega arith

pub overflow_sub-first : goal.overflow_sub-first
overflow_sub-first c = let inside = lies c.args.a c.args.room c.requires in omega arith

pub returns-then-end-past : goal.returns-then-end-past
returns-then-end-past c = let inside = lies c.args.a c.args.room c.requires in record { low = omega arith; high = omega arith; beside = inr (omega arith) }

pub returns : goal.returns
returns c = let inside = lies c.args.a c.args.room c.requires in record { low = omega arith; high = omega arith; beside = inl (omega arith) }
