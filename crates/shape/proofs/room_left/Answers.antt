-- `shape::room_left` meets its contract: in a room that is free of the areas before it the area is apart from them, and what it leaves of a room
-- in which it lies, the one that was kept or the one around it, is free of all. Assumes nothing.
use mathlib.Core.Path.{sym, ◌∙◌}
use Rattle.shape.proofs.Rooms.{in_free, part_free}
use Rattle.shape.proofs.room_left.Goals as goal

pub returns-then-lies_in : goal.returns-then-lies_in
returns-then-lies_in c =
    record {
      apart = sym (in_free c.args.areas.now c.args.i c.args.room c.requires.free (rw c.requires.a_value.0 at (sym c.lies_in.ensures ∙ c.if-lies_in.true)));
      room = part_free c.args.areas.now c.args.i c.args.room c.larger_part.result c.requires.free (rw c.requires.a_value.0 at c.larger_part.ensures);
    }

pub larger_part-requires-2 : goal.larger_part-requires-2
larger_part-requires-2 c = rw c.requires.a_value.0 c.in_ok-around.ensures.room.1

pub returns-in_err-around : goal.returns-in_err-around
returns-in_err-around c = rw c.from_residual.ensures (record { apart = c.in_err-around.ensures.apart; room = tt })

pub returns : goal.returns
returns c =
    let around = c.in_ok-around in
    record {
      apart = around.ensures.apart;
      room = part_free c.args.areas.now c.args.i around.around c.larger_part-2.result around.ensures.room.0 (rw c.requires.a_value.0 at c.larger_part-2.ensures);
    }
