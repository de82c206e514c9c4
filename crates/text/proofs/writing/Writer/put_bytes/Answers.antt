-- `text::writing::Writer::put_bytes` meets its contract: the text is stored where it has room. Assumes nothing.
use Prim.Native.Nat.{◌+◌, ◌≤◌}
use native.Mathlib.Omega.{arith}
use mathlib.Core.Path.{refl}
use lib.ListN.{length}
use Rattle.text.proofs.Buffer.{room_yes, room_no, appended, not_appended, copied}
use Rattle.text.proofs.writing.Writer.put_bytes.Goals as goal

pub returns-then-not-has_room : goal.returns-then-not-has_room
returns-then-not-has_room c =
    let w = c.args.self.now in
    let text = c.args.text.now in
    record {
      slice = refl;
      appended = not_appended w.buffer.now w.length text (room_no w.length (length text) (length w.buffer.now) c.has_room.ensures c.if-not-has_room.true);
    }

pub returns : goal.returns
returns c =
    let w = c.args.self.now in
    let text = c.args.text.now in
    let fits : w.length + length text ≤ length w.buffer.now = room_yes w.length (length text) (length w.buffer.now) c.has_room.ensures c.if-not-has_room.false in
    record {
      slice = refl;
      appended =
          appended w.buffer.now w.length text _ _ fits
          (copied w.buffer.now w.length _ text c.copy_from_slice.new.self c.copy_from_slice.ensures.after (omega arith) fits) refl;
    }
