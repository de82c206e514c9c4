-- `text::writing::Writer::put_number` meets its contract: the digits are stored where they have room. Assumes nothing.
use Prim.Native.Nat.{◌+◌, ◌≤◌}
use native.Mathlib.Omega.{arith}
use mathlib.Core.Path.{refl, ap, ◌∙◌}
use lib.ListN.{length}
use lib.Seq.{sets}
use Rattle.text.specs.Writing.{decimal}
use Rattle.text.proofs.Buffer.{room_yes, room_no, appended, not_appended}
use Rattle.text.proofs.Decimal.{counted_digits}
use Rattle.text.proofs.Filling.{part_filled}
use Rattle.text.proofs.writing.Writer.put_number.Goals as goal

pub returns-then-not-has_room : goal.returns-then-not-has_room
returns-then-not-has_room c =
    let w = c.args.self.now in
    let count = c.digit_count-count in
    record {
      slice = refl;
      appended =
          not_appended w.buffer.now w.length (decimal c.args.value)
          (omega (arith, count.ensures.all, room_no w.length count.result (length w.buffer.now) c.has_room.ensures c.if-not-has_room.true));
    }

pub returns : goal.returns
returns c =
    let w = c.args.self.now in
    let count = c.digit_count-count in
    let fits : w.length + count.result ≤ length w.buffer.now = room_yes w.length count.result (length w.buffer.now) c.has_room.ensures c.if-not-has_room.false in
    let e = count.ensures.all in
    record {
      slice = refl;
      appended =
          appended w.buffer.now w.length (decimal c.args.value) _ _ (omega (arith, e, fits))
          (part_filled w.buffer.now w.length count.result _ c.args.value c.fill.new.digits c.fill.ensures (omega arith) fits
          ∙ ap (sets w.buffer.now w.length) (counted_digits c.args.value count.result count.ensures)) (omega (arith, e));
    }
