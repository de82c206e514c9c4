-- `text::writing::Writer::put_labelled` meets its contract: the label and the ended number are appended one after the other. Assumes nothing.
use Prim.Native.Nat.{ℕ, ◌+◌, ◌≤◌}
use native.Mathlib.Omega.{arith}
use mathlib.Core.Path.{refl, ◌∙◌}
use lib.ListN.{length}
use Rattle.text.specs.Writing.{ended, labelled}
use Rattle.text.proofs.Buffer.{room_yes, room_no, not_appended, appended_then}
use Rattle.text.proofs.Decimal.{counted_digits}
use Rattle.text.proofs.Texts.{labelled_length}
use Rattle.text.proofs.writing.Writer.put_labelled.Goals as goal

pub returns-then-not-has_room : goal.returns-then-not-has_room
returns-then-not-has_room c =
    let a = c.args in
    let w = a.self.now in
    let size : ℕ = length a.label.now + c.digit_count-count.result + 1 in
    record {
      slice = refl;
      appended =
          not_appended w.buffer.now w.length (labelled a.label.now a.value)
          (omega (
            arith,
            labelled_length a.label.now a.value,
            c.digit_count-count.ensures.all,
            room_no w.length size (length w.buffer.now) c.has_room.ensures c.if-not-has_room.true,
          ));
    }

pub returns : goal.returns
unfolding labelled
returns c =
    let a = c.args in
    let w = a.self.now in
    let count = c.digit_count-count in
    let size : ℕ = length a.label.now + count.result + 1 in
    let fits : w.length + length (labelled a.label.now a.value) ≤ length w.buffer.now =
    omega (
      arith,
      labelled_length a.label.now a.value,
      count.ensures.all,
      room_yes w.length size (length w.buffer.now) c.has_room.ensures c.if-not-has_room.false,
    ) in
    record {
      slice = c.put_digits.ensures.slice ∙ c.put_bytes.ensures.slice;
      appended =
          appended_then w.buffer.now w.length a.label.now (ended a.value 10) fits c.put_bytes.ensures.appended
          (rw (counted_digits a.value count.result count.ensures) at c.put_digits.ensures.appended);
    }
