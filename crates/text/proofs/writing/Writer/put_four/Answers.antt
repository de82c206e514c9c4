-- `text::writing::Writer::put_four` meets its contract: the four ended numbers are appended one after the other. Assumes nothing.
use Prim.Native.Nat.{ℕ, ◌+◌, ◌≤◌}
use native.Mathlib.Omega.{arith}
use mathlib.Core.List.{◌++◌}
use mathlib.Core.Path.{refl, ◌∙◌}
use lib.ListN.{length, length-append}
use Rattle.text.specs.Writing.{ended, four_numbers}
use Rattle.text.proofs.Buffer.{room_yes, room_no, not_appended, appended_then}
use Rattle.text.proofs.Decimal.{counted_digits}
use Rattle.text.proofs.Texts.{four_length}
use Rattle.text.proofs.writing.Writer.put_four.Goals as goal

pub returns-then-not-has_room : goal.returns-then-not-has_room
returns-then-not-has_room c =
    let a = c.args in
    let w = a.self.now in
    let d1 = c.digit_count-digits_a in
    let d2 = c.digit_count-digits_b in
    let d3 = c.digit_count-digits_c in
    let d4 = c.digit_count-digits_d in
    let size : ℕ = d1.result + d2.result + d3.result + d4.result + 4 in
    record {
      slice = refl;
      appended =
          not_appended w.buffer.now w.length (four_numbers a.a a.b a.c a.d)
          (omega (
            arith,
            four_length a.a a.b a.c a.d,
            d1.ensures.all,
            d2.ensures.all,
            d3.ensures.all,
            d4.ensures.all,
            room_no w.length size (length w.buffer.now) c.has_room.ensures c.if-not-has_room.true,
          ));
    }

pub returns : goal.returns
unfolding four_numbers
returns c =
    let a = c.args in
    let w = a.self.now in
    let out = w.buffer.now in
    let d1 = c.digit_count-digits_a in
    let d2 = c.digit_count-digits_b in
    let d3 = c.digit_count-digits_c in
    let d4 = c.digit_count-digits_d in
    let size : ℕ = d1.result + d2.result + d3.result + d4.result + 4 in
    let four : w.length + length (four_numbers a.a a.b a.c a.d) ≤ length out =
    omega (
      arith,
      four_length a.a a.b a.c a.d,
      d1.ensures.all,
      d2.ensures.all,
      d3.ensures.all,
      d4.ensures.all,
      room_yes w.length size (length out) c.has_room.ensures c.if-not-has_room.false,
    ) in
    let t1 = ended a.a 32 in
    let t2 = ended a.b 32 in
    let t3 = ended a.c 32 in
    let t4 = ended a.d 10 in
    let three : w.length + length (t1 ++ t2 ++ t3) ≤ length out = omega (arith, four, length-append (t1 ++ t2 ++ t3) t4) in
    let two : w.length + length (t1 ++ t2) ≤ length out = omega (arith, three, length-append (t1 ++ t2) t3) in
    record {
      slice = c.put_digits-4.ensures.slice ∙ c.put_digits-3.ensures.slice ∙ c.put_digits-2.ensures.slice ∙ c.put_digits.ensures.slice;
      appended =
          appended_then out w.length (t1 ++ t2 ++ t3) t4 four
          (appended_then out w.length (t1 ++ t2) t3 three
          (appended_then out w.length t1 t2 two
          (rw (counted_digits a.a d1.result d1.ensures) at c.put_digits.ensures.appended)
          (rw (counted_digits a.b d2.result d2.ensures) at c.put_digits-2.ensures.appended))
          (rw (counted_digits a.c d3.result d3.ensures) at c.put_digits-3.ensures.appended))
          (rw (counted_digits a.d d4.result d4.ensures) at c.put_digits-4.ensures.appended);
    }
