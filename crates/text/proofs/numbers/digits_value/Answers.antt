-- `text::numbers::digits_value` meets its contract: the value held after the digits up to i, which those from i on continue.
-- Assumes nothing.
use Rattle.text.proofs.Classes.{digit_most}
use Rattle.text.proofs.Capping.{cap_most, value_next, value_end}
use Rattle.text.specs.Bytes.{byte_at, digit_of}
use Rattle.text.specs.Numbers.{cap}
use mathlib.Core.Path.{◌≡◌, sym, ◌∙◌}
use native.Mathlib.Omega.{arith}
use native.Mathlib.Nat.{mul-le-mul}
use Prim.Native.Nat.{◌+◌, ◌*◌}
use Rattle.text.proofs.numbers.digits_value.Goals as goal

pub overflow_add-v : goal.overflow_add-v
overflow_add-v c =
    let l = c.loop-i in
    omega (arith, mul-le-mul l.invariant.0 c.requires.1, digit_most c.byte_at.result)

pub loop-i-preserved : goal.loop-i-preserved
loop-i-preserved c =
    let a = c.args in
    let l = c.loop-i in
    let held : c.capped-v.result ≡ cap (l.v * a.base + digit_of (byte_at a.text.now l.i)) = cc in (
      rw held (cap_most (l.v * a.base + digit_of (byte_at a.text.now l.i))),
      l.invariant.1 ∙
          value_next a.base c.requires.0 a.text.now l.i a.end l.v c.capped-v.result (omega arith) held,
    )

pub returns : goal.returns
returns c =
    let a = c.args in
    let l = c.loop-i in
    sym (l.invariant.1 ∙ value_end a.base c.requires.0 a.text.now l.i a.end l.v (omega arith) l.invariant.0)
