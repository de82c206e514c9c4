-- `report::put_both` meets its contract: both texts are appended, one after the other, where both have room. Assumes nothing.
use native.Mathlib.Omega.{arith}
use Prim.Native.Nat.{◌+◌}
use mathlib.Core.Path.{refl, sym, ◌∙◌}
use lib.ListN.{length, length-append}
use borrow.Author.Tests.{leb-true, leb-false}
use Rattle.std.proofs.Common.{rules}
use Rattle.report.proofs.Fronts.{appends_then, put_whole, put_none}
use Rattle.report.proofs.put_both.Goals as goal

pub returns-then-not-has_room : goal.returns-then-not-has_room
returns-then-not-has_room c =
    let first = c.args.first.now in
    let second = c.args.second.now in
    let none = leb-false (length first + length second) (length c.args.buffer.now) (sym c.has_room.ensures ∙ c.if-not-has_room.true) in
    put_none (omega (arith, length-append first second, none))

pub returns : goal.returns
returns c =
    let first = c.args.first.now in
    let second = c.args.second.now in
    let room = leb-true (length first + length second) (length c.args.buffer.now) (sym c.has_room.ensures ∙ c.if-not-has_room.false) in
    put_whole (appends_then c.put_bytes.ensures c.put_bytes-2.ensures (omega (arith, room, length-append first second))) refl
    (omega (arith, room, length-append first second)) (search rules)
