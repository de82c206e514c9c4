-- `records::decode` meets its contract: its tests are the definition's, in the same order. Assumes nothing.
use Prim.Native.Nat.{◌+◌}
use native.Mathlib.Omega.{arith}
use mathlib.Core.Path.{◌≡◌, ◌∙◌, sym, ap}
use lib.ListN.{get_or, length, length-drop}
use Rattle.std.proofs.Common.{rules}
use Rattle.std.specs.Prelude.{Err}
use Rattle.records.specs.declared.Undecoded.TheVariants.{Unknown, Cut}
use Rattle.records.specs.Records.{byte_of, body_length}
use Rattle.records.proofs.Bodies.{unknown_length}
use Rattle.records.proofs.Decoding.{decode_past, decode_unknown, kind_cut, kind_whole}
use Rattle.records.proofs.Pieces.{rest_after, body_after}
use Rattle.records.proofs.decode.Goals as goal

pub returns-in_err-first : goal.returns-in_err-first
returns-in_err-first c =
    let a = c.args in
    let gives : c.from_residual.result ≡ Err Cut = search rules in
    gives ∙ sym (decode_past a.bytes.now a.at (search rules))

pub returns-in_err-kind : goal.returns-in_err-kind
returns-in_err-kind c =
    let a = c.args in
    let first : get_or a.bytes.now a.at 0 ≡ c.in_ok-first.field-0.now = search rules in
    let gives : c.from_residual-in_err-kind.result ≡ Err Unknown = search rules in
    gives ∙ sym (decode_unknown a.bytes.now a.at (search rules) (ap body_length first ∙ unknown_length _ (omega (arith, c.in_err-kind.ensures.1))))

pub returns-then-rest-length : goal.returns-then-rest-length
returns-then-rest-length c =
    let a = c.args in
    sym (kind_cut a.bytes.now a.at c.in_ok-kind.kind (search rules) (search rules)
    (omega (arith, c.if-rest-length.true, c.body_length-length.ensures, ap length (rest_after (a.at + 1) a.bytes.now), length-drop (a.at + 1) a.bytes.now)))

pub returns : goal.returns
returns c =
    let a = c.args in
    rw (c.call.ensures, body_after (byte_of c.in_ok-kind.kind) (a.at + 1) a.bytes.now, c.body_length-length.ensures)
    (sym (kind_whole a.bytes.now a.at c.in_ok-kind.kind (search rules) (search rules)
    (omega (arith, c.if-rest-length.false, c.body_length-length.ensures, ap length (rest_after (a.at + 1) a.bytes.now), length-drop (a.at + 1) a.bytes.now))))
