-- `text::names::name_length` meets its contract: the search of the definition goes on from n. Assumes nothing.
use Rattle.text.proofs.Naming.{ends, name_inside}
use Rattle.text.specs.Bytes.{is_name_byte, byte_at}
use Rattle.text.specs.Names.{longest_name, name_length}
use Rattle.search.proofs.Lowest.{lowest_here, lowest_next, lowest_end}
use mathlib.Core.Path.{◌≡◌, refl, sym, ap, ◌∙◌}
use mathlib.Core.Bool.{not}
use native.Mathlib.Omega.{arith}
use Prim.Native.Nat.{◌+◌}
use Rattle.text.proofs.names.name_length.Goals as goal

pub loop-n-init : goal.loop-n-init
unfolding name_length
loop-n-init c = refl

pub returns-then-not-is_name_byte : goal.returns-then-not-is_name_byte
returns-then-not-is_name_byte c =
    let a = c.args in
    let l = c.loop-n in
    let same : is_name_byte (byte_at a.text.now (a.at + l.n)) ≡ c.is_name_byte.result = cc in
    let found : l.n ≡ name_length a.text.now a.at = sym (l.invariant ∙ lowest_here (ends a.text.now a.at) l.n longest_name (omega arith) (ap not same ∙ (ap not c.if-not-is_name_byte.true))) in
    (found, omega (arith, name_inside a.text.now a.at))

pub loop-n-preserved : goal.loop-n-preserved
loop-n-preserved c =
    let a = c.args in
    let l = c.loop-n in
    let same : is_name_byte (byte_at a.text.now (a.at + l.n)) ≡ c.is_name_byte.result = cc in
    l.invariant ∙ lowest_next (ends a.text.now a.at) l.n longest_name (omega arith) (ap not same ∙ (ap not c.if-not-is_name_byte.false))

pub returns : goal.returns
returns c =
    let a = c.args in
    let l = c.loop-n in
    let end : l.n ≡ longest_name = omega arith in
    let found : longest_name ≡ name_length a.text.now a.at = sym (l.invariant ∙ lowest_end (ends a.text.now a.at) l.n longest_name (omega arith) ∙ end) in
    (found, omega (arith, name_inside a.text.now a.at))
