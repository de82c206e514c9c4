-- The list of bodies by kind. Assumes nothing.
--     unknown_length    past the list a body is empty
--     some_length       and a kind's is not
--     body_most         no body is longer than 34 bytes
use Prim.Native.Nat.{ℕ, ◌≤◌, ◌<◌}
use native.Mathlib.Omega.{arith}
use mathlib.Core.Path.{◌≡◌, refl, ap}
use lib.ListN.{get_or-eq_default}
use borrow.Author.Tests.{leb-true}
use lib.Dec.{leb}
use Rattle.search.specs.Search.{every, some, lowest_from}
use Rattle.search.proofs.Bools.{below_or_not}
use Rattle.search.proofs.Ranges.{every_all}
use Rattle.std.proofs.Common.{rules}
use Rattle.records.specs.declared.Kind.{Kind}
use Rattle.records.specs.Records.{Body, byte_of, body_length, body_of, bodies, sum}

pub unknown_length : (kind : ℕ) → 13 ≤ kind → body_length kind ≡ 0
unfolding body_length body_of bodies sum
unknown_length kind h = ap (λ (b : Body). sum b.widths) (get_or-eq_default bodies _ {n = kind} h)

pub some_length : (kind : Kind) → 0 < body_length (byte_of kind)
unfolding body_length body_of bodies sum
some_length kind = search rules

-- the longest body is a declare's
pub body_most : (kind : ℕ) → body_length kind ≤ 34
unfolding body_length body_of bodies sum every some lowest_from
body_most kind =
    below_or_not kind 13
    (λ h. leb-true (body_length kind) 34 (every_all (λ k. leb (body_length k) 34) 0 13 refl kind (omega arith) (omega arith)))
    (λ h. omega (arith, unknown_length kind h))
