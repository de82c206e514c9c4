-- What is appended ends within the buffer, whether it had room or not. Assumes nothing.
--     appended_within    of a buffer and a place
--     writer_within      of a writer
use Prim.Native.Nat.{ℕ, ◌+◌, ◌≤◌}
use native.Mathlib.Omega.{arith}
use mathlib.Core.List.{List}
use lib.ListN.{length}
use lib.Dec.{leb}
use borrow.Author.Tests.{leb-true}
use Rattle.search.proofs.Bools.{by_cases}
use Rattle.text.specs.declared.writing.Writer.{Writer}
use Rattle.text.specs.Writing.{Appended, Appends, has_room}
use Rattle.text.proofs.Buffer.{appended_length}

pub appended_within : {out : List ℕ} {at : ℕ} {text after : List ℕ} {next : ℕ} → Appended out at text after next → at ≤ length out → next ≤ length out
unfolding has_room
appended_within {out} {at} {text} {after} {next} a h =
    by_cases (leb (at + length text) (length out))
    (λ t. omega (arith, leb-true (at + length text) (length out) t, rw t at a.place))
    (λ f. omega (arith, rw f at a.place))

pub writer_within : {text : List ℕ} {before after : Writer} → Appends text before after → before.length ≤ length before.buffer.now → after.length ≤ length after.buffer.now
writer_within {text} {before} {after} a h =
    omega (arith, appended_within a.appended h, appended_length before.buffer.now before.length text after.buffer.now after.length a.appended)
