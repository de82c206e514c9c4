-- Texts that are appended one after the other, and texts at a buffer's front. Assumes nothing.
--     appends_none, appends_then    no text; a text after a text is the two as one text
--     kept_length, next_length      the buffer keeps its length; a text that has room makes what is written longer by its own
--     AtFront, at_front             a text stands at the front of a buffer; where it has room there
--     put_whole, put_none           such a text is put whole; one that has no room is not
--     fronts_put                    two texts at the front of two buffers, put one after the other
use Prim.Native.Nat.{ℕ, ◌+◌, ◌-◌, ◌≤◌, ◌<◌}
use native.Mathlib.Nat.{zero-add, sub-zero}
use native.Mathlib.Omega.{arith}
use mathlib.Core.List.{List, [], ◌++◌}
use mathlib.Core.Path.{◌≡◌, refl, ap, ◌∙◌}
use lib.ListN.{length, take}
use lib.Seq.{take-append_seam}
use borrow.Author.Tests.{le-leb, lt-leb}
use Rattle.std.specs.Prelude.{Option, Some, None}
use Rattle.text.specs.declared.writing.Writer.{Writer}
use Rattle.text.specs.Writing.{has_room, written, Appends}
use Rattle.text.proofs.Buffer.{appended, appended_place, appended_length, appended_then}
use Rattle.report.specs.Steps.Listing.{PutWhole}

pub appends_none : (w : Writer) → w.length ≡ 0 → Appends [] w w
appends_none w e =
    record { slice = refl; appended = appended w.buffer.now w.length [] w.buffer.now w.length (omega (arith, e)) refl (omega arith) }

module _ {before after : Writer} {text : List ℕ} (a : Appends text before after) where
  pub kept_length : length after.buffer.now ≡ length before.buffer.now
  kept_length = appended_length before.buffer.now before.length text after.buffer.now after.length a.appended

  pub next_length : before.length + length text ≤ length before.buffer.now → after.length ≡ before.length + length text
  next_length room = appended_place before.buffer.now before.length text after.buffer.now after.length a.appended room

pub appends_then :
    {before between after : Writer} {a b : List ℕ} → Appends a before between → Appends b between after →
    before.length + length (a ++ b) ≤ length before.buffer.now → Appends (a ++ b) before after
appends_then {before} {between} {after} {a} {b} first second room =
    record { slice = second.slice ∙ first.slice; appended = appended_then before.buffer.now before.length a b room first.appended second.appended }

-- a text stands at the front of a buffer, and nothing else is written
pub record AtFront (text : List ℕ) (w : Writer) : Type 0 where
  pub long : w.length ≡ length text
  pub stands : take w.length w.buffer.now ≡ text

module _ {before after : Writer} {text : List ℕ} (a : Appends text before after) (e : before.length ≡ 0) (room : length text ≤ length before.buffer.now) where
  pub at_front : AtFront text after
  unfolding has_room written
  at_front =
      let long : after.length ≡ length text = omega (arith, e, next_length a (omega (arith, e))) in
      let bytes = rw (e, zero-add, le-leb (length text) (length before.buffer.now) room) at a.appended.bytes in
      record { long = long; stands = rw (bytes, long) (take-append_seam text _) }

  pub put_whole : {now : List ℕ} → now ≡ after.buffer.now → PutWhole text before.buffer.now now (Some after.length)
  unfolding has_room
  put_whole k =
      record {
        bytes = k ∙ rw e at a.appended.bytes;
        says = rw (zero-add, le-leb (length text) (length before.buffer.now) room) (ap Some at_front.long);
      }

pub put_none : {out text : List ℕ} → length out < length text → PutWhole text out out None
unfolding has_room
put_none {out} {text} h =
    let none : length out < 0 + length text = omega arith in
    record { bytes = rw (lt-leb (0 + length text) (length out) none); says = rw (lt-leb (0 + length text) (length out) none) }

-- what stands at the front of two buffers is put elsewhere
pub fronts_put :
    {v w : Writer} {first second front back out after : List ℕ} {told : Option ℕ} → AtFront first v → AtFront second w →
    front ≡ v.buffer.now → back ≡ w.buffer.now →
    PutWhole (take (v.length - 0) front ++ take (w.length - 0) back) out after told → PutWhole (first ++ second) out after told
fronts_put {v} {w} f s e k put = rw (e, k, sub-zero, sub-zero, f.stands, s.stands) at put
