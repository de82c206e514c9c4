-- Texts stored in a buffer one after the other, and what is appended. Assumes nothing.
--     sets_then, set_after      a text after a text; a byte after a text
--     copied                    a part that a text is copied into
--     room_yes, room_no         what the test for room tells
--     appended, not_appended    a text that has room is stored; one that has none is not
--     appended_then             a text appended after a text is the two as one text
--     appended_length           the buffer keeps its length
use Prim.Native.Nat.{ℕ, suc, ◌+◌, ◌≤◌, ◌<◌}
use native.Mathlib.Omega.{arith}
use mathlib.Core.Path.{◌≡◌, refl, sym, ap, ◌∙◌}
use mathlib.Core.Bool.{Bool, true, false}
use mathlib.Core.List.{List, [], ◌∷◌, ◌++◌}
use lib.ListN.{length, set, length-append}
use lib.Seq.{sets, length-sets, sets-eq, take_all}
use borrow.Rule.Slice.PartMut.{put_mid}
use Rattle.std.proofs.lemmas.Slice.{put_mid-paste}
use lib.Dec.{leb}
use borrow.Author.Tests.{le-leb, lt-leb, leb-true, leb-false}
use Rattle.search.proofs.Bools.{below_or_not}
use Rattle.text.specs.Writing.{has_room, written, Appended}

pub sets_then : (l : List ℕ) (i : ℕ) (a b : List ℕ) (n : ℕ) → n ≡ i + length a → sets (sets l i a) n b ≡ sets l i (a ++ b)
sets_then l i [] b n e = ap (λ (k : ℕ). sets l k b) (omega (arith, e))
sets_then l i (x ∷ a) b n e = sets_then (set l i x) (suc i) a b n (omega (arith, e))

pub set_after : (l : List ℕ) (i : ℕ) (a : List ℕ) (x n : ℕ) → n ≡ i + length a → set (sets l i a) n x ≡ sets l i (a ++ (x ∷ []))
set_after l i a x n e = sets_then l i a (x ∷ []) n e

-- a part of a buffer that a text is copied into
pub copied : (l : List ℕ) (i k : ℕ) (text part : List ℕ) → part ≡ text → k ≡ length text → i + length text ≤ length l → put_mid i k l part ≡ sets l i text
copied l i k text part e size h =
    put_mid-paste i k l part text (length text) e (sym size) refl
    ∙ rw (take_all (length text) text (omega arith)) (sym (sets-eq text l i h))

-- what the test for room tells where it holds, and where it fails
module _ {r : Bool} (at size long : ℕ) (test : r ≡ leb (at + size) long) where
  pub room_yes : r ≡ true → at + size ≤ long
  room_yes h = leb-true (at + size) long (sym test ∙ h)

  pub room_no : r ≡ false → long < at + size
  room_no h = leb-false (at + size) long (sym test ∙ h)

module _ (out : List ℕ) (at : ℕ) (text : List ℕ) where
  room : at + length text ≤ length out → has_room out at text ≡ true
  unfolding has_room
  room h = le-leb (at + length text) (length out) h

  no_room : length out < at + length text → has_room out at text ≡ false
  unfolding has_room
  no_room h = lt-leb (at + length text) (length out) h

  stored : at + length text ≤ length out → sets out at text ≡ written out at text
  unfolding written
  stored h = sets-eq text out at h

  pub appended : (after : List ℕ) (next : ℕ) → at + length text ≤ length out → after ≡ sets out at text → next ≡ at + length text → Appended out at text after next
  appended after next h e p = record { bytes = rw (room h) (e ∙ stored h); place = rw (room h) p }

  pub not_appended : length out < at + length text → Appended out at text out at
  not_appended h = record { bytes = rw (no_room h); place = rw (no_room h) }

  module _ (after : List ℕ) (next : ℕ) (a : Appended out at text after next) where
    pub appended_place : at + length text ≤ length out → next ≡ at + length text
    appended_place h = rw (room h) at a.place

    appended_sets : at + length text ≤ length out → after ≡ sets out at text
    appended_sets h = (rw (room h) at a.bytes) ∙ sym (stored h)

    pub appended_length : length after ≡ length out
    appended_length =
        below_or_not (length out) (at + length text) (λ h. ap length (rw (no_room h) at a.bytes))
        (λ h. ap length (appended_sets h) ∙ length-sets out at text)

pub appended_then : (out : List ℕ) (at : ℕ) (a b : List ℕ) {o : List ℕ} {n : ℕ} {after : List ℕ} {next : ℕ}
    → at + length (a ++ b) ≤ length out → Appended out at a o n → Appended o n b after next → Appended out at (a ++ b) after next
appended_then out at a b {o} {n} {after} {next} h first second =
    let size : length (a ++ b) ≡ length a + length b = length-append a b in
    let here : at + length a ≤ length out = omega arith in
    let place : n ≡ at + length a = appended_place out at a o n first here in
    let kept : length o ≡ length out = appended_length out at a o n first in
    let there : n + length b ≤ length o = omega arith in
    appended out at (a ++ b) after next h
    (appended_sets o n b after next second there
    ∙ ap (λ (l : List ℕ). sets l n b) (appended_sets out at a o n first here)
    ∙ sets_then out at a b n place)
    (appended_place o n b after next second there ∙ omega arith)
