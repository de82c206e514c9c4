-- The records that the code answers in a buffer give replay's whole output, where the buffer never was too full. Assumes nothing.
use Prim.Native.Nat.{ℕ, zero, suc, ◌+◌, ◌≤◌}
use native.Mathlib.Omega.{arith}
use mathlib.Core.Path.{◌≡◌, refl, ap, ◌∙◌}
use mathlib.Core.Logic.{◌≢◌}
use mathlib.Core.List.{List, ◌++◌, append_assoc}
use lib.ListN.{length, take, drop, length-append, length-take}
use lib.Seq.{take_at}
use borrow.Author.Tests.{le-leb, lt-leb}
use Rattle.search.proofs.Bools.{by_cases, below_or_not}
use Rattle.frames.specs.Tables.{Tables}
use Rattle.rules.specs.declared.Call.{Call}
use Rattle.rules.specs.Record.{fresh_record}
use Rattle.std.specs.Prelude.{Result, Ok, Err}
use Rattle.records.specs.declared.Undecoded.{Undecoded}
use Rattle.records.specs.declared.Undecoded.TheVariants.{Unknown, Cut}
use Rattle.records.specs.Records.{decode_at}
use Rattle.text.specs.Writing.{written}
use Rattle.records.specs.Lines.{heading}
use Rattle.playback.specs.declared.Stop.TheVariants as Stop
use Rattle.playback.specs.Playback.{answer_to, line_for, has_room_for, Playing, playing, answer_one, Played, followed, answer_up_to, answer_records}
use Rattle.playback.specs.Replay.{held_tables, lines_after, lines_up_to, lines_of, replay_output, text_of, fresh, WholeOutput}
use Rattle.playback.proofs.Ran.{one_text}

-- the text so far
abbrev so_far : Playing → List ℕ
so_far s = take s.progress.text s.out

-- the lines that are left, at most so many
abbrev left : ℕ → List ℕ → Playing → List ℕ
left more bytes s = lines_up_to more bytes s.progress.at s.progress.step s.progress.«record» s.left

-- a record's line comes after the text so far
one_line :
    (s : Playing) (r : Call) (n : ℕ) → s.progress.text ≤ length s.out
    → so_far (answer_one s r n) ≡ so_far s ++ line_for s.progress.step (answer_to r s.progress.«record» s.left).answer
unfolding answer_one written
one_line s r n h =
    let p = s.progress in
    let line = line_for p.step (answer_to r p.«record» s.left).answer in
    take_at (so_far s ++ line) (drop (p.text + length line) s.out) (p.text + length line) (simp (length-append, length-take) (omega arith))

module _ (bytes : List ℕ) (more : ℕ) where
  -- the text at the end is the text so far with the lines that are left
  abbrev Kept : Playing → Played → Type 0
  Kept s end = end.stopped.why ≢ Stop.Full → text_of end ≡ so_far s ++ left more bytes s

  abbrev followed_by : Result (Call × ℕ) Undecoded → Playing → List ℕ
  followed_by d s = lines_after d s.progress.at s.progress.step s.progress.«record» s.left (lines_up_to more bytes)

  follows :
      (d : Result (Call × ℕ) Undecoded) (s : Playing) → s.progress.text ≤ length s.out
      → ((z : Playing) → z.progress.text ≤ length z.out → Kept z (answer_up_to more bytes z))
      → (followed d s (answer_up_to more bytes)).stopped.why ≢ Stop.Full
      → text_of (followed d s (answer_up_to more bytes)) ≡ so_far s ++ followed_by d s
  unfolding answer_one
  follows (Ok (r, n)) s h rest e =
      let line = line_for s.progress.step (answer_to r s.progress.«record» s.left).answer in
      rest (answer_one s r n) (one_text s r n h) e
      ∙ ap (λ (l : List ℕ). l ++ left more bytes (answer_one s r n)) (one_line s r n h)
      ∙ append_assoc (so_far s) line (left more bytes (answer_one s r n))
  follows (Err Unknown) s h rest e = refl
  follows (Err Cut) s h rest e = refl

up_to : (bytes : List ℕ) (more : ℕ) (s : Playing) → s.progress.text ≤ length s.out → Kept bytes more s (answer_up_to more bytes s)
unfolding answer_up_to lines_up_to
up_to bytes zero s h = λ e. refl
up_to bytes (suc more) s h =
    below_or_not s.progress.at (length bytes)
    (λ l.
    by_cases (has_room_for (length s.out) s.progress.text s.progress.step)
    (λ y. rw (lt-leb (length bytes) s.progress.at l, y) (follows bytes more (decode_at bytes s.progress.at) s h (up_to bytes more)))
    (λ n. rw (lt-leb (length bytes) s.progress.at l, n) (λ e. absurd (e refl))))
    (λ l. rw (le-leb (length bytes) s.progress.at l) (λ e. refl))

-- from the start on, whatever the tables hold
from_start :
    (bytes out : List ℕ) (t : Tables) → take (length heading) out ≡ heading
    → (answer_records bytes (playing fresh out t)).stopped.why ≢ Stop.Full
    → text_of (answer_records bytes (playing fresh out t)) ≡ heading ++ lines_of bytes fresh_record t
unfolding answer_records lines_of
from_start bytes out t h e =
    let short : length (take (length heading) out) ≡ length heading = ap length h in
    let inside : length heading ≤ length out = omega (arith, rw length-take at short) in
    up_to bytes (length bytes) (playing fresh out t) inside e ∙ ap (λ (l : List ℕ). l ++ lines_up_to (length bytes) bytes 0 0 fresh_record t) h

pub whole_output : WholeOutput
unfolding replay_output
whole_output bytes out = from_start bytes out held_tables
