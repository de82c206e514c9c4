-- Where records stop. Assumes nothing.
--     Ran       the place lies within the bytes, no more steps were counted than bytes read, and the text lies within the output
--     ran       that is so of what all records come to, from a start within the bytes and the output
use Prim.Native.Nat.{ℕ, zero, suc, ◌+◌, ◌≤◌}
use native.Mathlib.Omega.{arith}
use mathlib.Core.Path.{◌≡◌, refl}
use mathlib.Core.List.{List}
use lib.ListN.{length, length-append, length-take}
use borrow.Author.Tests.{le-leb, lt-leb}
use Rattle.search.proofs.Bools.{by_cases, below_or_not}
use Rattle.rules.specs.declared.Call.{Call}
use Rattle.std.specs.Prelude.{Result, Ok, Err}
use Rattle.records.specs.declared.Undecoded.{Undecoded}
use Rattle.records.specs.declared.Undecoded.TheVariants.{Unknown, Cut}
use Rattle.records.specs.Records.{decode_at}
use Rattle.text.specs.Writing.{written}
use Rattle.records.proofs.Decoding.{whole_within}
use Rattle.playback.specs.declared.Progress.{Progress}
use Rattle.playback.specs.Playback.{has_room_for, Playing, answer_one, Played, followed, answer_up_to, answer_records}
use Rattle.playback.proofs.Records.{one_at}

pub record Ran (bytes : ℕ) (start : Progress) (end : Played) : Type 0 where
  pub inside : end.stopped.progress.at ≤ bytes
  pub steps : end.stopped.progress.step + start.at ≤ start.step + end.stopped.progress.at
  pub text : end.stopped.progress.text ≤ length end.out

written_least : (out : List ℕ) (at : ℕ) (text : List ℕ) → at ≤ length out → at + length text ≤ length (written out at text)
unfolding written
written_least out at text h = simp (length-append, length-take) (omega arith)

pub one_text : (s : Playing) (r : Call) (n : ℕ) → s.progress.text ≤ length s.out → (answer_one s r n).progress.text ≤ length (answer_one s r n).out
unfolding answer_one
one_text s r n h = written_least s.out s.progress.text _ h

one_step : (s : Playing) (r : Call) (n : ℕ) → (answer_one s r n).progress.step ≡ s.progress.step + 1
unfolding answer_one
one_step s r n = refl

module _ (bytes : List ℕ) where
  -- what follows a record that is found, where that holds of what follows it
  follows :
      (d : Result (Call × ℕ) Undecoded) (s : Playing) (next : Playing → Played) → decode_at bytes s.progress.at ≡ d
      → s.progress.at ≤ length bytes → s.progress.text ≤ length s.out
      → ((z : Playing) → z.progress.at ≤ length bytes → z.progress.text ≤ length z.out → Ran (length bytes) z.progress (next z))
      → Ran (length bytes) s.progress (followed d s next)
  follows (Ok (r, n)) s next e h k rest =
      let w = whole_within bytes s.progress.at e in
      let z = rest (answer_one s r n) (omega (arith, one_at s r n)) (one_text s r n k) in
      record { inside = z.inside; steps = omega (arith, z.steps, one_at s r n, one_step s r n); text = z.text }
  follows (Err Unknown) s next e h k rest = record { inside = h; steps = omega arith; text = k }
  follows (Err Cut) s next e h k rest = record { inside = h; steps = omega arith; text = k }

  up_to :
      (more : ℕ) (s : Playing) → s.progress.at ≤ length bytes → s.progress.text ≤ length s.out
      → Ran (length bytes) s.progress (answer_up_to more bytes s)
  unfolding answer_up_to
  up_to zero s h k = record { inside = h; steps = omega arith; text = k }
  up_to (suc more) s h k =
      below_or_not s.progress.at (length bytes)
      (λ l.
      by_cases (has_room_for (length s.out) s.progress.text s.progress.step)
      (λ y.
      rw (lt-leb (length bytes) s.progress.at l, y)
      (follows (decode_at bytes s.progress.at) s (answer_up_to more bytes) refl h k (up_to more)))
      (λ n. rw (lt-leb (length bytes) s.progress.at l, n) record { inside = h; steps = omega arith; text = k }))
      (λ l. rw (le-leb (length bytes) s.progress.at l) record { inside = h; steps = omega arith; text = k })

  pub ran :
      (s : Playing) {end : Played} → end ≡ answer_records bytes s → s.progress.at ≤ length bytes → s.progress.text ≤ length s.out
      → Ran (length bytes) s.progress end
  unfolding answer_records
  ran s e h k = rw e (up_to (length bytes) s h k)
