-- Record after record. Assumes nothing.
--     one_answered     a call's outcome and its line, appended, are one record's answer
--     next             what comes next: a record, or the reason that none is answered
--     Found, found     a record that comes next lies within the bytes, and its line has room
--     Same             what all records come to is what the rest come to from here on
--     begins           at the start that is so
--     ends             where no record comes next, it stops
--     goes_on          where one does, it is so after that record is answered
use Prim.Native.Nat.{ℕ, zero, suc, ◌+◌, ◌≤◌, ◌<◌}
use native.Mathlib.Omega.{arith}
use mathlib.Core.Path.{◌≡◌, refl, ap, ◌∙◌}
use mathlib.Core.Bool.{true}
use mathlib.Core.List.{List}
use lib.ListN.{length}
use lib.Dec.{leb, ltb}
use borrow.Author.Tests.{leb-true, ltb-true, le-leb}
use Rattle.search.proofs.Bools.{by_cases, and_left, and_right}
use Rattle.frames.specs.Tables.{Tables}
use Rattle.machine.specs.declared.Machine.{Machine}
use Rattle.answer.specs.declared.Answer.{Answer}
use Rattle.rules.specs.declared.Call.{Call}
use Rattle.rules.specs.declared.Counters.{Counters}
use Rattle.rules.specs.Counters.{counted}
use Rattle.rules.specs.Outcomes.{Outcome, outcome}
use Rattle.rules.specs.Does.{record_with}
use Rattle.std.specs.Prelude.{Result, Ok, Err}
use Rattle.records.specs.declared.Undecoded.{Undecoded}
use Rattle.records.specs.Records.{decode_at}
use Rattle.text.specs.Writing.{four_numbers, Appended, has_room, written}
use Rattle.text.proofs.Texts.{four_most}
use Rattle.records.proofs.Decoding.{Within, whole_within}
use Rattle.playback.specs.declared.Progress.{Progress}
use Rattle.playback.specs.declared.Stop.{Stop}
use Rattle.playback.specs.Playback.{answer_to, has_room_for, room, last_step, Playing, playing, Played, line_for, progress_after, answer_one, stop_for, followed, answer_up_to, answer_records}
use Rattle.playback.specs.Steps.Going.{or_stop, next_at}

-- ---- one record

-- the room for a line, and the step after it
pub room_left : (size text step : ℕ) → has_room_for size text step ≡ true → text + room ≤ size
unfolding has_room_for
room_left size text step h = leb-true (text + room) size (and_left (leb (text + room) size) (ltb step last_step) h)

pub step_left : (size text step : ℕ) → has_room_for size text step ≡ true → step < last_step
unfolding has_room_for
step_left size text step h = ltb-true step last_step (and_right (leb (text + room) size) (ltb step last_step) h)

pub line_has_room : (out : List ℕ) (p : Progress) (a b c : ℕ) → has_room_for (length out) p.text p.step ≡ true → has_room out p.text (four_numbers p.step a b c) ≡ true
unfolding has_room
line_has_room out p a b c h =
    let l = room_left (length out) p.text p.step h in
    le-leb (p.text + length (four_numbers p.step a b c)) (length out) (omega (arith, four_most p.step a b c))

after_line : (p : Progress) (c : Counters) (size next : ℕ) (after : List ℕ) (o : Outcome) → Playing
after_line p c size next after o = playing (record { «record» = o.machine; counters = c; at = p.at + size; text = next; step = p.step + 1 }) after o.left

pub one_answered :
    (p : Progress) (out : List ℕ) (t : Tables) (r : Call) (size : ℕ) (m : Machine) (a : Answer) (areas : List ℕ) (left : Tables) (after : List ℕ) (next : ℕ)
    → has_room_for (length out) p.text p.step ≡ true
    → outcome (record_with m.memory areas) a left ≡ answer_to r p.«record» t
    → m.counters ≡ counted r a.refusal p.counters
    → Appended out p.text (line_for p.step a) after next
    → playing (record { «record» = record_with m.memory areas; counters = m.counters; at = p.at + size; text = next; step = p.step + 1 }) after left
    ≡ answer_one (playing p out t) r size
unfolding answer_one after_line
one_answered p out t r size m a areas left after next h e k w =
    let fits = line_has_room out p a.refusal a.first a.second h in
    let place = rw fits at w.place in
    let bytes = rw fits at w.bytes in
    let made = outcome (record_with m.memory areas) a left in
    ap (λ (c : Counters). after_line p c size next after made) k
    ∙ ap (λ (n : ℕ). after_line p (counted r a.refusal p.counters) size n after made) place
    ∙ ap (λ (l : List ℕ). after_line p (counted r a.refusal p.counters) size (p.text + length (line_for p.step a)) l made) bytes
    ∙ ap (λ (o : Outcome). playing (progress_after p r o size) (written out p.text (line_for p.step o.answer)) o.left) e

pub one_at : (s : Playing) (r : Call) (size : ℕ) → (answer_one s r size).progress.at ≡ s.progress.at + size
unfolding answer_one
one_at s r size = refl

-- ---- all of them

module _ (bytes : List ℕ) where
  -- what comes next
  abbrev pub next : Playing → Result (Call × ℕ) Stop
  next s = next_at bytes s.progress.at (length s.out) s.progress.text s.progress.step

  next_past : (s : Playing) → length bytes ≤ s.progress.at → next s ≡ Err Stop.All
  next_past s h = rw (le-leb (length bytes) s.progress.at h)

  -- a record that comes next has room for its line, and was decoded
  pub record Found (s : Playing) (r : Call) (n : ℕ) : Type 0 where
    pub room : has_room_for (length s.out) s.progress.text s.progress.step ≡ true
    pub within : Within bytes s.progress.at n

  decoded : (d : Result (Call × ℕ) Undecoded) {r : Call} {n : ℕ} → or_stop d ≡ Ok (r, n) → d ≡ Ok (r, n)
  decoded (Ok (q, m)) e = cc
  decoded (Err why) e = absurd (let f : ◌≡◌ {A = ℕ} 0 1 = cc in omega arith)

  pub found : {s : Playing} {r : Call} {n : ℕ} → next s ≡ Ok (r, n) → Found s r n
  found {s} {r} {n} e =
      by_cases (leb (length bytes) s.progress.at)
      (λ y. absurd (let g = rw y at e in let f : ◌≡◌ {A = ℕ} 0 1 = cc in omega arith))
      (λ k.
      by_cases (has_room_for (length s.out) s.progress.text s.progress.step)
      (λ y. record { room = y; within = whole_within bytes s.progress.at (decoded (decode_at bytes s.progress.at) (rw (k, y) at e)) })
      (λ z. absurd (let g = rw (k, z) at e in let f : ◌≡◌ {A = ℕ} 0 1 = cc in omega arith)))

  -- what follows from what comes next
  abbrev stepped : Result (Call × ℕ) Stop → Playing → (Playing → Played) → Played
  stepped (Ok (call, size)) s go = go (answer_one s call size)
  stepped (Err why) s go = stop_for why s

  followed_stepped : (d : Result (Call × ℕ) Undecoded) (s : Playing) (go : Playing → Played) → followed d s go ≡ stepped (or_stop d) s go
  followed_stepped (Ok (r, n)) s go = refl
  followed_stepped (Err why) s go = refl

  one_turn : (more : ℕ) (s : Playing) → answer_up_to (suc more) bytes s ≡ stepped (next s) s (answer_up_to more bytes)
  unfolding answer_up_to
  one_turn more s =
      by_cases (leb (length bytes) s.progress.at)
      (λ y. rw y)
      (λ k.
      by_cases (has_room_for (length s.out) s.progress.text s.progress.step)
      (λ y. rw (k, y) (followed_stepped (decode_at bytes s.progress.at) s (answer_up_to more bytes)))
      (λ z. rw (k, z)))

  stops : (more : ℕ) (s : Playing) (why : Stop) → length bytes ≤ s.progress.at + more → next s ≡ Err why → answer_up_to more bytes s ≡ stop_for why s
  unfolding answer_up_to
  stops zero s why l e =
      let past = next_past s (omega arith) in
      let same : Stop.All ≡ why = cc in
      ap (λ (w : Stop). stop_for w s) same
  stops (suc more) s why l e = one_turn more s ∙ ap (λ (d : Result (Call × ℕ) Stop). stepped d s (answer_up_to more bytes)) e

  module _ (start : Playing) where
    pub record Same (s : Playing) : Type 0 where
      pub more : ℕ
      pub enough : length bytes ≤ s.progress.at + more
      pub same : answer_records bytes start ≡ answer_up_to more bytes s

    pub begins : Same start
    unfolding answer_records
    begins = record { more = length bytes; enough = omega arith; same = refl }

    pub ends : {s : Playing} {why : Stop} → Same s → next s ≡ Err why → answer_records bytes start ≡ stop_for why s
    ends {s} {why} i e = i.same ∙ stops i.more s why i.enough e

    goes :
        (more : ℕ) (s : Playing) {r : Call} {n : ℕ} → length bytes ≤ s.progress.at + more → answer_records bytes start ≡ answer_up_to more bytes s
        → next s ≡ Ok (r, n) → Same (answer_one s r n)
    goes zero s l i e = absurd (let past = next_past s (omega arith) in let f : ◌≡◌ {A = ℕ} 0 1 = cc in omega arith)
    goes (suc more) s {r} {n} l i e =
        let w = (found {s = s} e).within in
        record {
          more = more;
          enough = omega (arith, one_at s r n);
          same = i ∙ one_turn more s ∙ ap (λ (d : Result (Call × ℕ) Stop). stepped d s (answer_up_to more bytes)) e;
        }

    pub goes_on : {s : Playing} {r : Call} {n : ℕ} → Same s → next s ≡ Ok (r, n) → Same (answer_one s r n)
    goes_on {s} i e = goes i.more s i.enough i.same e
