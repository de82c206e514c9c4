-- Document 01, "Replay records": the call of a record, what it is lent, and the lines of record after record.
use Rattle.std.specs.Prelude.{ℕ, zero, suc, ◌+◌, Bool, not, ◌&&◌, ◌||◌, List, [], ◌++◌, length, take, drop, ltb, leb, if◌then◌else◌, Result, Ok, Err}
use Rattle.answer.specs.declared.Answer.{Answer}
use Rattle.frames.specs.Units.{most_number}
use Rattle.frames.specs.Tables.{Tables, tables}
use Rattle.rules.specs.declared.Call.{Call}
use Rattle.rules.specs.declared.Memory.{Memory}
use Rattle.rules.specs.declared.Record.{Record}
use Rattle.rules.specs.Outcomes.{Outcome, outcome, refuse}
use Rattle.rules.specs.Counters.{counted}
use Rattle.rules.specs.Calls.{perform}
use Rattle.rules.specs.Ledger.Roles.{role_of}
use Rattle.records.specs.declared.Undecoded.{Undecoded}
use Rattle.records.specs.declared.Undecoded.TheVariants.{Unknown, Cut}
use Rattle.records.specs.Records.{decode_at}
use Rattle.text.specs.Writing.{four_numbers, written}
use Rattle.playback.specs.declared.Progress.{Progress}
use Rattle.playback.specs.declared.Stop.{Stop}
use Rattle.playback.specs.declared.Stopped.{Stopped}

-- ---- one record

-- how many frames the tables are lent for: a boot's own, else the machine's
unfoldable pub frames_for : Memory → Call → ℕ
frames_for memory call = (role_of call).frames memory.frames

-- the entries of marks, words and owners that are lent, and the whole bitmap
abbrev pub entries_for : ℕ → Tables → Tables
entries_for n t = tables (take n t.marks) (take n t.words) t.bitmap (take n t.owners)

-- the tables after the lent entries are as a call left them: the entries after those are kept
abbrev pub with_entries : ℕ → Tables → Tables → Tables
with_entries n t left =
    tables (left.marks ++ drop n t.marks) (left.words ++ drop n t.words) left.bitmap (left.owners ++ drop n t.owners)

-- what a record's call is answered: 1 where the tables hold fewer entries than frames; else it is made, lent an entry for each frame and no
-- bytes: a boot has the empty text, and no record is a report
unfoldable pub answer_to : Call → Record → Tables → Outcome
answer_to call m t =
    let n = frames_for m.memory call in
    let o = perform call [] m (entries_for n t) in
    if ltb (length t.marks) n || ltb (length t.words) n || ltb (length t.owners) n then refuse m t 1
    else outcome o.machine o.answer (with_entries n t o.left)

-- ---- record after record

-- the room that a step's line is given: no such line is longer than 84 bytes, and the last line of an output not longer than 25
abbrev pub room : ℕ
room = 128

-- the last step that can be counted
abbrev pub last_step : ℕ
last_step = most_number

-- another line can be written after a text, in an output of a size, and its step counted
unfoldable pub has_room_for : ℕ → ℕ → ℕ → Bool
has_room_for size text step = leb (text + room) size && ltb step last_step

-- how far the records are answered, the output, and the tables
pub record Playing : Type 0 where
  pub progress : Progress
  pub out : List ℕ
  pub left : Tables

abbrev pub playing : Progress → List ℕ → Tables → Playing
playing p out t = record { progress = p; out = out; left = t }

-- a line for an answer
abbrev pub line_for : ℕ → Answer → List ℕ
line_for step a = four_numbers step a.refusal a.first a.second

-- after a record of a size: its call is made and counted, its line written, and its step counted
abbrev pub progress_after : Progress → Call → Outcome → ℕ → Progress
progress_after p call o size =
    record {
      «record» = o.machine;
      counters = counted call o.answer.refusal p.counters;
      at = p.at + size;
      text = p.text + length (line_for p.step o.answer);
      step = p.step + 1;
    }

unfoldable pub answer_one : Playing → Call → ℕ → Playing
answer_one s call size =
    let p = s.progress in
    let o = answer_to call p.«record» s.left in
    playing (progress_after p call o size) (written s.out p.text (line_for p.step o.answer)) o.left

-- what is left when no more records are answered, and why
pub record Played : Type 0 where
  pub stopped : Stopped
  pub out : List ℕ
  pub left : Tables

abbrev pub played : Stopped → List ℕ → Tables → Played
played stopped out t = record { stopped = stopped; out = out; left = t }

abbrev pub stopped_at : Progress → Stop → Stopped
stopped_at p why = record { progress = p; why = why }

abbrev pub stop_for : Stop → Playing → Played
stop_for why s = played (stopped_at s.progress why) s.out s.left

-- the reason by that of the decoding
abbrev pub stop_of : Undecoded → Stop
stop_of Unknown = Stop.Unknown
stop_of Cut = Stop.Cut

-- a whole record is answered and the next follows; else the reason is that of the decoding
abbrev pub followed : Result (Call × ℕ) Undecoded → Playing → (Playing → Played) → Played
followed (Ok (call, size)) s next = next (answer_one s call size)
followed (Err why) s next = stop_for (stop_of why) s

-- the records of some bytes, at most so many of them: All where no byte is left; Full where the output has no room for another line, or the
-- step cannot be counted in 64 bits
unfoldable pub answer_up_to : ℕ → List ℕ → Playing → Played
answer_up_to zero bytes s = stop_for Stop.All s
answer_up_to (suc more) bytes s =
    if leb (length bytes) s.progress.at then stop_for Stop.All s
    else if not (has_room_for (length s.out) s.progress.text s.progress.step) then stop_for Stop.Full s
    else followed (decode_at bytes s.progress.at) s (answer_up_to more bytes)

-- all the records of some bytes: there are fewer of them than bytes
unfoldable pub answer_records : List ℕ → Playing → Played
answer_records bytes s = answer_up_to (length bytes) bytes s
