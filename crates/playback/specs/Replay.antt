-- Document 01, "Replay records": the whole output of a replay, as one function of its input. It is what the program's blocks, put together,
-- must give, whatever the sizes of its buffers.
use Rattle.std.specs.Prelude.{ℕ, zero, suc, ◌+◌, ◌≡◌, ◌≢◌, List, [], ◌++◌, length, take, replicate, leb, if◌then◌else◌, Result, Ok, Err}
use Rattle.frames.specs.Tables.{Tables, tables}
use Rattle.rules.specs.declared.Record.{Record}
use Rattle.rules.specs.Record.{fresh_record}
use Rattle.rules.specs.Counters.{no_grants}
use Rattle.rules.specs.declared.Call.{Call}
use Rattle.records.specs.declared.Undecoded.{Undecoded}
use Rattle.records.specs.declared.Undecoded.TheVariants.{Unknown, Cut}
use Rattle.records.specs.Records.{decode_at}
use Rattle.records.specs.Lines.{heading, bad_line, end_line}
use Rattle.playback.specs.declared.Progress.{Progress}
use Rattle.playback.specs.declared.Stop.{Stop}
use Rattle.playback.specs.Playback.{answer_to, line_for, playing, Played, answer_records}

-- how many frames the program holds, and how many bitmap words it lends: document 02, request (v), keeps the frames and has more words
abbrev pub held_frames : ℕ
held_frames = 2048

abbrev pub held_bitmap_words : ℕ
held_bitmap_words = 96

-- what is found at an offset: a whole record has its line, and then come the lines that follow; an unknown kind or a cut body has `bad`
-- with the offset
abbrev pub lines_after : Result (Call × ℕ) Undecoded → ℕ → ℕ → Record → Tables → (ℕ → ℕ → Record → Tables → List ℕ) → List ℕ
lines_after (Ok (call, size)) at step m t follow =
    let o = answer_to call m t in
    line_for step o.answer ++ follow (at + size) (step + 1) o.machine o.left
lines_after (Err Unknown) at step m t follow = bad_line at
lines_after (Err Cut) at step m t follow = bad_line at

-- the lines from an offset on, for at most so many records: `end` with the number of records where no byte is left
unfoldable pub lines_up_to : ℕ → List ℕ → ℕ → ℕ → Record → Tables → List ℕ
lines_up_to zero bytes at step m t = end_line step
lines_up_to (suc more) bytes at step m t =
    if leb (length bytes) at then end_line step
    else lines_after (decode_at bytes at) at step m t (lines_up_to more bytes)

-- all the lines, from a machine and tables on: there are no more records than bytes
unfoldable pub lines_of : List ℕ → Record → Tables → List ℕ
lines_of bytes m t = lines_up_to (length bytes) bytes 0 0 m t

-- its tables, all zero
abbrev pub held_tables : Tables
held_tables = tables (replicate held_frames 0) (replicate held_frames 0) (replicate held_bitmap_words 0) (replicate held_frames 0)

-- the heading, and the lines from a fresh machine and zero tables on
unfoldable pub replay_output : List ℕ → List ℕ
replay_output bytes = heading ++ lines_of bytes fresh_record held_tables

-- ---- the code's records, in a buffer

-- the last line, by the reason that the records stopped; where the buffer was full there is none
abbrev pub last_line : Stop → Progress → List ℕ
last_line Stop.All p = end_line p.step
last_line Stop.Cut p = bad_line p.at
last_line Stop.Unknown p = bad_line p.at
last_line Stop.Full p = []

-- the text that the records came to, with the last line
abbrev pub text_of : Played → List ℕ
text_of end = let p = end.stopped.progress in take p.text end.out ++ last_line end.stopped.why p

-- at the start: a fresh machine, and the heading in the buffer
abbrev pub fresh : Progress
fresh = record { «record» = fresh_record; counters = no_grants; at = 0; text = length heading; step = 0 }

-- where the buffer never was too full, the records answered from the start on give the whole output
abbrev pub WholeOutput : Type 0
WholeOutput =
    (bytes out : List ℕ) →
    let end = answer_records bytes (playing fresh out held_tables) in
    take (length heading) out ≡ heading → end.stopped.why ≢ Stop.Full → text_of end ≡ replay_output bytes
