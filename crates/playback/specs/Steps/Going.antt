-- What goes on from call to call.
use Rattle.std.specs.Prelude.{ℕ, not, List, length, leb, if◌then◌else◌, Result, Ok, Err}
use Rattle.rules.specs.declared.Call.{Call}
use Rattle.rules.specs.Does.{record_with}
use Rattle.records.specs.declared.Undecoded.{Undecoded}
use Rattle.records.specs.Records.{decode_at}
use Rattle.playback.specs.declared.Going.{Going}
use Rattle.playback.specs.declared.Progress.{Progress}
use Rattle.playback.specs.declared.Stop.{Stop}
use Rattle.playback.specs.Playback.{has_room_for, stop_of}

-- with the areas' numbers and the text's length it is how far the records are answered
abbrev pub progress_with : Going → List ℕ → ℕ → Progress
progress_with p areas text =
    record { «record» = record_with p.machine.memory areas; counters = p.machine.counters; at = p.at; text = text; step = p.step }

-- a record that was decoded, or the reason that it is not answered
abbrev pub or_stop : Result (Call × ℕ) Undecoded → Result (Call × ℕ) Stop
or_stop (Ok found) = Ok found
or_stop (Err why) = Err (stop_of why)

-- what comes next: the record at a place and its length, or the reason that none is answered, in an output of a size after a text
abbrev pub next_at : List ℕ → ℕ → ℕ → ℕ → ℕ → Result (Call × ℕ) Stop
next_at bytes at size text step =
    if leb (length bytes) at then Err Stop.All
    else if not (has_room_for size text step) then Err Stop.Full
    else or_stop (decode_at bytes at)
