-- How the contracts of the record's methods name what a call does: the record given and handed back, with its counters, and all tables at entry and at
-- exit.
use Rattle.std.specs.Prelude.{ℕ, ◌&&◌, not, List, Result, Ok, Err, ◌≡◌, if◌then◌else◌}
use Rattle.answer.specs.declared.Numbers.{Numbers}
use Rattle.answer.specs.declared.Refused.{Refused}
use Rattle.answer.specs.declared.refusal.Refusal.{Refusal}
use Rattle.answer.specs.Answers.{answer_at}
use Rattle.frames.specs.Tables.{Tables}
use Rattle.frames.specs.declared.LentTables.{LentTables}
use Rattle.rules.specs.declared.Call.{Call}
use Rattle.rules.specs.declared.Record.{Record}
use Rattle.rules.specs.Outcomes.{Outcome}
use Rattle.rules.specs.Counters.{counted}
use Rattle.rules.specs.Calls.{perform, bytes_after}
use Rattle.rules.specs.Does.{Returns, has_all_areas, with_all_areas}
use Rattle.rules.specs.Ledger.Roles.{role_of}
use Rattle.machine.specs.declared.Machine.{Machine}
use Rattle.machine.specs.declared.Returned.{Returned}

-- an answer whose refusal has no place
abbrev pub placeless : Result Numbers Refusal → Result Numbers Refused
placeless (Ok n) = Ok n
placeless (Err r) = Err (record { refusal = r; place = 0 })

-- the machine as it was, with an answer
abbrev pub kept : Machine → Result Numbers Refusal → Returned
kept m r = record { machine = m; answer = placeless r }

-- a method makes a call, which does so to the rest of the record, and counts it: from a machine and the numbers of its areas to what is handed back and
-- those numbers then, on tables lent before and after
abbrev pub Makes : Call → (Record → Tables → Outcome) → Machine → List ℕ → List ℕ → Returned → LentTables → LentTables → Type 0
Makes call does m areas areas_after r before after =
    Returns does m.memory areas r.machine.memory areas_after (answer_at r.answer) before after ×
    (r.machine.counters ≡ counted call (answer_at r.answer).refusal m.counters)

-- a method does what a call does, with these bytes beside it
abbrev pub Does : Call → List ℕ → Machine → List ℕ → List ℕ → Returned → LentTables → LentTables → Type 0
Does call bytes = Makes call (perform call bytes)

-- one that may write among the numbers of the areas is to be lent those of all
abbrev pub DoesWithAll : Call → List ℕ → Machine → List ℕ → List ℕ → Returned → LentTables → LentTables → Type 0
DoesWithAll call bytes = Makes call (with_all_areas (perform call bytes))

-- of a text and a buffer, the bytes beside a call are a report's buffer, and for every other call the text
abbrev pub beside : Call → List ℕ → List ℕ → List ℕ
beside call text buffer = if (role_of call).is_report then buffer else text

-- the buffer after a call: as the call leaves its bytes, but as it was where a report is not lent the numbers of all areas
abbrev pub buffer_after : Call → List ℕ → Record → Tables → List ℕ
buffer_after call buffer m t = if (role_of call).is_report && not (has_all_areas m) then buffer else bytes_after call buffer m t
