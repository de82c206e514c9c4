-- What a caller can rely on besides the contracts: the layout loses nothing; a refusal changes nothing, but that a grant is counted; a 0 says that
-- the call was made; and each call is given the record that the last one returned. Proved in `proofs/ReadBack.antt`, `proofs/Refusals.antt` and
-- `proofs/NextRecord.antt`.
use Rattle.std.specs.Prelude.{ℕ, ◌+◌, ◌%◌, ◌≤◌, ◌<◌, ◌⊎◌, ◌≢◌, ◌≡◌, List, ◌++◌, length, get_or, take, set}
use Rattle.rules.specs.declared.Call.{Call}
use Rattle.rules.specs.declared.Counters.{Counters}
use Rattle.rules.specs.declared.Record.{Record}
use Rattle.rules.specs.Limits.{most_area_numbers}
use Rattle.rules.specs.Counters.{counters, counted}
use Rattle.rules.specs.Calls.{perform}
use Rattle.rules.specs.Promises.Unchanged.{IsCounted}
use Rattle.szk.specs.Layout.{record_length, answer_length, record_from, counters_from, counters_number, numbers_of}
use Rattle.szk.specs.Exported.{Handed, exported, buffer_left}

-- the numbers of a record and its counters, whatever stands after them, are read as that record and those counters
abbrev pub ReadBack : Type 0
ReadBack =
    (m : Record) (c : Counters) (rest : List ℕ) →
    length m.areas ≡ most_area_numbers →
    c.granted < 4294967296 → (record_from (numbers_of m c ++ rest) ≡ m) × (counters_from (numbers_of m c ++ rest) ≡ c)

-- a record that is read has the numbers that it was read from
abbrev pub WrittenBack : Type 0
WrittenBack =
    (numbers : List ℕ) → record_length ≤ length numbers → numbers_of (record_from numbers) (counters_from numbers) ≡ take record_length numbers

-- a call whose answer is a refusal has changed no table, no byte of a report's buffer and no number of the record, but that of the counters where it
-- is a grant, refused with another number than 1: there it is one refused grant more
abbrev pub RefusalKeeps : Type 0
RefusalKeeps =
    (call : Call) (bytes : List ℕ) (l : Handed) →
    let number = get_or (exported call bytes l).answer 0 0 in
    let c = counters_from l.numbers in
    number ≢ 0 →
    ((exported call bytes l).tables ≡ l.tables) ×
    (buffer_left call bytes l ≡ bytes) ×
    (((IsCounted call number → ⊥) × ((exported call bytes l).numbers ≡ l.numbers)) ⊎
    (IsCounted call number ×
    ((exported call bytes l).numbers ≡ set l.numbers 4 (counters_number (counters c.granted ((c.refused + 1) % 4294967296))))))

-- where an answer has a number at all, a 0 in its first says that the call was made: both lists are long enough for it
abbrev pub DoneIsMade : Type 0
DoneIsMade =
    (call : Call) (bytes : List ℕ) (l : Handed) →
    0 < length l.answer →
    get_or (exported call bytes l).answer 0 0 ≡ 0 → (answer_length ≤ length l.answer) × (record_length ≤ length l.numbers)

-- after a call the numbers hold the record and the counters that the call returned, which the next call is made on
abbrev pub NextRecord : Type 0
NextRecord =
    (call : Call) (bytes : List ℕ) (l : Handed) →
    answer_length ≤ length l.answer →
    record_length ≤ length l.numbers →
    let o = perform call bytes (record_from l.numbers) l.tables in
    (record_from (exported call bytes l).numbers ≡ o.machine) ×
    (counters_from (exported call bytes l).numbers ≡ counted call o.answer.refusal (counters_from l.numbers))
