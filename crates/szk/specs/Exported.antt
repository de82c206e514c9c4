-- What an exported call makes of the six lists that it is lent, and a report of its buffer.
use Rattle.std.specs.Prelude.{ℕ, ◌≡◌, Bool, ◌&&◌, ◌||◌, List, ltb, length, set, if◌then◌else◌}
use Rattle.answer.specs.declared.Answer.{Answer}
use Rattle.answer.specs.Answers.{refused}
use Rattle.frames.specs.Tables.{Tables, tables}
use Rattle.std.specs.Borrow.{MutBor}
use denote.Triple.Both.{Both}
use Rattle.rules.specs.declared.Call.{Call}
use Rattle.rules.specs.Counters.{counted}
use Rattle.rules.specs.Outcomes.{Outcome}
use Rattle.rules.specs.Calls.{perform, bytes_after}
use Rattle.rules.specs.Ledger.Roles.{role_of}
use Rattle.szk.specs.Layout.{record_length, answer_length, record_from, counters_from, numbers_of, answer_numbers, over}

-- what a caller lends: the record's numbers, the tables and the answer's numbers
pub record Handed : Type 0 where
  pub numbers : List ℕ
  pub tables : Tables
  pub answer : List ℕ

abbrev pub handed : List ℕ → Tables → List ℕ → Handed
handed numbers tables answer = record { numbers = numbers; tables = tables; answer = answer }

-- a list has fewer than n numbers
abbrev pub is_short : List ℕ → ℕ → Bool
is_short numbers n = ltb (length numbers) n

-- the answer becomes a call's, in its first numbers
abbrev pub answered : Handed → Answer → Handed
answered l a = handed l.numbers l.tables (over (answer_numbers a) l.answer)

-- a call's outcome is given back: the record's numbers with the counters after it, the tables and the answer's numbers
abbrev pub given_back : Call → Outcome → Handed → Handed
given_back call o l =
    let c = counted call o.answer.refusal (counters_from l.numbers) in
    handed (over (numbers_of o.machine c) l.numbers) o.left (over (answer_numbers o.answer) l.answer)

-- an answer too short for three numbers becomes the refusal of a wrong shape, in its first number; one of no numbers can take nothing
abbrev pub told_short : List ℕ → List ℕ
told_short answer = set answer 0 1

-- an answer or a record that is too short is the wrong shape; else the call is made on the record that the numbers hold
unfoldable pub exported : Call → List ℕ → Handed → Handed
exported call bytes l =
    if is_short l.answer answer_length then handed l.numbers l.tables (told_short l.answer)
    else if is_short l.numbers record_length then answered l (refused 1)
    else given_back call (perform call bytes (record_from l.numbers) l.tables) l

-- a slice that is lent to be written: what it holds at entry and at exit
abbrev pub MutSlice : Type 0
MutSlice = Both (MutBor (List ℕ)) (MutBor (List ℕ))

-- a function leaves what an exported call makes of the six slices lent
abbrev pub Exports : Call → List ℕ → MutSlice → MutSlice → MutSlice → MutSlice → MutSlice → MutSlice → Type 0
Exports call bytes numbers marks words bitmap owners answer =
    handed numbers.exit.now (tables marks.exit.now words.exit.now bitmap.exit.now owners.exit.now) answer.exit.now ≡
    exported call bytes (handed numbers.entry.now (tables marks.entry.now words.entry.now bitmap.entry.now owners.entry.now) answer.entry.now)

-- the buffer after an exported call: as the call leaves its bytes, but as it was where a report's answer or record is too short
abbrev pub buffer_left : Call → List ℕ → Handed → List ℕ
buffer_left call buffer l =
    if (role_of call).is_report && (is_short l.answer answer_length || is_short l.numbers record_length) then buffer
    else bytes_after call buffer (record_from l.numbers) l.tables
