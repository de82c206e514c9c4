-- The machine record as a caller in C holds it: its first frame, its frames, its block order, how many areas are declared, and both counters in one
-- number; then the areas' numbers, as the record has them. An answer is three numbers.
use Rattle.std.specs.Prelude.{ℕ, ◌+◌, ◌*◌, ◌/◌, ◌%◌, ◌^◌, List, [], ◌∷◌, ◌++◌, length, get_or, take, drop}
use Rattle.answer.specs.declared.Answer.{Answer}
use Rattle.frames.specs.Units.{frame}
use Rattle.rules.specs.declared.Counters.{Counters}
use Rattle.rules.specs.declared.Memory.{Memory}
use Rattle.rules.specs.declared.Record.{Record}
use Rattle.rules.specs.Counters.{counters}
use Rattle.rules.specs.Limits.{most_area_numbers}

-- the numbers before the areas, of a record and of an answer
abbrev pub areas_start : ℕ
areas_start = 5

abbrev pub record_length : ℕ
record_length = areas_start + most_area_numbers

abbrev pub answer_length : ℕ
answer_length = 3

-- from numbers to a record
abbrev pub record_from : List ℕ → Record
record_from numbers =
    record {
      memory = record {
        base = frame (get_or numbers 0 0);
        frames = get_or numbers 1 0;
        block_order = get_or numbers 2 0;
        declared = get_or numbers 3 0;
      };
      areas = take most_area_numbers (drop areas_start numbers);
    }

-- the counters: the granted in the low 32 bits of their number, the refused above them, so that every number of 64 bits is two counters
abbrev pub counters_in : ℕ → Counters
counters_in both = counters (both % 2 ^ 32) (both / 2 ^ 32)

abbrev pub counters_from : List ℕ → Counters
counters_from numbers = counters_in (get_or numbers 4 0)

abbrev pub counters_number : Counters → ℕ
counters_number c = c.granted + 2 ^ 32 * c.refused

-- from a record to its numbers: those of its memory, its counters', and then its areas'
abbrev pub own_numbers : Memory → Counters → List ℕ
own_numbers m c = m.base.0 ∷ m.frames ∷ m.block_order ∷ m.declared ∷ counters_number c ∷ []

abbrev pub numbers_of : Record → Counters → List ℕ
numbers_of m c = own_numbers m.memory c ++ m.areas

abbrev pub answer_numbers : Answer → List ℕ
answer_numbers a = a.refusal ∷ a.first ∷ a.second ∷ []

-- the first numbers of a list become others; those after them are kept
unfoldable pub over : List ℕ → List ℕ → List ℕ
over new numbers = new ++ drop (length new) numbers
