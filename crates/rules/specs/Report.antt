-- Document 02, request (iv): the report, in the lines of source document 000. Labels are bytes, numbers decimal.
use Rattle.std.specs.Prelude.{ℕ, zero, suc, ◌+◌, ◌-◌, ◌*◌, List, [], ◌∷◌, ◌++◌, length, drop, ◌==◌, nat_lt, if◌then◌else◌}
use Rattle.search.specs.Search.{how_many, longest}
use Rattle.answer.specs.Answers.{done}
use Rattle.bitmap.specs.Bits.{is_clear}
use Rattle.frames.specs.Units.{place}
use Rattle.frames.specs.Marks.{is_granted}
use Rattle.frames.specs.Areas.{per_bit, bit_count}
use Rattle.frames.specs.Tables.{Tables, mark_at}
use Rattle.text.specs.Writing.{decimal, four_numbers}
use Rattle.rules.specs.declared.Record.{Record}
use Rattle.rules.specs.Record.{area_at, place_of}
use Rattle.rules.specs.Shape.{shape_wrong}
use Rattle.rules.specs.Outcomes.{Outcome, outcome, Check, ◌⇒◌, checked}
use Rattle.rules.specs.DeviceCalls.{bitmap_of}

-- ---- what is reported of area i

abbrev pub count_of : Record → ℕ → ℕ
count_of m i = (area_at m i).count

-- used counts frames of kind 4 or 5; free is the area's frames of any other kind
unfoldable pub used_of : Record → Tables → ℕ → ℕ
used_of m t i = how_many (λ p. is_granted (mark_at t (place p))) (place_of m (area_at m i).base).0 (count_of m i)

abbrev pub free_of : Record → Tables → ℕ → ℕ
free_of m t i = count_of m i - used_of m t i

-- 2^k times the longest stretch of clear bits, of the area's own
unfoldable pub max_chunk : Record → Tables → ℕ → ℕ
max_chunk m t i = per_bit (area_at m i) * longest (is_clear t.bitmap (bitmap_of m i)) 0 (bit_count (area_at m i))

-- ---- the lines

-- the sum over the first n areas
unfoldable pub sum_over : (ℕ → ℕ) → ℕ → ℕ
sum_over f zero = 0
sum_over f (suc n) = sum_over f n + f n

-- `CmaTotal: ` and `CmaFree: `, an amount, and ` k_b` with the line's end
abbrev pub total_label : List ℕ
total_label = 67 ∷ 109 ∷ 97 ∷ 84 ∷ 111 ∷ 116 ∷ 97 ∷ 108 ∷ 58 ∷ 32 ∷ []

abbrev pub free_label : List ℕ
free_label = 67 ∷ 109 ∷ 97 ∷ 70 ∷ 114 ∷ 101 ∷ 101 ∷ 58 ∷ 32 ∷ []

unfoldable pub amount_line : List ℕ → ℕ → List ℕ
amount_line label k_b = label ++ decimal k_b ++ (32 ∷ 107 ∷ 66 ∷ 10 ∷ [])

-- `area `, its number, count, used and maxchunk
unfoldable pub area_line : ℕ → ℕ → ℕ → ℕ → List ℕ
area_line i count used chunk = (97 ∷ 114 ∷ 101 ∷ 97 ∷ 32 ∷ []) ++ four_numbers i count used chunk

abbrev pub line_of_area : Record → Tables → ℕ → List ℕ
line_of_area m t i = area_line i (count_of m i) (used_of m t i) (max_chunk m t i)

-- the lines of the first n areas
unfoldable pub lines_over : (ℕ → List ℕ) → ℕ → List ℕ
lines_over line zero = []
lines_over line (suc n) = lines_over line n ++ line n

-- a frame has 4 k_b
unfoldable pub report_of : Record → Tables → List ℕ
report_of m t =
    let n = m.memory.declared in
    amount_line total_label (4 * sum_over (count_of m) n) ++
    amount_line free_label (4 * sum_over (free_of m t) n) ++
    lines_over (line_of_area m t) n

-- ---- the call, lent a buffer

abbrev pub report_checks : Record → List ℕ → Tables → List Check
report_checks m buffer t =
    shape_wrong m t ⇒ 1 ∷
    nat_lt (length buffer) (length (report_of m t)) ⇒ 16 ∷
    []

unfoldable pub report : Record → List ℕ → Tables → Outcome
report m buffer t = checked m t (report_checks m buffer t) (outcome m (done (length (report_of m t)) 0) t)

-- the buffer after it: the report's bytes and then what stood there; as it was where the call is refused
unfoldable pub reported : Record → List ℕ → Tables → List ℕ
reported m buffer t =
    if (report m buffer t).answer.refusal == 0 then report_of m t ++ drop (length (report_of m t)) buffer else buffer
