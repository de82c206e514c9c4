-- Document 02, request (iv): what an accepted report leaves, and the numbers of its lines in plain counts and quantifiers.
use Rattle.std.specs.Prelude.{◌≡◌, ℕ, ◌-◌, ◌*◌, ◌^◌, Bool, not, ◌||◌, List, ◌++◌, length, take, drop, ◌==◌}
use Rattle.search.specs.Search.{how_many, Longest}
use Rattle.answer.specs.Answers.{done}
use Rattle.bitmap.specs.Bits.{is_clear}
use Rattle.frames.specs.Areas.{bit_count, first_word}
use Rattle.frames.specs.Tables.{Tables, tables}
use Rattle.rules.specs.declared.Record.{Record}
use Rattle.rules.specs.Record.{area_at}
use Rattle.rules.specs.Report.{used_of, free_of, max_chunk, sum_over, total_label, free_label, amount_line, area_line, lines_over, report_of, report, reported}
use Rattle.rules.specs.Promises.Changes.{kind_at}

-- the frame at place p is of kind 4 or 5
abbrev pub is_used : Tables → ℕ → Bool
is_used t p = kind_at t p == 4 || kind_at t p == 5

-- of the frames of area i those of kind 4 or 5 are used, and every other is free
abbrev pub used_in : Record → Tables → ℕ → ℕ
used_in m t i = how_many (is_used t) ((area_at m i).base.0 - m.memory.base.0) (area_at m i).count

abbrev pub free_in : Record → Tables → ℕ → ℕ
free_in m t i = how_many (λ p. not (is_used t p)) ((area_at m i).base.0 - m.memory.base.0) (area_at m i).count

-- the numbers of area i: maxchunk is 2^k times the most bits in a row that are clear: so many are, among the area's own, and no more
pub record FiguresRight (m : Record) (t : Tables) (i : ℕ) : Type 0 where
  pub used : used_of m t i ≡ used_in m t i
  pub free : free_of m t i ≡ free_in m t i
  pub chunk :
      (bits : ℕ) ×
      (max_chunk m t i ≡ 2 ^ (area_at m i).order_per_bit * bits) ×
      Longest (is_clear t.bitmap (first_word m.areas i)) 0 (bit_count (area_at m i)) bits

abbrev pub ReportFigures : Type 0
ReportFigures = (m : Record) (t : Tables) (i : ℕ) → FiguresRight m t i

-- the lines have these numbers: in kB, at 4 a frame, the counts of all areas and the free frames of all, and then a line for each area
abbrev pub ReportLines : Type 0
ReportLines =
    (m : Record) (t : Tables) →
    let n = m.memory.declared in
    report_of m t ≡
    amount_line total_label (4 * sum_over (λ i. (area_at m i).count) n) ++
    amount_line free_label (4 * sum_over (free_in m t) n) ++
    lines_over (λ i. area_line i (area_at m i).count (used_in m t i) (max_chunk m t i)) n

-- an accepted report answers its length, writes its bytes at the front of the buffer and keeps those after them; the record and the tables stay
pub record ReportWrites (m : Record) (buffer : List ℕ) (t : Tables) : Type 0 where
  pub answers : (report m buffer t).answer ≡ done (length (report_of m t)) 0
  pub record_stays : (report m buffer t).machine ≡ m
  pub tables_stay : (report m buffer t).left ≡ t
  pub front : take (length (report_of m t)) (reported m buffer t) ≡ report_of m t
  pub rest : drop (length (report_of m t)) (reported m buffer t) ≡ drop (length (report_of m t)) buffer
  pub as_long : length (reported m buffer t) ≡ length buffer

-- content words play no part: with any others, of the same number, the answer and the buffer are the same
abbrev pub ReportWithoutWords : Type 0
ReportWithoutWords =
    (m : Record) (buffer : List ℕ) (t : Tables) (words : List ℕ) →
    length words ≡ length t.words →
    let others = tables t.marks words t.bitmap t.owners in
    ((report m buffer others).answer ≡ (report m buffer t).answer) × (reported m buffer others ≡ reported m buffer t)

abbrev pub AcceptedReport : Type 0
AcceptedReport = (m : Record) (buffer : List ℕ) (t : Tables) → (report m buffer t).answer.refusal ≡ 0 → ReportWrites m buffer t
