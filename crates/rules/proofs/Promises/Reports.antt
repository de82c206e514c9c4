-- A report writes what it answers and keeps the rest, and its numbers are the plain ones. Assumes nothing.
use Rattle.std.proofs.Common.{◌≡◌, ℕ, zero, suc, ◌+◌, ◌-◌, ◌*◌, ◌≤◌, Bool, not, eqb, List, [], ◌∷◌, ◌++◌, length, take, drop, refl, ap, ◌∙◌, arith, length-append, length-drop, ltb-false}
use mathlib.Core.Path.{fun_ext}
use lib.Seq.{take-append_seam, drop-append_seam}
use Rattle.std.specs.Prelude.{if◌then◌else◌}
use Rattle.search.specs.Search.{how_many, longest}
use Rattle.search.proofs.Bools.{by_cases}
use Rattle.search.proofs.Counts.{many_none, many_pass, many_fail}
use Rattle.search.proofs.Longest.{longest_is}
use Rattle.bitmap.specs.Bits.{is_clear}
use Rattle.frames.specs.Areas.{bit_count}
use Rattle.answer.specs.declared.Answer.{Answer}
use Rattle.frames.specs.Tables.{Tables, tables}
use Rattle.rules.specs.declared.Record.{Record}
use Rattle.rules.specs.Record.{area_at}
use Rattle.rules.specs.Shape.{shape_wrong}
use Rattle.rules.specs.Outcomes.{Outcome, outcome, ◌⇒◌, checked}
use Rattle.rules.specs.DeviceCalls.{bitmap_of}
use Rattle.rules.specs.Report.{count_of, used_of, free_of, max_chunk, sum_over, total_label, free_label, amount_line, line_of_area, lines_over, report_of, report_checks, report, reported}
use Rattle.rules.specs.Promises.Reports.{is_used, free_in, ReportFigures, ReportLines, AcceptedReport, ReportWithoutWords}
use Rattle.rules.proofs.ShapeFacts.{shape_lengths}
use Rattle.rules.proofs.Checks.{checked_passed, accepted_passed}

-- of a range, those that do not pass are the others
many_not : (p : ℕ → Bool) (i d : ℕ) → how_many (λ k. not (p k)) i d + how_many p i d ≡ d
many_not p i zero = let a = many_none (λ k. not (p k)) i in let b = many_none p i in omega arith
many_not p i (suc d) =
    let rest = many_not p (suc i) d in
    by_cases (p i)
    (λ e. let a = many_pass p i d e in let b = many_fail (λ k. not (p k)) i d (ap not e) in omega arith)
    (λ e. let a = many_fail p i d e in let b = many_pass (λ k. not (p k)) i d (ap not e) in omega arith)

pub report_figures : ReportFigures
unfolding used_of max_chunk
report_figures m t i =
    let from = (area_at m i).base.0 - m.memory.base.0 in
    let count = (area_at m i).count in
    let clear = is_clear t.bitmap (bitmap_of m i) in
    let others = many_not (is_used t) from count in
    record {
      used = refl;
      free = omega arith;
      chunk = (longest clear 0 (bit_count (area_at m i)), refl, longest_is clear 0 (bit_count (area_at m i)));
    }

-- ---- the buffer

-- a report, and after it what stood there
abbrev filled : Record → List ℕ → Tables → List ℕ
filled m buffer t = report_of m t ++ drop (length (report_of m t)) buffer

reported_is : (m : Record) (buffer : List ℕ) (t : Tables) → (report m buffer t).answer.refusal ≡ 0 → reported m buffer t ≡ filled m buffer t
unfolding reported
reported_is m buffer t e = rw e

pub accepted_report : AcceptedReport
unfolding report
accepted_report m buffer t e =
    let passed = accepted_passed m t (report_checks m buffer t) _ refl e in
    let does = checked_passed m t (report_checks m buffer t) _ passed in
    let is = reported_is m buffer t e in
    let after = drop (length (report_of m t)) buffer in
    record {
      answers = ap (λ (o : Outcome). o.answer) does;
      record_stays = ap (λ (o : Outcome). o.machine) does;
      tables_stay = ap (λ (o : Outcome). o.left) does;
      front = ap (take (length (report_of m t))) is ∙ take-append_seam (report_of m t) after;
      rest = ap (drop (length (report_of m t))) is ∙ drop-append_seam (report_of m t) after;
      as_long =
          let sum = length-append (report_of m t) after in
          let rest = length-drop (length (report_of m t)) buffer in
          let room : length (report_of m t) ≤ length buffer = ltb-false (length buffer) (length (report_of m t)) passed.1.0 in
          ap length is ∙ omega arith;
    }

-- ---- content words

-- the answer to a list of two checks goes by what they test
two_checks :
    (m : Record) (t t' : Tables) (wrong wrong' short : Bool) (a : Answer) →
    wrong' ≡ wrong →
    (checked m t' (wrong' ⇒ 1 ∷ short ⇒ 16 ∷ []) (outcome m a t')).answer ≡ (checked m t (wrong ⇒ 1 ∷ short ⇒ 16 ∷ []) (outcome m a t)).answer
unfolding checked
two_checks m t t' wrong wrong' short a e =
    by_cases wrong (λ y. rw (e ∙ y, y)) (λ n. rw (e ∙ n, n) (by_cases short (λ y. rw y) (λ k. rw k)))

pub report_without_words : ReportWithoutWords
unfolding report reported report_of used_of max_chunk
report_without_words m buffer t words e =
    let others = tables t.marks words t.bitmap t.owners in
    let shape = ap not (shape_lengths m t others (record { marks = refl; words = e; bitmap = refl; owners = refl })) in
    let answer : (report m buffer others).answer ≡ (report m buffer t).answer =
    two_checks m t others (shape_wrong m t) (shape_wrong m others) _ _ shape
    in
    (answer, ap (λ (a : Answer). if eqb a.refusal 0 then report_of m t ++ drop (length (report_of m t)) buffer else buffer) answer)

-- ---- the lines

pub report_lines : ReportLines
unfolding report_of used_of
report_lines m t =
    let n = m.memory.declared in
    let free : sum_over (free_of m t) n ≡ sum_over (free_in m t) n = ap (λ (f : ℕ → ℕ). sum_over f n) (fun_ext (λ i. (report_figures m t i).free)) in
    ap
    (λ (frames : ℕ). amount_line total_label (4 * sum_over (count_of m) n) ++ amount_line free_label (4 * frames) ++ lines_over (line_of_area m t) n)
    free
