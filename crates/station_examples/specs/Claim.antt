-- What a station example says, and when it holds: each call is answered as it says, in turn, and then the marks stand as it says.
use Rattle.std.specs.Prelude.{ℕ, Bool, true, ◌&&◌, List, [], ◌∷◌, eqb, replicate}
use Rattle.answer.specs.declared.Answer.{Answer}
use Rattle.frames.specs.Units.{frame}
use Rattle.frames.specs.Tables.{Tables, tables, mark_at}
use Rattle.rules.specs.declared.Call.{Call}
use Rattle.rules.specs.declared.Record.{Record}
use Rattle.rules.specs.Record.{fresh_record, place_of}
use Rattle.rules.specs.Report.{report_of}
use Rattle.rules.specs.Calls.{perform}

-- a call and its answer
pub record Step : Type 0 where
  pub call : Call
  pub answer : Answer

infix 70 ◌answers◌
abbrev pub ◌answers◌ : Call → Answer → Step
call answers answer = record { call = call; answer = answer }

-- a physical frame and its mark
pub record Mark : Type 0 where
  pub at : ℕ
  pub mark : ℕ

infix 70 ◌holds◌
abbrev pub ◌holds◌ : ℕ → ℕ → Mark
at holds mark = record { at = at; mark = mark }

pub record Example : Type 0 where
  pub steps : List Step
  pub marks : List Mark

abbrev pub same_answer : Answer → Answer → Bool
same_answer a c = eqb a.refusal c.refusal && eqb a.first c.first && eqb a.second c.second

abbrev pub marks_stand : Record → Tables → List Mark → Bool
marks_stand m t [] = true
marks_stand m t (x ∷ xs) = eqb (mark_at t (place_of m (frame x.at))) x.mark && marks_stand m t xs

-- each call is given the record and the tables as the last one left them, and no text: the boot has no regions
abbrev pub steps_right : List Step → List Mark → Record → Tables → Bool
steps_right [] marks m t = marks_stand m t marks
steps_right (s ∷ ss) marks m t =
    let o = perform s.call [] m t in
    same_answer o.answer s.answer && steps_right ss marks o.machine o.left

-- an example starts with a fresh record, 32 frames and as many bitmap words as a replay lends, 96
abbrev start_tables : Tables
start_tables = tables (replicate 32 0) (replicate 32 0) (replicate 96 0) (replicate 32 0)

unfoldable pub is_right : Example → Bool
is_right e = steps_right e.steps e.marks fresh_record start_tables

-- the report after some calls
abbrev report_on : List Step → Record → Tables → List ℕ
report_on [] m t = report_of m t
report_on (s ∷ ss) m t = let o = perform s.call [] m t in report_on ss o.machine o.left

unfoldable pub report_after : List Step → List ℕ
report_after steps = report_on steps fresh_record start_tables

unfoldable pub all_right : List Example → Bool
all_right [] = true
all_right (e ∷ es) = is_right e && all_right es
