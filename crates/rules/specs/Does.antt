-- How the contracts of the calls' code name what a call does. A function is lent a record's areas beside its memory, and the tables in the slices
-- that it is lent: these terms and those of frames/specs/Lent are where the record and all tables stand together.
use Rattle.std.specs.Prelude.{◌≡◌, ℕ, Bool, List, Result, length, ◌==◌, if◌then◌else◌}
use Rattle.answer.specs.declared.Answer.{Answer}
use Rattle.answer.specs.declared.Numbers.{Numbers}
use Rattle.answer.specs.declared.refusal.Refusal.{Refusal}
use Rattle.answer.specs.Answers.{answer_of}
use Rattle.frames.specs.declared.LentTables.{LentTables}
use Rattle.frames.specs.Tables.{Tables}
use Rattle.frames.specs.Lent.{tables_in, SameSlices}
use Rattle.rules.specs.declared.LentRecord.{LentRecord}
use Rattle.rules.specs.declared.Memory.{Memory}
use Rattle.rules.specs.declared.Record.{Record}
use Rattle.rules.specs.Limits.{most_area_numbers}
use Rattle.rules.specs.Outcomes.{Outcome, outcome, refuse}

-- the record of a memory and the numbers of its areas
abbrev pub record_with : Memory → List ℕ → Record
record_with memory areas = record { memory = memory; areas = areas }

-- the record that a function is lent
abbrev pub record_in : LentRecord → Record
record_in m = record_with m.memory m.areas.now

-- a function that hands back an answer alone does what a call does, from some tables to others: the record stays
abbrev pub AnswersOn : (Record → Tables → Outcome) → LentRecord → Result Numbers Refusal → Tables → Tables → Type 0
AnswersOn call m r before after = outcome (record_in m) (answer_of r) after ≡ call (record_in m) before

-- the same of the tables that are lent to it as one
abbrev pub Answers : (Record → Tables → Outcome) → LentRecord → Result Numbers Refusal → LentTables → LentTables → Type 0
Answers call m r before after = SameSlices before after × AnswersOn call m r (tables_in before) (tables_in after)

-- a function that hands back a memory, or leaves it where it is refused, does what a call does, from some tables to others: the areas' numbers of the
-- record stand where they were lent
abbrev pub ReturnsOn : (Record → Tables → Outcome) → Memory → List ℕ → Memory → List ℕ → Answer → Tables → Tables → Type 0
ReturnsOn call memory areas memory_after areas_after answer before after =
    outcome (record_with memory_after areas_after) answer after ≡ call (record_with memory areas) before

-- the same of the tables that are lent to it as one
abbrev pub Returns : (Record → Tables → Outcome) → Memory → List ℕ → Memory → List ℕ → Answer → LentTables → LentTables → Type 0
Returns call memory areas memory_after areas_after answer before after =
    SameSlices before after × ReturnsOn call memory areas memory_after areas_after answer (tables_in before) (tables_in after)

-- the numbers lent are those of all areas
abbrev pub has_all_areas : Record → Bool
has_all_areas m = length m.areas == most_area_numbers

-- a call that may write among them: lent more of them or fewer, it is refused as the wrong shape
unfoldable pub with_all_areas : (Record → Tables → Outcome) → Record → Tables → Outcome
with_all_areas call m t = if has_all_areas m then call m t else refuse m t 1
