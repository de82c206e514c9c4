-- What a boot comes to, without changing anything.
use Rattle.std.specs.Prelude.{ℕ, true, Result, Ok, Err, List, ◌≡◌, replicate}
use Rattle.frames.specs.Tables.{Tables, tables}
use Rattle.text.specs.Reading.{Read, gives, refuses}
use Rattle.answer.specs.declared.Refused.{Refused}
use Rattle.answer.specs.Answers.{number_of}
use Rattle.rules.specs.declared.Memory.{Memory}
use Rattle.rules.specs.declared.Record.{Record}
use Rattle.rules.specs.Record.{bare_record}
use Rattle.rules.specs.Shape.{memory_right}
use Rattle.rules.specs.Does.{record_with}

-- tables for so many frames and bitmap words that are all zero
abbrev pub clear_tables : ℕ → ℕ → Tables
clear_tables frames room = tables (replicate frames 0) (replicate frames 0) (replicate room 0) (replicate frames 0)

-- a record of numbers that keep to their limits has no areas
pub record IsBare (memory : Memory) (areas : List ℕ) : Type 0 where
  pub bare : record_with memory areas ≡ bare_record memory.base.0 memory.frames memory.block_order
  pub right : memory_right memory.base.0 memory.frames memory.block_order ≡ true

-- the memory of the new record, whose areas stand where their numbers were lent; or the refusal and its place
abbrev pub Starts : Read Record → Result Memory Refused → List ℕ → Type 0
Starts (gives new _) (Ok memory) areas = record_with memory areas ≡ new
Starts (gives _ _) (Err _) areas = ⊥
Starts (refuses _ _) (Ok _) areas = ⊥
Starts (refuses number at) (Err r) areas = (number_of r.refusal ≡ number) × (r.place ≡ at)
