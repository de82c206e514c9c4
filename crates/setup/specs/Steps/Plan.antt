-- What a declaration comes to, without changing anything: the area, or the number of the first check that holds.
use Rattle.std.specs.Prelude.{ℕ, ◌*◌, ◌/◌, ◌≤◌, ◌<◌, Result, Ok, Err, List, [], ◌∷◌, ◌≡◌, drop, if◌then◌else◌}
use Rattle.frames.specs.declared.Area.{Area}
use Rattle.frames.specs.Tables.{Tables, tables}
use Rattle.text.specs.Numbers.{most_bytes}
use Rattle.rules.specs.declared.Record.{Record}
use Rattle.rules.specs.declared.Request.{Request}
use Rattle.rules.specs.Limits.{page_bytes}
use Rattle.rules.specs.Outcomes.{Check}
use Rattle.rules.specs.Declare.{alignment_for, base_for, size_for, limit_for, area_for, declare_checks}
use Rattle.setup.specs.declared.amounts.Rounded.{Rounded}

-- the amounts as the search takes them
abbrev pub rounded_for : Record → Request → Rounded
rounded_for m r = record { alignment = alignment_for m r; base = base_for m r; size = size_for m r; limit = limit_for m r }

-- alignment and size are whole pages, and no sum of two amounts wraps
pub record AmountsFit (x : Rounded) : Type 0 where
  pub some : 0 < x.alignment
  pub alignment_pages : x.alignment ≡ x.alignment / page_bytes * page_bytes
  pub size_pages : x.size ≡ x.size / page_bytes * page_bytes
  pub alignment_high : x.alignment ≤ most_bytes
  pub base_high : x.base ≤ 2 * most_bytes
  pub size_high : x.size ≤ 2 * most_bytes
  pub limit_high : x.limit ≤ most_bytes

-- of the tables a plan reads the marks, and how long the bitmap is
abbrev pub plan_tables : List ℕ → List ℕ → Tables
plan_tables marks bitmap = tables marks [] bitmap []

-- the area, unless a check holds
unfoldable pub planned : List Check → Area → Result Area ℕ
planned [] a = Ok a
planned (c ∷ cs) a = if c.holds then Err c.number else planned cs a

-- what is left to plan after so many of a declaration's checks: the first seven are of the shape, the number of areas, the request, its
-- order, its limit (two) and the bitmap's room, and the others say where the area goes
abbrev pub plan_after : ℕ → Record → Request → Tables → Result Area ℕ
plan_after k m r t = planned (drop k (declare_checks m r t)) (area_for m r t)

-- a plan makes the checks after the shape's
abbrev pub plan : Record → Request → Tables → Result Area ℕ
plan = plan_after 1
