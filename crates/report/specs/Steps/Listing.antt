-- The areas' lines, as they are appended in a place of the function's own, the sums over the areas, and a text that a buffer takes whole.
use Rattle.std.specs.Prelude.{ℕ, ◌≤◌, ◌<◌, List, Option, Some, None, ◌≡◌, length, if◌then◌else◌}
use Rattle.frames.specs.Areas.{area_in}
use Rattle.frames.specs.Tables.{Tables}
use Rattle.text.specs.declared.writing.Writer.{Writer}
use Rattle.text.specs.Writing.{has_room, written, Appends}
use Rattle.rules.specs.declared.Memory.{Memory}
use Rattle.rules.specs.declared.Record.{Record}
use Rattle.rules.specs.Limits.{most_frames, most_block_order, most_areas}
use Rattle.rules.specs.Report.{count_of, free_of, sum_over, lines_over, line_of_area}
use Rattle.report.specs.declared.Totals.{Totals}

-- what the shape says of the areas and the sums need
pub record Bounded (memory : Memory) (areas : List ℕ) : Type 0 where
  pub few : memory.declared ≤ most_areas
  pub counts : (i : ℕ) → i < memory.declared → (area_in areas i).count ≤ most_frames
  pub orders : (i : ℕ) → i < memory.declared → (area_in areas i).order_per_bit ≤ most_block_order

-- the lines of the first n areas are appended, and these are their sums
pub record Lists (m : Record) (t : Tables) (n : ℕ) (before after : Writer) (r : Totals) : Type 0 where
  pub total : r.total ≡ sum_over (count_of m) n
  pub free : r.free ≡ sum_over (free_of m t) n
  pub lines : Appends (lines_over (line_of_area m t) n) before after

-- a text is put at the front of a buffer, and its length is told; where it has no room nothing is put or told
pub record PutWhole (text before after : List ℕ) (told : Option ℕ) : Type 0 where
  pub bytes : after ≡ (if has_room before 0 text then written before 0 text else before)
  pub says : told ≡ (if has_room before 0 text then Some (length text) else None)
