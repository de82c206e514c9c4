-- Document 01, "The machine and its neighbours": the shape of a record and of the tables lent with it.
use Rattle.std.specs.Prelude.{ℕ, ◌+◌, ◌^◌, Bool, not, ◌&&◌, length, ◌==◌, nat_le}
use Rattle.search.specs.Search.{every}
use Rattle.frames.specs.declared.Area.{Area}
use Rattle.frames.specs.Areas.{is_multiple, end_of, are_disjoint, first_word}
use Rattle.frames.specs.Tables.{Tables}
use Rattle.rules.specs.declared.Memory.{Memory}
use Rattle.rules.specs.declared.Record.{Record}
use Rattle.rules.specs.Record.{area_at}
use Rattle.rules.specs.Limits.{least_frames, most_frames, least_base, most_end, most_block_order, most_areas}

-- the first frame, the number of frames and the block order keep to the first table, with document 02's frames
unfoldable pub memory_right : ℕ → ℕ → ℕ → Bool
memory_right base frames block_order =
    nat_le least_base base && nat_le least_frames frames && nat_le frames most_frames && nat_le (base + frames) most_end && nat_le block_order most_block_order

-- marks, words and owners have an entry for each frame
unfoldable pub lengths_right : ℕ → Tables → Bool
lengths_right frames t = length t.marks == frames && length t.words == frames && length t.owners == frames

-- an area has a frame, at most a block for each bit, begins and ends on a block, and lies in memory
unfoldable pub area_right : Memory → Area → Bool
area_right memory a =
    nat_le 1 a.count && nat_le a.order_per_bit memory.block_order && is_multiple a.base.0 (2 ^ memory.block_order) &&
    is_multiple a.count (2 ^ memory.block_order) && nat_le memory.base.0 a.base.0 && nat_le (end_of a) (memory.base.0 + memory.frames)

-- area i is right, and shares no frame with an area before it
unfoldable pub area_fits : Record → ℕ → Bool
area_fits m i = area_right m.memory (area_at m i) && every (λ k. are_disjoint (area_at m k) (area_at m i)) 0 i

-- the bitmap words that the areas need
abbrev pub words_needed : Record → ℕ
words_needed m = first_word m.areas m.memory.declared

unfoldable pub shape_right : Record → Tables → Bool
shape_right m t =
    memory_right m.memory.base.0 m.memory.frames m.memory.block_order && nat_le m.memory.declared most_areas && lengths_right m.memory.frames t &&
    every (area_fits m) 0 m.memory.declared && nat_le (words_needed m) (length t.bitmap)

abbrev pub shape_wrong : Record → Tables → Bool
shape_wrong m t = not (shape_right m t)
