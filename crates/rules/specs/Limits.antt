-- Document 01, "The machine and its neighbours", the first table, with the frames and areas of document 02, request (v): what is allowed. Byte
-- amounts are `most_bytes` of text/specs/Numbers.
use Rattle.std.specs.Prelude.{ℕ, ◌*◌, ◌^◌}
use Rattle.frames.specs.Areas.{area_numbers}
use Rattle.frames.specs.Areas as Areas

abbrev pub least_frames : ℕ
least_frames = 1

abbrev pub most_frames : ℕ
most_frames = 262144

-- the first physical frame is at least 1, and the frame after the last at most 2^36
abbrev pub least_base : ℕ
least_base = 1

abbrev pub most_end : ℕ
most_end = 2 ^ 36

abbrev pub most_block_order : ℕ
most_block_order = 10

-- the scans of `frames` list areas, so that it stands there
abbrev pub most_areas : ℕ
most_areas = Areas.most_areas

-- the numbers of all area records
abbrev pub most_area_numbers : ℕ
most_area_numbers = most_areas * area_numbers

abbrev pub least_name : ℕ
least_name = 1

abbrev pub most_name : ℕ
most_name = 536870911

-- device numbers; 0 is none's
abbrev pub least_device : ℕ
least_device = 1

abbrev pub most_device : ℕ
most_device = 65535

-- grant alignment orders are 0 to this
abbrev pub most_align_order : ℕ
most_align_order = 16

abbrev pub page_bytes : ℕ
page_bytes = 4096
