-- The machine record: a fresh one, its areas, and the conversions between its physical frames and its table places.
use Rattle.std.specs.Prelude.{ℕ, ◌+◌, ◌-◌, Bool, not, replicate}
use Rattle.frames.specs.declared.Frame.{Frame}
use Rattle.frames.specs.declared.Place.{Place}
use Rattle.frames.specs.declared.Area.{Area}
use Rattle.rules.specs.declared.Record.{Record}
use Rattle.frames.specs.Units.{frame, place}
use Rattle.frames.specs.Areas.{area_in, in_areas}
use Rattle.rules.specs.Limits.{most_area_numbers}

-- a record with no areas, whose unused area records are zero
abbrev pub bare_record : ℕ → ℕ → ℕ → Record
bare_record base frames block_order =
    record {
      memory = record { base = frame base; frames = frames; block_order = block_order; declared = 0 };
      areas = replicate most_area_numbers 0;
    }

-- all zeros
abbrev pub fresh_record : Record
fresh_record = bare_record 0 0 0

abbrev pub area_at : Record → ℕ → Area
area_at m i = area_in m.areas i

-- place = physical frame - P
abbrev pub place_of : Record → Frame → Place
place_of m f = place (f.0 - m.memory.base.0)

abbrev pub frame_at : Record → Place → Frame
frame_at m p = frame (m.memory.base.0 + p.0)

-- the frame after the last
abbrev pub end_frame : Record → ℕ
end_frame m = m.memory.base.0 + m.memory.frames

-- a frame in no area
abbrev pub is_ordinary : Record → Place → Bool
is_ordinary m p = not (in_areas m.areas m.memory.declared (frame_at m p))
