-- Physical frame numbers, table places and bit numbers, which are never mixed: a number as each of the three.
use Rattle.std.specs.Prelude.{ℕ, ◌-◌, ◌^◌, ltb, Option, Some, None, if◌then◌else◌}
use Rattle.frames.specs.declared.Frame.{Frame}
use Rattle.frames.specs.declared.Place.{Place}
use Rattle.frames.specs.declared.Bit.{Bit}

-- the largest number of 64 bits
abbrev pub most_number : ℕ
most_number = 2 ^ 64 - 1

abbrev pub frame : ℕ → Frame
frame n = record { 0 = n }

abbrev pub place : ℕ → Place
place n = record { 0 = n }

abbrev pub bit : ℕ → Bit
bit n = record { 0 = n }

-- a place, where it comes before the end; else none
abbrev pub place_below : ℕ → ℕ → Option Place
place_below i end = if ltb i end then Some (place i) else None
