-- Document 01, "The machine and its neighbours": what an area holds, and its share of the bitmap.
use Rattle.std.specs.Prelude.{ℕ, zero, suc, ◌+◌, ◌-◌, ◌*◌, ◌/◌, ◌%◌, ◌^◌, Bool, ◌&&◌, ◌||◌, List, leb, ltb, eqb, get_or, set}
use Rattle.search.specs.Search.{some}
use Rattle.frames.specs.declared.Area.{Area}
use Rattle.frames.specs.declared.Frame.{Frame}
use Rattle.frames.specs.declared.Bit.{Bit}
use Rattle.frames.specs.Units.{frame, bit}

-- x / d rounded up
abbrev pub ceiling : ℕ → ℕ → ℕ
ceiling x d = (x + (d - 1)) / d

abbrev pub is_multiple : ℕ → ℕ → Bool
is_multiple x d = eqb (x % d) 0

-- an area record that is not in use
abbrev pub no_area : Area
no_area = record { base = frame 0; count = 0; order_per_bit = 0 }

-- the frame after the area's last
abbrev pub end_of : Area → ℕ
end_of a = a.base.0 + a.count

abbrev pub holds_frame : Area → Frame → Bool
holds_frame a f = leb a.base.0 f.0 && ltb f.0 (end_of a)

abbrev pub are_disjoint : Area → Area → Bool
are_disjoint a c = leb (end_of a) c.base.0 || leb (end_of c) a.base.0

-- how many numbers an area takes in a record: its first frame, its count of frames, the order of its pages per bit
abbrev pub area_numbers : ℕ
area_numbers = 3

-- how many areas a record has room for
abbrev pub most_areas : ℕ
most_areas = 64

-- area i of a record's numbers; past their end a number reads 0
abbrev pub area_in : List ℕ → ℕ → Area
area_in numbers i =
    record {
      base = frame (get_or numbers (area_numbers * i) 0);
      count = get_or numbers (area_numbers * i + 1) 0;
      order_per_bit = get_or numbers (area_numbers * i + 2) 0;
    }

-- area i of a record's numbers becomes another; past their end nothing is kept
abbrev pub set_area : List ℕ → ℕ → Area → List ℕ
set_area numbers i a =
    set (set (set numbers (area_numbers * i) a.base.0) (area_numbers * i + 1) a.count) (area_numbers * i + 2) a.order_per_bit

-- the frame is in one of the first n areas; a frame in no area is ordinary
unfoldable pub in_areas : List ℕ → ℕ → Frame → Bool
in_areas areas n f = some (λ i. holds_frame (area_in areas i) f) 0 n

-- pages per bit; the area's bits, and its bitmap words
abbrev pub per_bit : Area → ℕ
per_bit a = 2 ^ a.order_per_bit

abbrev pub bit_count : Area → ℕ
bit_count a = a.count / per_bit a

abbrev pub word_count : Area → ℕ
word_count a = ceiling (bit_count a) 64

-- the first bitmap word of area i: the word after the previous area's last
unfoldable pub first_word : List ℕ → ℕ → ℕ
first_word areas zero = 0
first_word areas (suc i) = first_word areas i + word_count (area_in areas i)

-- the first frame of a bit, and the bit that a frame is in
abbrev pub frame_of_bit : Area → Bit → Frame
frame_of_bit a j = frame (a.base.0 + j.0 * per_bit a)

abbrev pub bit_of_frame : Area → Frame → Bit
bit_of_frame a f = bit ((f.0 - a.base.0) / per_bit a)

-- the bits that so many frames take
abbrev pub bits_for : Area → ℕ → ℕ
bits_for a count = ceiling count (per_bit a)
