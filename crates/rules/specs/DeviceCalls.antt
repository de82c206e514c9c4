-- Document 01, "Device calls", with the devices of document 02, request (vii). Where the pages of a run go, request (vi), is in Targets.antt.
use Rattle.std.specs.Prelude.{ℕ, zero, suc, ◌+◌, ◌-◌, ◌^◌, Bool, not, ◌&&◌, ◌||◌, ltb, leb, List, [], ◌∷◌, ◌==◌, nat_le, nat_lt, if◌then◌else◌}
use Rattle.search.specs.Search.{lowest, every, how_many}
use Rattle.answer.specs.Answers.{done}
use Rattle.bitmap.specs.Bits.{is_clear, set_bits, clear_bits}
use Rattle.frames.specs.declared.Area.{Area}
use Rattle.frames.specs.declared.Bit.{Bit}
use Rattle.frames.specs.declared.Frame.{Frame}
use Rattle.frames.specs.declared.Place.{Place}
use Rattle.frames.specs.Units.{place, bit}
use Rattle.frames.specs.Marks.{mark_of, field_of, has_kind, can_leave, is_granted, movable, head, later}
use Rattle.frames.specs.Areas.{is_multiple, end_of, per_bit, bit_count, first_word, frame_of_bit, bit_of_frame, bits_for}
use Rattle.frames.specs.Tables.{Tables, mark_at, word_at, owner_at, set_page, fill, fill_pages, with_bitmap, with_owners}
use Rattle.rules.specs.declared.Memory.{Memory}
use Rattle.rules.specs.declared.Record.{Record}
use Rattle.rules.specs.Record.{area_at, place_of}
use Rattle.rules.specs.Limits.{most_align_order, least_device, most_device}
use Rattle.rules.specs.Shape.{shape_wrong}
use Rattle.rules.specs.Outcomes.{Outcome, outcome, Check, ◌⇒◌, checked}
use Rattle.rules.specs.Targets.{targets, first_target}

-- the first word of area i's bitmap
abbrev pub bitmap_of : Record → ℕ → ℕ
bitmap_of m i = first_word m.areas i

-- the place of a bit's first frame
abbrev pub place_of_bit : Record → ℕ → Bit → Place
place_of_bit m i j = place_of m (frame_of_bit (area_at m i) j)

-- no device has that number; the frame has another owner, or none
abbrev pub bad_device : ℕ → Bool
bad_device device = nat_lt device least_device || nat_lt most_device device

abbrev pub not_owner : Record → Tables → Frame → ℕ → Bool
not_owner m t f device = not (owner_at t (place_of m f) == device)

-- ---- Grant (area, count, alignment order, device)

-- a candidate starts on a bit, its physical frame is a multiple of 2^align_order, and its bits lie in the area and are clear
unfoldable pub is_candidate : Record → Tables → ℕ → ℕ → ℕ → Bit → Bool
is_candidate m t i count align_order j =
    is_multiple (frame_of_bit (area_at m i) j).0 (2 ^ align_order) &&
    nat_le (j.0 + bits_for (area_at m i) count) (bit_count (area_at m i)) &&
    every (is_clear t.bitmap (bitmap_of m i)) j.0 (bits_for (area_at m i) count)

-- it is grantable when each of its count frames is free or movable
unfoldable pub is_grantable : Record → Tables → ℕ → ℕ → ℕ → Bit → Bool
is_grantable m t i count align_order j =
    is_candidate m t i count align_order j && every (λ q. can_leave (mark_at t (place q))) (place_of_bit m i j).0 count

-- the lowest grantable candidate; the bit after the last where there is none
unfoldable pub chosen : Record → Tables → ℕ → ℕ → ℕ → Bit
chosen m t i count align_order = bit (lowest (λ j. is_grantable m t i count align_order (bit j)) (bit_count (area_at m i)))

-- the movable frames of a run
unfoldable pub movers : Tables → Place → ℕ → ℕ
movers t p count = how_many (λ q. has_kind movable (mark_at t (place q))) p.0 count

-- a movable page of area i goes to the first target, with mark and word
unfoldable pub move_page : Record → Tables → ℕ → Place → Tables
move_page m t i p =
    if has_kind movable (mark_at t p) then set_page (set_page t (first_target m t i) (mark_at t p) (word_at t p)) p 0 0 else t

-- the movable pages of a run, ascending. No frame of the run is a target, so together they go to the first targets, in their order
unfoldable pub move_out : Record → Tables → ℕ → Place → ℕ → Tables
move_out m t i p zero = t
move_out m t i p (suc d) = move_out m (move_page m t i p) i (place (suc p.0)) d

-- the run's marks and words: the first mark has the count, the others are 5, and the words are 0
abbrev pub mark_run : Tables → Place → ℕ → Tables
mark_run t p count = fill_pages (set_page t p (mark_of count head) 0) (place (suc p.0)) (count - 1) (mark_of 0 later) 0

-- what a grant of the run at bit j to a device leaves
unfoldable pub take_run : Record → Tables → ℕ → ℕ → Bit → ℕ → Tables
take_run m t i count j device =
    with_owners
    (with_bitmap (mark_run (move_out m t i (place_of_bit m i j) count) (place_of_bit m i j) count)
    (set_bits t.bitmap (bitmap_of m i) j.0 (bits_for (area_at m i) count)))
    (fill t.owners (place_of_bit m i j).0 count device)

-- no area has that number
abbrev pub is_unknown : Memory → ℕ → Bool
is_unknown memory i = nat_le memory.declared i

abbrev pub grant_checks : Record → ℕ → ℕ → ℕ → ℕ → Tables → List Check
grant_checks m i count align_order device t =
    let j = chosen m t i count align_order in
    shape_wrong m t ⇒ 1 ∷
    (is_unknown m.memory i || count == 0 || nat_lt most_align_order align_order || bad_device device) ⇒ 2 ∷
    leb (bit_count (area_at m i)) j.0 ⇒ 7 ∷
    ltb (targets m t i) (movers t (place_of_bit m i j) count) ⇒ 8 ∷
    []

unfoldable pub grant : Record → ℕ → ℕ → ℕ → ℕ → Tables → Outcome
grant m i count align_order device t =
    let j = chosen m t i count align_order in
    checked m t (grant_checks m i count align_order device t)
    (outcome m (done (frame_of_bit (area_at m i) j).0 (movers t (place_of_bit m i j) count)) (take_run m t i count j device))

-- ---- Release (area, frame, count, device)

-- the range is not inside the area
abbrev pub outside_area : Area → Frame → ℕ → Bool
outside_area a f count = nat_lt f.0 a.base.0 || nat_lt (end_of a) (f.0 + count)

-- the frame is off a bit boundary
abbrev pub off_bit : Area → Frame → Bool
off_bit a f = not (is_multiple (f.0 - a.base.0) (per_bit a))

-- the later frames of a run are those of a grant
unfoldable pub later_frames : Tables → Place → ℕ → Bool
later_frames t p count = every (λ q. has_kind later (mark_at t (place q))) (suc p.0) (count - 1)

unfoldable pub free_run : Record → Tables → ℕ → Frame → ℕ → Tables
free_run m t i f count =
    with_owners
    (with_bitmap (fill_pages t (place_of m f) count 0 0)
    (clear_bits t.bitmap (bitmap_of m i) (bit_of_frame (area_at m i) f).0 (bits_for (area_at m i) count)))
    (fill t.owners (place_of m f).0 count 0)

-- the first frame's owner alone is asked
abbrev pub release_checks : Record → ℕ → Frame → ℕ → ℕ → Tables → List Check
release_checks m i f count device t =
    let mark = mark_at t (place_of m f) in
    shape_wrong m t ⇒ 1 ∷
    (is_unknown m.memory i || count == 0 || outside_area (area_at m i) f count || bad_device device) ⇒ 2 ∷
    (off_bit (area_at m i) f || not (has_kind head mark)) ⇒ 3 ∷
    not_owner m t f device ⇒ 15 ∷
    (not (field_of mark == count) || not (later_frames t (place_of m f) count)) ⇒ 9 ∷
    []

unfoldable pub release : Record → ℕ → Frame → ℕ → ℕ → Tables → Outcome
release m i f count device t = checked m t (release_checks m i f count device t) (outcome m (done 0 0) (free_run m t i f count))

-- ---- Device store, device read: by physical frame, and the device

abbrev pub outside_memory : Memory → Frame → Bool
outside_memory memory f = nat_lt f.0 memory.base.0 || nat_le (memory.base.0 + memory.frames) f.0

abbrev pub device_checks : Record → Frame → ℕ → Tables → List Check
device_checks m f device t =
    shape_wrong m t ⇒ 1 ∷
    (outside_memory m.memory f || bad_device device) ⇒ 2 ∷
    not (is_granted (mark_at t (place_of m f))) ⇒ 3 ∷
    not_owner m t f device ⇒ 15 ∷
    []

unfoldable pub device_store : Record → Frame → ℕ → ℕ → Tables → Outcome
device_store m f word device t =
    let p = place_of m f in
    checked m t (device_checks m f device t) (outcome m (done 0 0) (set_page t p (mark_at t p) word))

unfoldable pub device_read : Record → Frame → ℕ → Tables → Outcome
device_read m f device t = checked m t (device_checks m f device t) (outcome m (done (word_at t (place_of m f)) 0) t)
