-- Demand 2, in plain quantifiers over all candidates, beside the executable definition of grant.
use Rattle.std.specs.Prelude.{◌≡◌, ℕ, ◌+◌, ◌%◌, ◌^◌, ◌<◌, ◌≤◌, true, false, not, ◌&&◌, ◌||◌, ◌⊎◌, ◌↔◌, ◌==◌, nat_eq, nat_lt}
use Rattle.search.specs.Search.{how_many}
use Rattle.answer.specs.Answers.{done}
use Rattle.bitmap.specs.Bits.{is_clear}
use Rattle.frames.specs.Units.{frame, place, bit}
use Rattle.frames.specs.Marks.{free, movable}
use Rattle.frames.specs.Areas.{holds_frame, bit_count, bits_for, frame_of_bit}
use Rattle.frames.specs.Tables.{Tables}
use Rattle.rules.specs.declared.Record.{Record}
use Rattle.rules.specs.Record.{area_at}
use Rattle.rules.specs.Limits.{most_align_order}
use Rattle.rules.specs.Shape.{shape_wrong}
use Rattle.rules.specs.PageCalls.{free_ordinary, free_in_area}
use Rattle.rules.specs.DeviceCalls.{is_unknown, bad_device, bitmap_of, place_of_bit, grant}
use Rattle.rules.specs.Promises.Changes.{kind_at}

-- how many of the d frames from place p on hold a movable page, of kind 1
abbrev pub movable_in : Tables → ℕ → ℕ → ℕ
movable_in t p d = how_many (λ q. nat_eq (kind_at t q) 1) p d

-- how many frames below place r are free and ordinary; how many are free and in an area, but not in area i
abbrev pub ordinary_below : Record → Tables → ℕ → ℕ
ordinary_below m t r = how_many (λ q. free_ordinary m t (place q)) 0 r

abbrev pub elsewhere_below : Record → Tables → ℕ → ℕ → ℕ
elsewhere_below m t i r = how_many (λ q. free_in_area m t (place q) && not (holds_frame (area_at m i) (frame (m.memory.base.0 + q)))) 0 r

-- the free ordinary frames and the free frames of the other areas together
abbrev pub room_for : Record → Tables → ℕ → ℕ
room_for m t i = ordinary_below m t m.memory.frames + elsewhere_below m t i m.memory.frames

module _ (m : Record) (t : Tables) (i count align_order : ℕ) where
  -- bit j of area i starts a candidate: its physical frame is a multiple of 2^align_order, and its bits lie in the area and are clear
  pub record Candidate (j : ℕ) : Type 0 where
    pub aligned : (frame_of_bit (area_at m i) (bit j)).0 % 2 ^ align_order ≡ 0
    pub inside : j + bits_for (area_at m i) count ≤ bit_count (area_at m i)
    pub clear : (k : ℕ) → j ≤ k → k < j + bits_for (area_at m i) count → is_clear t.bitmap (bitmap_of m i) k ≡ true

  -- it is grantable when each of its count frames has kind 0 or 1
  pub record Grantable (j : ℕ) : Type 0 where
    pub candidate : Candidate j
    pub leaves : (q : ℕ) → (place_of_bit m i (bit j)).0 ≤ q → q < (place_of_bit m i (bit j)).0 + count → (kind_at t q ≡ free) ⊎ (kind_at t q ≡ movable)

  -- and the lowest when no lower bit starts one that is
  pub record FirstGrantable (j : ℕ) : Type 0 where
    pub grantable : Grantable j
    pub lowest : (k : ℕ) → k < j → Grantable k → ⊥

  -- how many pages move out of the run at bit j
  abbrev pub moved : ℕ → ℕ
  moved j = movable_in t (place_of_bit m i (bit j)).0 count

  -- no candidate is grantable
  abbrev pub NoRun : Type 0
  NoRun = (j : ℕ) → Grantable j → ⊥

  -- the first grantable candidate has more movable frames than there are free ordinary frames and free frames of the other areas together
  abbrev pub NoTargets : Type 0
  NoTargets = (j : ℕ) × FirstGrantable j × (room_for m t i < moved j)

  -- the checks before the search pass
  pub record Asked (device : ℕ) : Type 0 where
    pub shape : shape_wrong m t ≡ false
    pub arguments : (is_unknown m.memory i || count == 0 || nat_lt most_align_order align_order || bad_device device) ≡ false

  pub record GrantAnswers (device : ℕ) : Type 0 where
    -- accepted with frame f and n moved just if the first grantable candidate has that frame and n movable frames, and there is room for n
    -- or more
    pub accepted :
        (f n : ℕ) →
        ((grant m i count align_order device t).answer ≡ done f n) ↔
        ((j : ℕ) × FirstGrantable j × ((frame_of_bit (area_at m i) (bit j)).0 ≡ f) × (moved j ≡ n) × (n ≤ room_for m t i))
    -- 7 exactly if there is no run, 8 exactly if the pages of the first have nowhere to go
    pub no_run : ((grant m i count align_order device t).answer.refusal ≡ 7) ↔ NoRun
    pub no_target : ((grant m i count align_order device t).answer.refusal ≡ 8) ↔ NoTargets

abbrev pub GrantIsFirstFit : Type 0
GrantIsFirstFit =
    (m : Record) (t : Tables) (i count align_order device : ℕ) → Asked m t i count align_order device → GrantAnswers m t i count align_order device
