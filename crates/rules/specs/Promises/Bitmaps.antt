-- Document 01, "The machine and its neighbours": where an area's numbers and its bits stand, in plain numbers.
use Rattle.std.specs.Prelude.{◌≡◌, ℕ, suc, ◌+◌, ◌*◌, ◌/◌, ◌%◌, ◌^◌, ◌<◌, ◌≤◌, true, ◌↔◌, List, slice_index}
use Rattle.bitmap.specs.Bits.{is_clear}
use Rattle.frames.specs.declared.Area.{Area}
use Rattle.frames.specs.Areas.{area_in, bits_for, bit_count, first_word}

-- a record has three numbers for each area, one area after the other: its first frame, its count and its k
pub record AreaLayout : Type 0 where
  pub first : (numbers : List ℕ) (i : ℕ) → (area_in numbers i).base.0 ≡ slice_index numbers (3 * i)
  pub count : (numbers : List ℕ) (i : ℕ) → (area_in numbers i).count ≡ slice_index numbers (3 * i + 1)
  pub per_bit : (numbers : List ℕ) (i : ℕ) → (area_in numbers i).order_per_bit ≡ slice_index numbers (3 * i + 2)

pub record BitmapLayout : Type 0 where
  -- an area has a bit for each 2^k of its frames; its words come after those of the area before it, the first area's from word 0 on
  pub bits : (a : Area) → bit_count a ≡ a.count / 2 ^ a.order_per_bit
  pub first : (areas : List ℕ) → first_word areas 0 ≡ 0
  pub next :
      (areas : List ℕ) (i : ℕ) →
      let a = area_in areas i in
      first_word areas (suc i) ≡ first_word areas i + (a.count / 2 ^ a.order_per_bit + 63) / 64
  -- a count of frames takes the bits that hold it, and no more
  pub enough : (a : Area) (count : ℕ) → count ≤ bits_for a count * 2 ^ a.order_per_bit
  pub no_more : (a : Area) (count : ℕ) → bits_for a count * 2 ^ a.order_per_bit < count + 2 ^ a.order_per_bit
  -- bit j is bit j mod 64, lowest first, of word j / 64
  pub bit : (words : List ℕ) (start j : ℕ) → (is_clear words start j ≡ true) ↔ (slice_index words (start + j / 64) / 2 ^ (j % 64) % 2 ≡ 0)
