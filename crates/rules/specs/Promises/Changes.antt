-- What stands at a place, and what a call leaves of the four tables, entry by entry: the words that the promises are said in.
use Rattle.std.specs.Prelude.{◌≡◌, ℕ, ◌+◌, ◌/◌, ◌%◌, ◌<◌, ◌≤◌, Bool, ◌≢◌, length, slice_index}
use Rattle.bitmap.specs.Bits.{is_clear}
use Rattle.frames.specs.Units.{place}
use Rattle.frames.specs.Tables.{Tables, mark_at, word_at}

-- mark = 8 x field + kind, at a place
abbrev pub kind_at : Tables → ℕ → ℕ
kind_at t p = mark_at t (place p) % 8

abbrev pub field_at : Tables → ℕ → ℕ
field_at t p = mark_at t (place p) / 8

-- place q holds now what it held, whoever owns its frame
pub record Same (t t' : Tables) (q : ℕ) : Type 0 where
  pub mark : mark_at t' (place q) ≡ mark_at t (place q)
  pub word : word_at t' (place q) ≡ word_at t (place q)

-- each table is as long as it was, or as the other
pub record SameLengths (t t' : Tables) : Type 0 where
  pub marks : length t'.marks ≡ length t.marks
  pub words : length t'.words ≡ length t.words
  pub bitmap : length t'.bitmap ≡ length t.bitmap
  pub owners : length t'.owners ≡ length t.owners

-- the page at place p has this mark and word now, and every other entry of every table is as it was
pub record OnlyPage (t t' : Tables) (p mark word : ℕ) : Type 0 where
  pub mark_now : mark_at t' (place p) ≡ mark
  pub word_now : word_at t' (place p) ≡ word
  pub others : (q : ℕ) → q ≢ p → Same t t' q
  pub lengths : SameLengths t t'
  pub bitmap : t'.bitmap ≡ t.bitmap
  pub owners : t'.owners ≡ t.owners

-- of the bitmap that starts at word `start`, the d bits from j on are all clear, or all set, now. Every other bit is as it was: those of this bitmap
-- and of what comes after it, and the words before it
pub record OnlyBits (t t' : Tables) (start j d : ℕ) (clear : Bool) : Type 0 where
  pub run : (k : ℕ) → j ≤ k → k < j + d → is_clear t'.bitmap start k ≡ clear
  pub others : (k : ℕ) → (j ≤ k → k < j + d → ⊥) → is_clear t'.bitmap start k ≡ is_clear t.bitmap start k
  pub words_before : (w : ℕ) → w < start → slice_index t'.bitmap w ≡ slice_index t.bitmap w

-- the d frames from place p on have this owner now, and every other frame the one it had
pub record OnlyOwners (t t' : Tables) (p d device : ℕ) : Type 0 where
  pub run : (q : ℕ) → p ≤ q → q < p + d → slice_index t'.owners q ≡ device
  pub others : (q : ℕ) → (p ≤ q → q < p + d → ⊥) → slice_index t'.owners q ≡ slice_index t.owners q
