-- Writing a text: numbers in decimal, labels, and what is appended to a lent buffer. A text is a list of bytes.
use Rattle.std.specs.Prelude.{ℕ, zero, suc, ◌+◌, ◌/◌, ◌%◌, ◌≤◌, ◌≡◌, Bool, List, [], ◌∷◌, ◌++◌, length, take, drop, ltb, leb, if◌then◌else◌}
use Rattle.text.specs.declared.writing.Writer.{Writer}

-- ---- numbers

-- the digits of n, as many as there are up to a number of them: the last is n mod 10, and before it stand those of n / 10
unfoldable pub decimal_up_to : ℕ → ℕ → List ℕ
decimal_up_to zero n = []
decimal_up_to (suc more) n = if ltb n 10 then (48 + n) ∷ [] else decimal_up_to more (n / 10) ++ ((48 + n % 10) ∷ [])

-- a number in decimal; 20 digits are enough for any of 64 bits
unfoldable pub decimal : ℕ → List ℕ
decimal n = decimal_up_to 20 n

-- how many digits a number has
pub record DigitsCounted (value count : ℕ) : Type 0 where
  pub all : count ≡ length (decimal value)
  pub most : count ≤ 20

-- the last digits of a number, a given number of them, with zeros before them where it has fewer
abbrev pub last_digits : ℕ → ℕ → List ℕ
last_digits zero n = []
last_digits (suc k) n = last_digits k (n / 10) ++ ((48 + n % 10) ∷ [])

-- ---- numbers in a line

-- a number and the byte after it
abbrev pub ended : ℕ → ℕ → List ℕ
ended value end = decimal value ++ (end ∷ [])

-- four numbers with a space between them, and the line's end
unfoldable pub four_numbers : ℕ → ℕ → ℕ → ℕ → List ℕ
four_numbers a b c d = ended a 32 ++ ended b 32 ++ ended c 32 ++ ended d 10

-- a label, a number and the line's end
unfoldable pub labelled : List ℕ → ℕ → List ℕ
labelled label value = label ++ ended value 10

-- ---- appending to a buffer

-- a text has room from `at` on
unfoldable pub has_room : List ℕ → ℕ → List ℕ → Bool
has_room out at text = leb (at + length text) (length out)

-- the buffer with a text from `at` on, and all else as it was
unfoldable pub written : List ℕ → ℕ → List ℕ → List ℕ
written out at text = take at out ++ text ++ drop (at + length text) out

-- a text is appended: written whole, with the next place after it; where it has no room nothing is written, and the place stays
pub record Appended (out : List ℕ) (at : ℕ) (text after : List ℕ) (next : ℕ) : Type 0 where
  pub bytes : after ≡ (if has_room out at text then written out at text else out)
  pub place : next ≡ (if has_room out at text then at + length text else at)

-- a text is appended to what a writer has written; the buffer is the same slice
pub record Appends (text : List ℕ) (before after : Writer) : Type 0 where
  pub slice : after.buffer.ghost_name ≡ before.buffer.ghost_name
  pub appended : Appended before.buffer.now before.length text after.buffer.now after.length
