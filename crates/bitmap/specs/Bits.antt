-- Document 01, "The machine and its neighbours": bit j of a bitmap is bit j mod 64, lowest first, of word j / 64. Several areas' bitmaps share
-- one list of words, each from a word of its own, so each definition takes the bitmap's first word `start`.
use Rattle.std.specs.Prelude.{ℕ, zero, suc, ◌+◌, ◌-◌, ◌*◌, ◌/◌, ◌%◌, ◌^◌, min, max, Bool, not, ◌&&◌, List, eqb, get_or, set}
use Rattle.search.specs.Search.{every}

-- bit s of a word; the word with that bit set; with that bit clear
abbrev pub bit_of : ℕ → ℕ → ℕ
bit_of w s = w / 2 ^ s % 2

abbrev pub set_in : ℕ → ℕ → ℕ
set_in w s = w + (1 - bit_of w s) * 2 ^ s

abbrev pub clear_in : ℕ → ℕ → ℕ
clear_in w s = w - bit_of w s * 2 ^ s

-- bit j is clear
unfoldable pub is_clear : List ℕ → ℕ → ℕ → Bool
is_clear ws start j = eqb (bit_of (get_or ws (start + j / 64) 0) (j % 64)) 0

-- a run may begin at bit j: `starts` has, set, the bits of each word at which one may
unfoldable pub is_start : ℕ → ℕ → Bool
is_start starts j = not (eqb (bit_of starts (j % 64)) 0)

-- a run of bits could begin at bit j: it may, and the run's bits that stand in the same word are clear (a run of none is taken as one of one)
unfoldable pub opens : List ℕ → ℕ → ℕ → ℕ → ℕ → Bool
opens ws start run starts j = is_start starts j && every (is_clear ws start) j (min (max run 1) (64 - j % 64))

-- how many words hold the n bits from bit j on
unfoldable pub spanned : ℕ → ℕ → ℕ
spanned j zero = 0
spanned j (suc n) = (j % 64 + n) / 64 + 1

-- bit j changed by f, which is set_in or clear_in; the d bits from j so changed
unfoldable pub change_bit : (ℕ → ℕ → ℕ) → List ℕ → ℕ → ℕ → List ℕ
change_bit f ws start j = set ws (start + j / 64) (f (get_or ws (start + j / 64) 0) (j % 64))

unfoldable pub change_bits : (ℕ → ℕ → ℕ) → List ℕ → ℕ → ℕ → ℕ → List ℕ
change_bits f ws start j zero = ws
change_bits f ws start j (suc d) = change_bits f (change_bit f ws start j) start (suc j) d

abbrev pub set_bits : List ℕ → ℕ → ℕ → ℕ → List ℕ
set_bits = change_bits set_in

abbrev pub clear_bits : List ℕ → ℕ → ℕ → ℕ → List ℕ
clear_bits = change_bits clear_in
