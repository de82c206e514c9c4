-- Document 01, "Regions text": names.
use Rattle.std.specs.Prelude.{ℕ, ◌+◌, Bool, not, List, eqb}
use Rattle.search.specs.Search.{lowest_from, every}
use Rattle.text.specs.Bytes.{byte_at, is_name_byte}
use Rattle.text.specs.Reading.{Read, gives, refuse_if}

-- the most bytes of a name
abbrev pub longest_name : ℕ
longest_name = 16

-- the length of the name at an offset
unfoldable pub name_length : List ℕ → ℕ → ℕ
name_length s at = lowest_from (λ i. not (is_name_byte (byte_at s (at + i)))) 0 longest_name

-- a name, of one byte at the least: gives its length
abbrev pub name : List ℕ → ℕ → Read ℕ
name s at = refuse_if (eqb (name_length s at) 0) 20 at (gives (name_length s at) (at + name_length s at))

-- the n bytes at an offset are the n bytes at another
unfoldable pub same_bytes : List ℕ → ℕ → ℕ → ℕ → Bool
same_bytes s at other n = every (λ i. eqb (byte_at s (at + i)) (byte_at s (other + i))) 0 n
