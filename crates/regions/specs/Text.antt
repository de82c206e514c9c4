-- Document 01, "Regions text": the grammar, with its refusals 20 to 25 and their places.
use Rattle.std.specs.Prelude.{ℕ, zero, suc, ◌+◌, Bool, false, not, ◌&&◌, ◌||◌, List, [], ◌∷◌, ◌++◌, ltb, eqb, length, if◌then◌else◌}
use Rattle.text.specs.Bytes.{byte_at}
use Rattle.text.specs.Names.{name, same_bytes}
use Rattle.text.specs.Reading.{Read, gives, ◌then◌, refuse_if}
use Rattle.regions.specs.declared.Region.{Region}
use Rattle.regions.specs.Amounts.{is_alignment, amount}

-- one of the regions has the name of n bytes at an offset
unfoldable pub is_named : List Region → List ℕ → ℕ → ℕ → Bool
is_named [] s at n = false
is_named (r ∷ rs) s at n = (eqb r.length n && same_bytes s at r.name n) || is_named rs s at n

-- a byte that must stand at an offset
abbrev pub expect : ℕ → List ℕ → ℕ → Read ℕ
expect byte s at = refuse_if (not (eqb (byte_at s at) byte)) 20 at (gives byte (at + 1))

-- a part that a byte announces, or the value that stands for it where it is not given
abbrev pub optional : ℕ → (List ℕ → ℕ → Read ℕ) → ℕ → List ℕ → ℕ → Read ℕ
optional byte part otherwise s at = if eqb (byte_at s at) byte then part s (at + 1) else gives otherwise at

abbrev pub size : List ℕ → ℕ → Read ℕ
size = amount (λ v. eqb v 0)

abbrev pub start : List ℕ → ℕ → Read ℕ
start = amount (λ v. false)

abbrev pub alignment : List ℕ → ℕ → Read ℕ
alignment = amount (λ v. not (is_alignment v))

-- the only allocator is ff
abbrev pub is_first_fit : List ℕ → ℕ → ℕ → Bool
is_first_fit s at n = eqb n 2 && eqb (byte_at s at) 102 && eqb (byte_at s (at + 1)) 102

abbrev pub allocator : List ℕ → ℕ → Read ℕ
allocator s at = name s at then λ n next. refuse_if (not (is_first_fit s at n)) 25 at (gives n next)

-- a region: name = size, then optionally @ start, / alignment and : allocator, in that order. Its name is judged against the regions before it
unfoldable pub region : List Region → List ℕ → ℕ → Read Region
region before s at =
    name s at then λ n end.
    refuse_if (is_named before s at n) 22 at (expect 61 s end) then λ _ at₁.
    size s at₁ then λ bytes at₂.
    optional 64 start 0 s at₂ then λ from at₃.
    optional 47 alignment 0 s at₃ then λ to at₄.
    optional 58 allocator 0 s at₄ then λ _ at₅.
    gives (record { name = at; length = n; size = bytes; start = from; alignment = to }) at₅

-- the most bytes of a text, and the most regions that it gives: document 02, request (v)
abbrev pub most_text : ℕ
most_text = 8192

abbrev pub most_regions : ℕ
most_regions = 64

-- regions with ; between them and one allowed at the end, of which so many more can be held
unfoldable pub regions_from : ℕ → List Region → List ℕ → ℕ → Read (List Region)
regions_from zero before s at = refuse_if (not (eqb at (length s))) 23 at (gives before at)
regions_from (suc more) before s at =
    if eqb at (length s) then gives before at else
    region before s at then λ r next.
    if eqb next (length s) then gives (before ++ (r ∷ [])) next else
    expect 59 s next then λ _ after. regions_from more (before ++ (r ∷ [])) s after

-- the whole text; empty text is no regions
unfoldable pub regions : List ℕ → Read (List Region)
regions s = refuse_if (ltb most_text (length s)) 24 most_text (regions_from most_regions [] s 0)
