-- What is promised of the limits of a regions text: document 01's, "Regions text", with the numbers of document 02, request (v). They are printed
-- here again on purpose, so that another number in Text is refused.
use Rattle.std.specs.Prelude.{ℕ, zero, suc, ◌+◌, ◌/◌, ◌%◌, ◌≤◌, ◌<◌, ◌≡◌, ◌≢◌, List, [], ◌∷◌, ◌++◌, length}
use Rattle.text.specs.Reading.{gives, refuses}
use Rattle.regions.specs.declared.Region.{Region}
use Rattle.regions.specs.Text.{regions}
use Rattle.regions.specs.Result.{regions_given}

-- a text of up to 64 regions, each of one byte, with a ; after each; their names, from the last to the first, are aa, ab, .. ah, ba, .. hh
abbrev pub many_regions : ℕ → List ℕ
many_regions zero = []
many_regions (suc n) = (97 + n / 8) ∷ (97 + n % 8) ∷ 61 ∷ 49 ∷ 59 ∷ many_regions n

pub record Promises : Type 0 where
  -- a text of more than 8,192 bytes is refused with 24 there, whatever it says, and no other text is refused with 24
  pub too_long : (s : List ℕ) → 8192 < length s → regions s ≡ refuses 24 8192
  pub not_too_long : (s : List ℕ) (at : ℕ) → length s ≤ 8192 → regions s ≢ refuses 24 at
  -- a text gives at most 64 regions
  pub at_most_64 : (s : List ℕ) (rs : List Region) (end : ℕ) → regions s ≡ gives rs end → length rs ≤ 64
  -- one of 64 regions is read, with a ; at its end; any byte after that ; is refused with 23, at that byte
  pub read64 : regions_given (regions (many_regions 64)) ≡ 64
  pub byte_after_64 : (byte : ℕ) → regions (many_regions 64 ++ (byte ∷ [])) ≡ refuses 23 320
