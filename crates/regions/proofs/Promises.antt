-- The limits of a regions text, promise by promise; the checker computes the two texts. Assumes nothing.
use Prim.Native.Nat.{ℕ, ◌≤◌, ◌<◌}
use native.Mathlib.Omega.{arith}
use mathlib.Core.Path.{◌≡◌, refl}
use mathlib.Core.Logic.{◌≢◌}
use mathlib.Core.List.{List, [], ◌∷◌, ◌++◌}
use lib.ListN.{length}
use borrow.Author.Tests.{lt-ltb}
use Rattle.search.specs.Search.{lowest_from, some, every}
use Rattle.text.specs.Bytes.{digit_of, unit_of, is_name_byte}
use Rattle.text.specs.Names.{name_length, same_bytes}
use Rattle.text.specs.Numbers.{digits_end, digits_value, digits, number}
use Rattle.text.specs.Reading.{gives, refuses}
use Rattle.regions.specs.declared.Region.{Region}
use Rattle.regions.specs.Amounts.{is_power_of_two, amount}
use Rattle.regions.specs.Text.{is_named, region, most_text, regions_from, regions}
use Rattle.regions.specs.Result.{regions_given}
use Rattle.regions.specs.Promises.{many_regions, Promises}
use Rattle.regions.proofs.Refusals.{Sound, Part, Few, part_regions, sound_regions}

too_long : (s : List ℕ) → 8192 < length s → regions s ≡ refuses 24 8192
unfolding regions
too_long s h = rw (lt-ltb most_text (length s) (omega arith))

not_too_long : (s : List ℕ) (at : ℕ) → length s ≤ 8192 → regions s ≢ refuses 24 at
not_too_long s at h e = let part : Part Few (refuses 24 at) = rw e at (part_regions s (omega arith)) in part.1 refl

at_most_64 : (s : List ℕ) (rs : List Region) (end : ℕ) → regions s ≡ gives rs end → length rs ≤ 64
at_most_64 s rs end e = let sound : Sound Few (gives rs end) = rw e at (sound_regions s) in omega arith

read_64 : regions_given (regions (many_regions 64)) ≡ 64
unfolding lowest_from some every digit_of unit_of is_name_byte name_length same_bytes digits_end digits_value digits number is_power_of_two amount is_named region regions_from regions
read_64 = refl

byte_after_64 : (byte : ℕ) → regions (many_regions 64 ++ (byte ∷ [])) ≡ refuses 23 320
unfolding lowest_from some every digit_of unit_of is_name_byte name_length same_bytes digits_end digits_value digits number is_power_of_two amount is_named region regions_from regions
byte_after_64 byte = refl

pub promises_hold : Promises
promises_hold = record { too_long = too_long; not_too_long = not_too_long; at_most_64 = at_most_64; read64 = read_64; byte_after_64 = byte_after_64 }
