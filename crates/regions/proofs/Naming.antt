-- Laws of names. Assumes nothing.
--     named_list      one of the regions has the name: some region of the list has it
--     region_steps    a region is its name and what follows from its size on
use Prim.Native.Nat.{ℕ, ◌+◌}
use mathlib.Core.Path.{◌≡◌, refl, ap}
use mathlib.Core.Bool.{◌||◌}
use mathlib.Core.List.{List, [], ◌∷◌}
use lib.Dec.{eqb}
use Rattle.std.specs.List.{list_any}
use Rattle.search.proofs.Bools.{by_cases}
use Rattle.text.specs.Bytes.{byte_at}
use Rattle.text.specs.Names.{name_length}
use Rattle.text.specs.Reading.{gives, ◌then◌}
use Rattle.regions.specs.declared.Region.{Region}
use Rattle.regions.specs.Text.{is_named, optional, size, start, alignment, allocator, region}
use Rattle.regions.specs.Steps.Parts.{same_name, new_name}

module _ (s : List ℕ) (at n : ℕ) where
  pub named_list : (rs : List Region) → is_named rs s at n ≡ list_any (λ r. same_name r s at n) rs
  unfolding is_named
  named_list [] = refl
  named_list (r ∷ rs) = ap (λ b. same_name r s at n || b) (named_list rs)

pub region_steps : (before : List Region) (s : List ℕ) (at : ℕ) → region before s at ≡
    (new_name before s at then λ n end.
    size s end then λ bytes at₂.
    optional 64 start 0 s at₂ then λ from at₃.
    optional 47 alignment 0 s at₃ then λ to at₄.
    optional 58 allocator 0 s at₄ then λ _ at₅.
    gives (record { name = at; length = n; size = bytes; start = from; alignment = to }) at₅)
unfolding region new_name
region_steps before s at =
    by_cases (eqb (name_length s at) 0) (λ e. rw e)
    (λ e.
    rw e
    (by_cases (is_named before s at (name_length s at)) (λ f. rw f)
    (λ f. rw f (by_cases (eqb (byte_at s (at + name_length s at)) 61) (λ g. rw g) (λ g. rw g)))))
