-- What a step of the search looks for.
use Rattle.std.specs.Prelude.{ℕ, suc, ◌+◌, ◌-◌, ◌/◌, ◌%◌, ◌^◌, ◌<◌, min, max, Bool, not, ◌&&◌, List, ◌≡◌, eqb, length, get_or, if◌then◌else◌}
use Rattle.search.specs.Search.{lowest, every}
use Rattle.bitmap.specs.Bits.{bit_of, spanned}
use Rattle.bitmap.specs.declared.looks.Found.{Found}
use Rattle.bitmap.specs.declared.looks.Sought.{Sought}
use Rattle.bitmap.specs.declared.looks.Sought.TheVariants.{Set, Open}

-- in a word, of the bits that `starts` has set: for run 0 a set bit, else a bit from which the run's bits that stand in the word are clear
unfoldable pub wanted_in : ℕ → ℕ → ℕ → ℕ → Bool
wanted_in run starts w s =
    not (eqb (bit_of starts s) 0) && (if eqb run 0 then not (eqb (bit_of w s) 0) else every (λ k. eqb (bit_of w k) 0) s (min run (64 - s)))

-- the two numbers of what is looked for: a run of none is as one of one
abbrev pub run_of : Sought → ℕ
run_of Set = 0
run_of (Open run starts) = max run 1

abbrev pub starts_of : Sought → ℕ
starts_of Set = 2 ^ 64 - 1
starts_of (Open run starts) = starts

-- r has a bit set just where, of the `reach` bits of w from it on, some is
abbrev pub Smears : ℕ → ℕ → ℕ → Type 0
Smears reach w r = (s : ℕ) → eqb (bit_of r s) 0 ≡ every (λ k. eqb (bit_of w k) 0) s reach

-- the set bits of r are those that are wanted in w
abbrev pub Hits : ℕ → ℕ → ℕ → ℕ → Type 0
Hits run starts w r = (s : ℕ) → s < 64 → not (eqb (bit_of r s) 0) ≡ wanted_in run starts w s

-- in a bitmap that begins at a word
unfoldable pub wanted : ℕ → ℕ → List ℕ → ℕ → ℕ → Bool
wanted run starts ws start j = wanted_in run starts (get_or ws (start + j / 64) 0) (j % 64)

-- what a step finds of the `count` bits from bit `from` on: how many come before the first that is wanted. It counts as many looks as words hold
-- those and it, but for those past the slice's end
pub record Finds (run starts : ℕ) (ws : List ℕ) (start from count : ℕ) (r : Found) : Type 0 where
  pub bits : r.bits ≡ lowest (λ k. wanted run starts ws start (from + k)) count
  pub looks : r.looks ≡ min (spanned from (min (suc r.bits) count)) (length ws - (start + from / 64))
