-- What a caller learns from what it is handed: each refusal of the text has a number above 0, and at most so many regions are given. Assumes nothing.
--     part_regions        of a text that is not too long no refusal's number is 0 or 24, and at most `most_regions` are given
--     sound_regions       of any text: each refusal's number is above 0, and at most `most_regions` are given
--     answer_refused      a refusal is the text's, with its place
--     answer_given        the regions held are those of the text
use Prim.Native.Nat.{ℕ, zero, suc, ◌+◌, ◌≤◌, ◌<◌}
use native.Mathlib.Omega.{arith}
use mathlib.Core.Path.{◌≡◌, refl, sym, ap, ◌∙◌}
use mathlib.Core.Bool.{Bool, true, false, not, ◌||◌}
use mathlib.Core.Logic.{◌≢◌}
use mathlib.Core.List.{List, [], ◌∷◌, ◌++◌}
use lib.Dec.{ltb, eqb}
use lib.ListN.{length}
use borrow.Author.Tests.{le-ltb}
use Rattle.std.specs.Prelude.{Ok, Err, if◌then◌else◌}
use Rattle.answer.specs.Answers.{number_of}
use Rattle.answer.specs.declared.Refused.{Refused}
use Rattle.search.proofs.Bools.{by_cases}
use Rattle.regions.specs.declared.Region.{Region}
use Rattle.regions.specs.declared.Regions.{Regions}
use Rattle.text.specs.Bytes.{byte_at}
use Rattle.text.specs.Names.{name, name_length}
use Rattle.text.specs.Numbers.{is_digit, is_hex, digits, number, most_bytes}
use Rattle.text.specs.Reading.{Read, gives, refuses, ◌then◌, refuse_if}
use Rattle.regions.specs.Amounts.{amount}
use Rattle.regions.specs.Text.{is_named, expect, optional, size, start, alignment, is_first_fit, allocator, region, most_text, most_regions, regions_from, regions}
use Rattle.regions.specs.Outcome.{regions_in}
use Rattle.regions.specs.Result.{result_of, padded}
use Rattle.regions.specs.Steps.Progress.{held}
use Rattle.regions.proofs.Listing.{held_padded, length_snoc}

-- what is given has a property, and a refusal's number is above 0
abbrev pub Sound : {A : Type 0} → (A → Type 0) → Read A → Type 0
Sound P (gives v at) = P v
Sound P (refuses number at) = 0 < number

-- what a part of a text can be refused with: no part is refused as too long
abbrev pub Fault : ℕ → Type 0
Fault number = (0 < number) × (number ≢ 24)

abbrev pub Part : {A : Type 0} → (A → Type 0) → Read A → Type 0
Part P (gives v at) = P v
Part P (refuses number at) = Fault number

sound_part : {A : Type 0} (P : A → Type 0) (r : Read A) → Part P r → Sound P r
sound_part P (gives v at) p = p
sound_part P (refuses number at) p = p.0

abbrev Any : {A : Type 0} → A → Type 0
Any v = Unit {0}

part_then : {A B : Type 0} (P : A → Type 0) (Q : B → Type 0) (r : Read A) (next : A → ℕ → Read B)
    → Part P r
    → ((v : A) (at : ℕ) → P v → Part Q (next v at))
    → Part Q (r then next)
part_then P Q (gives v at) next s h = h v at s
part_then P Q (refuses number at) next s h = s

part_if : {A : Type 0} (P : A → Type 0) (b : Bool) (number at : ℕ) (r : Read A) → Fault number → Part P r → Part P (refuse_if b number at r)
part_if P true number at r h s = h
part_if P false number at r h s = s

part_choice : {A : Type 0} (P : A → Type 0) (b : Bool) (r q : Read A) → Part P r → Part P q → Part P (if b then r else q)
part_choice P true r q s t = s
part_choice P false r q s t = t

-- no more regions than a text may have
abbrev pub Few : List Region → Type 0
Few rs = length rs ≤ most_regions

module _ (s : List ℕ) where
  part_digits : (base at : ℕ) → Part Any (digits base s at)
  unfolding digits
  part_digits base at = tt

  part_number : (at : ℕ) → Part Any (number s at)
  unfolding number
  part_number at =
      part_choice Any (is_hex s at) (refuse_if (not (is_digit 16 (byte_at s (at + 2)))) 20 (at + 2) (digits 16 s (at + 2))) _
      (part_if Any (not (is_digit 16 (byte_at s (at + 2)))) 20 (at + 2) (digits 16 s (at + 2)) (omega arith, λ e. omega arith) (part_digits 16 (at + 2)))
      (part_choice Any (eqb (byte_at s at) 48) (digits 8 s (at + 1)) _ (part_digits 8 (at + 1))
      (part_if Any (not (is_digit 10 (byte_at s at))) 20 at (digits 10 s at) (omega arith, λ e. omega arith) (part_digits 10 at)))

  part_amount : (wrong : ℕ → Bool) (at : ℕ) → Part Any (amount wrong s at)
  unfolding amount
  part_amount wrong at =
      part_then Any Any (number s at) (λ v next. refuse_if (ltb most_bytes v || wrong v) 21 at (gives v next)) (part_number at)
      (λ v next _. part_if Any (ltb most_bytes v || wrong v) 21 at (gives v next) (omega arith, λ e. omega arith) tt)

  part_name : (at : ℕ) → Part Any (name s at)
  part_name at = part_if Any (eqb (name_length s at) 0) 20 at (gives (name_length s at) (at + name_length s at)) (omega arith, λ e. omega arith) tt

  part_expect : (byte at : ℕ) → Part Any (expect byte s at)
  part_expect byte at = part_if Any (not (eqb (byte_at s at) byte)) 20 at (gives byte (at + 1)) (omega arith, λ e. omega arith) tt

  part_optional : (byte : ℕ) (part : List ℕ → ℕ → Read ℕ) (at : ℕ) → ((i : ℕ) → Part Any (part s i)) → Part Any (optional byte part 0 s at)
  part_optional byte part at h = part_choice Any (eqb (byte_at s at) byte) (part s (at + 1)) (gives 0 at) (h (at + 1)) tt

  part_allocator : (at : ℕ) → Part Any (allocator s at)
  part_allocator at =
      part_then Any Any (name s at) (λ n next. refuse_if (not (is_first_fit s at n)) 25 at (gives n next)) (part_name at)
      (λ n next _. part_if Any (not (is_first_fit s at n)) 25 at (gives n next) (omega arith, λ e. omega arith) tt)

  part_region : (before : List Region) (at : ℕ) → Part Any (region before s at)
  unfolding region
  part_region before at =
      part_then Any Any (name s at) _ (part_name at)
      (λ n end _.
      part_then Any Any (refuse_if (is_named before s at n) 22 at (expect 61 s end)) _
      (part_if Any (is_named before s at n) 22 at (expect 61 s end) (omega arith, λ e. omega arith) (part_expect 61 end))
      (λ _ at₁ _.
      part_then Any Any (size s at₁) _ (part_amount (λ v. eqb v 0) at₁)
      (λ bytes at₂ _.
      part_then Any Any (optional 64 start 0 s at₂) _ (part_optional 64 start at₂ (part_amount (λ v. false)))
      (λ from at₃ _.
      part_then Any Any (optional 47 alignment 0 s at₃) _ (part_optional 47 alignment at₃ (λ i. part_amount _ i))
      (λ to at₄ _. part_then Any Any (optional 58 allocator 0 s at₄) _ (part_optional 58 allocator at₄ part_allocator) (λ _ at₅ _. tt))))))

  part_from : (more : ℕ) (before : List Region) (at : ℕ) → length before + more ≤ most_regions → Part Few (regions_from more before s at)
  unfolding regions_from
  part_from zero before at h = part_if Few (not (eqb at (length s))) 23 at (gives before at) (omega arith, λ e. omega arith) (omega arith)
  part_from (suc more) before at h =
      part_choice Few (eqb at (length s)) (gives before at) _ (omega arith)
      (part_then Any Few (region before s at) _ (part_region before at)
      (λ r next _.
      let one : length (before ++ (r ∷ [])) ≡ length before + 1 = length_snoc before r in
      part_choice Few (eqb next (length s)) (gives (before ++ (r ∷ [])) next) _ (omega arith)
      (part_then Any Few (expect 59 s next) _ (part_expect 59 next) (λ _ after _. part_from more (before ++ (r ∷ [])) after (omega arith)))))

  pub part_regions : length s ≤ most_text → Part Few (regions s)
  unfolding regions
  part_regions h = rw (le-ltb most_text (length s) h) (part_from most_regions [] 0 (omega arith))

  pub sound_regions : Sound Few (regions s)
  unfolding regions
  sound_regions =
      by_cases (ltb most_text (length s)) (λ e. rw e (omega arith)) (λ e. rw e (sound_part Few (regions_from most_regions [] s 0) (part_from most_regions [] 0 (omega arith))))

-- the regions that a caller is handed are those of the text
pub record Given (s : List ℕ) (r : Regions) : Type 0 where
  pub end : ℕ
  pub is : regions s ≡ gives (held r) end
  pub count : length (held r) ≡ r.count

refused_of : (x : Read (List Region)) (n place : ℕ) → refuses n place ≡ result_of x → x ≡ refuses n place
refused_of (gives rs at) n place e = absurd (let z : ◌≡◌ {A = ℕ} 0 1 = cc in omega arith)
refused_of (refuses m at) n place e =
    let same : m ≡ n = cc in
    let there : at ≡ place = cc in
    rw (same, there)

pub answer_refused : (s : List ℕ) (e : Refused) → regions_in (Err e) ≡ result_of (regions s) → regions s ≡ refuses (number_of e.refusal) e.place
answer_refused s e same = refused_of (regions s) (number_of e.refusal) e.place same

given_of : (s : List ℕ) (x : Read (List Region)) (r : Regions) → regions s ≡ x → gives (r.count, r.list) 0 ≡ result_of x → Given s r
given_of s (gives rs at) r same e =
    let both : ◌≡◌ {A = ℕ × List Region} (r.count, r.list) (length rs, padded rs) = cc in
    let size : r.count ≡ length rs = ap (λ p. p.0) both in
    let list : r.list ≡ padded rs = ap (λ p. p.1) both in
    let holds : held r ≡ rs = held_padded r rs size list in
    record { end = at; is = same ∙ ap (λ (l : List Region). gives l at) (sym holds); count = ap length holds ∙ sym size }
given_of s (refuses n at) r same e = absurd (let z : ◌≡◌ {A = ℕ} 0 1 = cc in omega arith)

pub answer_given : (s : List ℕ) (r : Regions) → regions_in (Ok r) ≡ result_of (regions s) → Given s r
answer_given s r e = given_of s (regions s) r refl e
