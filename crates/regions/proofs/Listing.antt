-- Laws of the list of regions, as a loop reads it. Assumes nothing.
--     held_padded                      what a list of regions holds is the regions
--     from_end, from_full, from_next   the text ends here; nothing more can be held; the next region
--     from_more                        what the next region, if one is left, and the rest give
--     Reading                          the text is being read: what it gives is what reading on gives
--     begins, reads_on, reads_end, reads_refused    it begins, goes on by one region more, ends, or is refused
use Prim.Native.Nat.{ℕ, zero, suc, ◌+◌, ◌-◌, ◌≤◌, ◌<◌}
use native.Mathlib.Omega.{arith}
use mathlib.Core.Path.{◌≡◌, refl, sym, ap, ◌∙◌}
use mathlib.Core.List.{List, [], ◌∷◌, ◌++◌}
use lib.Dec.{eqb, leb}
use lib.ListN.{length, set, replicate, length-append}
use lib.Seq.{take-append_seam, set-append_seam, append_snoc}
use borrow.Author.Tests.{eq-eqb, ne_eqb, eqb-true, eqb-false, le-ltb, leb-true, leb-false}
use Rattle.std.specs.Prelude.{Option, Some, None, if◌then◌else◌}
use Rattle.search.proofs.Bools.{by_cases}
use Rattle.regions.specs.declared.Region.{Region}
use Rattle.regions.specs.declared.Regions.{Regions}
use Rattle.text.specs.Bytes.{byte_at}
use Rattle.text.specs.Reading.{Read, gives, refuses, ◌then◌}
use Rattle.regions.specs.Text.{expect, region, most_text, most_regions, regions_from, regions}
use Rattle.regions.specs.Result.{no_region, padded}
use Rattle.regions.specs.Steps.Parts.{separated_from, next_region}
use Rattle.regions.specs.Steps.Progress.{held, one_more}
use Rattle.text.proofs.Sequence.{then_given, then_refused}

pub held_padded : (known : Regions) (rs : List Region) → known.count ≡ length rs → known.list ≡ padded rs → held known ≡ rs
held_padded known rs n l = rw (n, l) (take-append_seam rs (replicate (most_regions - length rs) no_region))

pub length_snoc : (rs : List Region) (r : Region) → length (rs ++ (r ∷ [])) ≡ length rs + 1
length_snoc rs r = length-append rs (r ∷ [])

padded_snoc : (rs : List Region) (r : Region) → length rs < most_regions → set (padded rs) (length rs) r ≡ padded (rs ++ (r ∷ []))
padded_snoc rs r h =
    let more : most_regions - length rs ≡ suc (most_regions - (length rs + 1)) = omega arith in
    rw (length_snoc rs r, more, append_snoc) (set-append_seam rs no_region (replicate (most_regions - (length rs + 1)) no_region) r)

module _ (s : List ℕ) where
  pub from_end : (more : ℕ) (before : List Region) (at : ℕ) → at ≡ length s → regions_from more before s at ≡ gives before at
  unfolding regions_from
  from_end zero before at e = rw (eq-eqb at (length s) e)
  from_end (suc more) before at e = rw (eq-eqb at (length s) e)

  pub from_full : (before : List Region) (at : ℕ) → (at ≡ length s → ⊥) → regions_from 0 before s at ≡ refuses 23 at
  unfolding regions_from
  from_full before at e = rw (ne_eqb at (length s) e)

  module _ (more : ℕ) (before : List Region) where
    abbrev pub rest : Region → ℕ → Read (List Region)
    rest r next = regions_from more (before ++ (r ∷ [])) s next

    -- what follows a region: the end, which the rest gives too, or a ; and the rest
    steps : (x : Read Region)
        → (x then λ r next. if eqb next (length s) then gives (before ++ (r ∷ [])) next else expect 59 s next then λ _ after. rest r after) ≡
        ((x then λ r next. separated_from r s next) then rest)
    unfolding separated_from
    steps (refuses number at) = refl
    steps (gives r next) =
        by_cases (eqb next (length s)) (λ e. rw e (sym (from_end more (before ++ (r ∷ [])) next (eqb-true next (length s) e))))
        (λ e. rw e (by_cases (eqb (byte_at s next) 59) (λ f. rw f) (λ f. rw f)))

    pub from_next : (at : ℕ) → (at ≡ length s → ⊥) → regions_from (suc more) before s at ≡ (next_region before s at then rest)
    unfolding regions_from next_region
    from_next at e = rw (ne_eqb at (length s) e) (steps (region before s at))

-- what follows the regions before and one more, or none
abbrev pub goes_on : List ℕ → List Region → Option Region → ℕ → Read (List Region)
goes_on s before None next = gives before next
goes_on s before (Some r) next = regions_from (most_regions - (length before + 1)) (before ++ (r ∷ [])) s next

module _ (s : List ℕ) (before : List Region) where
  -- a region that is read, as one of those that may be
  again : (x : Read Region) → (x then rest s (most_regions - (length before + 1)) before) ≡ ((x then λ r next. gives (Some r) next) then goes_on s before)
  again (gives r next) = refl
  again (refuses number at) = refl

  pub from_more : (at : ℕ) → length before ≤ most_regions → regions_from (most_regions - length before) before s at ≡ (one_more before s at then goes_on s before)
  unfolding one_more
  from_more at few =
      by_cases (eqb at (length s)) (λ e. rw e (from_end s (most_regions - length before) before at (eqb-true at (length s) e)))
      (λ e.
      let inside : at ≡ length s → ⊥ = eqb-false at (length s) e in
      rw e
      (by_cases (leb most_regions (length before))
      (λ f.
      let none : most_regions - length before ≡ 0 = omega (arith, leb-true most_regions (length before) f) in
      rw (f, none) (from_full s before at inside))
      (λ f.
      let more : most_regions - length before ≡ suc (most_regions - (length before + 1)) = omega (arith, leb-false most_regions (length before) f) in
      rw (f, more) (from_next s (most_regions - (length before + 1)) before at inside ∙ again (next_region before s at)))))

  -- one region more was room for
  pub few_before : (at : ℕ) (r : Region) (next : ℕ) → gives (Some r) next ≡ one_more before s at → length before < most_regions
  unfolding one_more
  few_before at r next =
      by_cases (eqb at (length s)) (λ e. rw e (λ w. absurd (let z : ◌≡◌ {A = ℕ} 0 1 = cc in omega arith)))
      (λ e.
      rw e
      (by_cases (leb most_regions (length before)) (λ f. rw f (λ w. absurd (let z : ◌≡◌ {A = ℕ} 0 1 = cc in omega arith)))
      (λ f w. leb-false most_regions (length before) f)))

-- the text is being read: its regions so far are held, and what it gives is what reading on from here gives
pub record Reading (s : List ℕ) (known : Regions) (at : ℕ) : Type 0 where
  pub count : known.count ≡ length (held known)
  pub list : known.list ≡ padded (held known)
  pub comes : regions s ≡ regions_from (most_regions - length (held known)) (held known) s at

reading : (s : List ℕ) (known : Regions) (at : ℕ) (rs : List Region) → known.count ≡ length rs → known.list ≡ padded rs
    → regions s ≡ regions_from (most_regions - length rs) rs s at
    → Reading s known at
reading s known at rs n l e =
    let holds : held known ≡ rs = held_padded known rs n l in
    record { count = n ∙ sym (ap length holds); list = l ∙ sym (ap padded holds); comes = rw holds e }

pub begins : (s : List ℕ) (known : Regions) → length s ≤ most_text → known.count ≡ 0 → known.list ≡ padded [] → Reading s known 0
unfolding regions
begins s known h n l = reading s known 0 [] n l (rw (le-ltb most_text (length s) h))

-- one region more is read from the text, t, after those that are held, before
module _ (s : List ℕ) (known : Regions) (at : ℕ) (now : Reading s known at) (before : List Region) (t : List ℕ) (b : before ≡ held known) (same : t ≡ s) where
  more : regions s ≡ (one_more before t at then goes_on s (held known))
  more = rw (b, same) (now.comes ∙ from_more s (held known) at (let few = known.few in omega (arith, now.count)))

  pub reads_refused : (number place : ℕ) → refuses number place ≡ one_more before t at → regions s ≡ refuses number place
  reads_refused number place e = more ∙ then_refused (one_more before t at) (goes_on s (held known)) number place (sym e)

  pub reads_end : (next : ℕ) → gives None next ≡ one_more before t at → regions s ≡ gives (held known) next
  reads_end next e = more ∙ then_given (one_more before t at) (goes_on s (held known)) None next (sym e)

  module _ (r : Region) (next : ℕ) (e : gives (Some r) next ≡ one_more before t at) where
    pub reads_few : known.count < most_regions
    reads_few = omega (arith, now.count, ap length b, few_before t before at r next e)

    pub reads_on : (after : Regions) → after.count ≡ known.count + 1 → after.list ≡ set known.list known.count r → Reading s after next
    reads_on after n l =
        let few = reads_few in
        let size : length (held known ++ (r ∷ [])) ≡ length (held known) + 1 = length_snoc (held known) r in
        let whole : after.list ≡ padded (held known ++ (r ∷ [])) =
        l ∙ ap (λ (k : ℕ). set known.list k r) now.count ∙ ap (λ (k : List Region). set k (length (held known)) r) now.list
        ∙ padded_snoc (held known) r (omega (arith, now.count)) in
        reading s after next (held known ++ (r ∷ [])) (omega (arith, size, now.count)) whole
        (more ∙ then_given (one_more before t at) (goes_on s (held known)) (Some r) next (sym e) ∙ rw size)
