-- A boot looks at lengths alone, and what an accepted one does. Assumes nothing.
use Rattle.std.proofs.Common.{◌≡◌, ℕ, suc, ◌+◌, ◌*◌, ◌≤◌, Bool, true, false, not, ◌&&◌, eqb, List, [], ◌∷◌, length, get_or, replicate, sym, refl, ap, ◌∙◌, subst, arith, eqb-true}
use lib.ListN.{length-replicate, get_or-replicate, get_or-eq_default}
use borrow.Author.Tests.{eqb-false}
use Rattle.search.proofs.Bools.{by_cases, below_or_not}
use Rattle.frames.specs.declared.Frame.{Frame}
use Rattle.frames.specs.Areas.{no_area, area_numbers, area_in}
use Rattle.frames.specs.Tables.{Tables}
use Rattle.regions.specs.declared.Region.{Region}
use Rattle.text.specs.Reading.{Read, gives, refuses, ◌then◌, refuse_if}
use Rattle.regions.specs.Text.{most_regions, regions}
use Rattle.regions.proofs.Refusals.{Sound, sound_regions}
use Rattle.rules.specs.declared.Record.{Record}
use Rattle.rules.specs.Record.{bare_record, area_at}
use Rattle.rules.specs.Declare.{declare}
use Rattle.rules.specs.Boot.{zero_tables, declare_all, boot_record, booted, boot}
use Rattle.rules.specs.Limits.{most_area_numbers}
use Rattle.rules.specs.Shape.{memory_right, lengths_right}
use Rattle.rules.specs.Promises.Changes.{SameLengths}
use Rattle.rules.specs.Promises.Boots.{SameOutcome, BootLooksAtLengths, region_request, InTurn, Zeroed, BootDoes, AcceptedBoot}
use Rattle.rules.proofs.Promises.Declares.{accepted_declare}

-- ---- the record that a boot makes goes by lengths alone

module _ (t t' : Tables) (s : SameLengths t t') where
  pub zero_lengths : zero_tables t' ≡ zero_tables t
  zero_lengths = rw (s.marks, s.words, s.bitmap, s.owners)

  pub record_lengths : (base frames block_order : ℕ) (text : List ℕ) → boot_record base frames block_order text t' ≡ boot_record base frames block_order text t
  unfolding boot_record lengths_right
  record_lengths base frames block_order text = rw (s.marks, s.words, s.bitmap, s.owners)

-- ---- what a reading gives, and that its refusal has a number

sound_map : (P Q : Record → Type 0) (r : Read Record) → ((new : Record) → P new → Q new) → Sound P r → Sound Q r
sound_map P Q (gives new at) f s = f new s
sound_map P Q (refuses number at) f s = s

sound_if : (P : Record → Type 0) (test : Bool) (r : Read Record) → Sound P r → Sound P (refuse_if test 1 0 r)
sound_if P true r s = omega arith
sound_if P false r s = s

-- a text's regions, and what comes next
module _
    (P : Record → Type 0) (text : List ℕ) (next : List Region → ℕ → Read Record)
    (all : (gs : List Region) (at : ℕ) → regions text ≡ gives gs at → Sound P (next gs at)) where
  sound_then : (read : Read (List Region)) → regions text ≡ read → Sound (λ gs. length gs ≤ most_regions) read → Sound P (read then next)
  sound_then (gives gs at) e s = all gs at e
  sound_then (refuses number at) e s = s

  sound_read : (test : Bool) → Sound P (refuse_if test 1 0 (regions text then next))
  sound_read test = sound_if P test (regions text then next) (sound_then (regions text) refl (sound_regions text))

-- the regions declared in turn
declares_in_turn : (gs : List Region) (i : ℕ) (m : Record) (t : Tables) → Sound (InTurn gs m t) (declare_all gs i m t)
unfolding declare_all
declares_in_turn [] i m t = refl
declares_in_turn (g ∷ gs) i m t =
    let o = declare m (region_request g) t in
    by_cases (eqb o.answer.refusal 0)
    (λ e.
    rw e
    (sound_map (InTurn gs o.machine o.left) (InTurn (g ∷ gs) m t) (declare_all gs (suc i) o.machine o.left)
    (λ new w. (eqb-true o.answer.refusal 0 e, w)) (declares_in_turn gs (suc i) o.machine o.left)))
    (λ n. let some = eqb-false o.answer.refusal 0 n in rw n (omega arith))

-- the record that a boot gives is that of the text's regions
module _ (base frames block_order : ℕ) (text : List ℕ) (t : Tables) where
  abbrev Left : Record → Type 0
  Left new = (gs : List Region) × ((at : ℕ) × (regions text ≡ gives gs at)) × InTurn gs (bare_record base frames block_order) (zero_tables t) new

  left : Sound Left (boot_record base frames block_order text t)
  unfolding boot_record
  left =
      let bare = bare_record base frames block_order in
      sound_read Left text (λ gs _. declare_all gs 0 bare (zero_tables t))
      (λ gs at e.
      sound_map (InTurn gs bare (zero_tables t)) Left (declare_all gs 0 bare (zero_tables t)) (λ new w. (gs, (at, e), w)) (declares_in_turn gs 0 bare (zero_tables t)))
      (not (memory_right base frames block_order && lengths_right frames t))

-- ---- lengths alone

outcome_same :
    (m m' : Record) (t t' : Tables) (P : Record → Type 0) (r : Read Record) →
    Sound P r → zero_tables t' ≡ zero_tables t → SameOutcome (booted m t r) (booted m' t' r)
outcome_same m m' t t' P (gives new at) n zero = record { answer = refl; machine = λ e. refl; left = λ e. zero }
outcome_same m m' t t' P (refuses number at) n zero = record { answer = refl; machine = λ e. absurd (omega arith); left = λ e. absurd (omega arith) }

pub boot_looks_at_lengths : BootLooksAtLengths
unfolding boot
boot_looks_at_lengths m m' base frames block_order text t t' s =
    subst (λ (r : Read Record). SameOutcome (booted m t (boot_record base frames block_order text t)) (booted m' t' r))
    (sym (record_lengths t t' s base frames block_order text))
    (outcome_same m m' t t' (Left base frames block_order text t) (boot_record base frames block_order text t) (left base frames block_order text t)
    (zero_lengths t t' s))

-- ---- an accepted boot

-- a list of one value only
same_entry : {A : Type 0} (a : A) (n i : ℕ) → get_or (replicate n a) i a ≡ a
same_entry a n i =
    below_or_not i n (λ h. get_or-replicate n i a a h) (λ h. get_or-eq_default (replicate n a) a (omega (arith, length-replicate n a)))

zeroed : (l : List ℕ) → Zeroed l (replicate (length l) 0)
zeroed l = record { zero = same_entry 0 (length l); as_many = length-replicate (length l) 0 }

-- what the declarations leave of the record that they began with
record Grown (m new : Record) (n : ℕ) : Type 0 where
  base : new.memory.base ≡ m.memory.base
  frames : new.memory.frames ≡ m.memory.frames
  order : new.memory.block_order ≡ m.memory.block_order
  declared : new.memory.declared ≡ m.memory.declared + n
  unused : (i : ℕ) → m.memory.declared + n ≤ i → area_at new i ≡ area_at m i
  records : length new.areas ≡ length m.areas

grown : (gs : List Region) (m : Record) (t : Tables) (new : Record) → length m.areas ≡ most_area_numbers → InTurn gs m t new → Grown m new (length gs)
grown [] m t new records w =
    rw w (record { base = refl; frames = refl; order = refl; declared = omega arith; unused = λ i h. refl; records = refl })
grown (g ∷ gs) m t new records w =
    let o = declare m (region_request g) t in
    let d = (accepted_declare m (region_request g) t records w.0).1 in
    let rest = grown gs o.machine o.left new (d.as_many ∙ records) w.1 in
    record {
      base = rest.base ∙ d.same_base;
      frames = rest.frames ∙ d.same_frames;
      order = rest.order ∙ d.same_order;
      declared = omega (arith, rest.declared, d.one_more);
      unused = λ i h. rest.unused i (omega (arith, d.one_more)) ∙ d.other_areas i (λ e. omega arith);
      records = rest.records ∙ d.as_many;
    }

-- every area of a record with no areas is all zeros
abbrev no_numbers : List ℕ
no_numbers = replicate most_area_numbers 0

no_number : (k : ℕ) → get_or no_numbers k 0 ≡ 0
no_number = same_entry 0 most_area_numbers

bare_area : (i : ℕ) → area_in no_numbers i ≡ no_area
bare_area i = rw (no_number (area_numbers * i), no_number (area_numbers * i + 1), no_number (area_numbers * i + 2))

module _ (base frames block_order : ℕ) (text : List ℕ) (t : Tables) where
  outcome_does :
      (m : Record) (r : Read Record) →
      Sound (Left base frames block_order text t) r →
      (booted m t r).answer.refusal ≡ 0 → (gs : List Region) × BootDoes base frames block_order text t (booted m t r) gs
  outcome_does m (gives new at) l e =
      let g = grown l.0 (bare_record base frames block_order) (zero_tables t) new (length-replicate {A = ℕ} most_area_numbers 0) l.2 in (
        l.0,
        record {
          answer = refl;
          marks = zeroed t.marks;
          words = zeroed t.words;
          bitmap = zeroed t.bitmap;
          owners = zeroed t.owners;
          the_base = ap (λ (f : Frame). f.0) g.base;
          the_frames = g.frames;
          the_order = g.order;
          reads = l.1;
          declared = omega (arith, g.declared);
          unused = λ i h. g.unused i (omega arith) ∙ bare_area i;
          numbers = g.records ∙ length-replicate {A = ℕ} most_area_numbers 0;
          areas = l.2;
        },
      )
  outcome_does m (refuses number at) l e = absurd (omega arith)

pub accepted_boot : AcceptedBoot
unfolding boot
accepted_boot m base frames block_order text t =
    outcome_does base frames block_order text t m (boot_record base frames block_order text t) (left base frames block_order text t)
