-- A boot plans its regions one after the other, on tables that are all zero and stay so. Assumes nothing.
--     clear_fill         zeros filled with zeros
--     Grown, grown       what an accepted declaration leaves
--     Planning           a loop that plans region i; planning_start, -stop, -few, -on, -end
--     boot_text          the record of a boot on tables that are all zero
--     read_refused, read_given    the text's answer
--     boot_wrong, boot_refused, boot_done    what a boot does
use Prim.Native.Nat.{ℕ, zero, suc, ◌+◌, ◌-◌, ◌≤◌, ◌<◌}
use native.Mathlib.Omega.{arith}
use native.Mathlib.Numerals.{add-one}
use mathlib.Core.Logic.{◌⊎◌, inl, inr}
use mathlib.Core.Bool.{Bool, true, false, ◌&&◌}
use mathlib.Core.List.{List, [], ◌∷◌}
use mathlib.Core.Path.{◌≡◌, refl, sym, ap, subst, ◌∙◌}
use lib.Dec.{eqb}
use lib.ListN.{length, get_or, set, take, drop, replicate, length-replicate, get_or-replicate, drop_of_length-le, get_or-eq_default}
use lib.Seq.{drop-cons, take-append_seam}
use borrow.Author.Tests.{eq-eqb, ne_eqb}
use Rattle.std.specs.Prelude.{Result, Ok, Err, if◌then◌else◌}
use Rattle.search.proofs.Bools.{by_cases, below_or_not, and_both, and_left, and_right}
use Rattle.answer.specs.declared.Refused.{Refused}
use Rattle.answer.specs.declared.refusal.Refusal.{Refusal}
use Rattle.answer.specs.Answers.{done, refused_at, number_of, answer_at}
use Rattle.frames.specs.declared.Area.{Area}
use Rattle.frames.specs.Tables.{Tables, tables, fill}
use Rattle.frames.proofs.FillFacts.{fill_none, fill_suc}
use Rattle.regions.specs.declared.Region.{Region}
use Rattle.regions.specs.declared.Regions.{Regions}
use Rattle.text.specs.Reading.{Read, gives, refuses, ◌then◌}
use Rattle.regions.specs.Text.{most_regions, regions}
use Rattle.regions.specs.Result.{no_region, result_of}
use Rattle.regions.specs.Steps.Progress.{held}
use Rattle.regions.specs.Outcome.{regions_in}
use Rattle.rules.specs.Limits.{most_areas, most_area_numbers}
use Rattle.rules.specs.declared.Memory.{Memory}
use Rattle.rules.specs.declared.Record.{Record}
use Rattle.rules.specs.declared.Request.{Request}
use Rattle.rules.specs.Record.{bare_record}
use Rattle.rules.specs.Shape.{memory_right, lengths_right, shape_right}
use Rattle.rules.specs.Outcomes.{Outcome, outcome, refuse}
use Rattle.rules.specs.Declare.{with_area, declare}
use Rattle.rules.specs.Does.{record_with, has_all_areas, with_all_areas}
use Rattle.rules.specs.Boot.{zero_tables, request_of, declare_all, boot_record, booted, boot}
use Rattle.rules.proofs.BareShape.{bare_shape}
use Rattle.rules.proofs.Placement.{declare_cases, declared_shape, declared_records}
use Rattle.rules.proofs.ShapeFacts.{lengths_facts, shape_memory}
use Rattle.rules.proofs.Promises.Boots.{record_lengths}
use Rattle.setup.specs.Steps.Plan.{plan_tables, plan}
use Rattle.setup.specs.Steps.Boot.{clear_tables, Starts}
use Rattle.setup.proofs.Plans.{plan_alike}
use Rattle.setup.proofs.DeclareOutcomes.{declared, concluded, declare_plan, plan_few}

-- ---- zeros
zero_read : (n q : ℕ) → get_or {A = ℕ} (replicate n 0) q 0 ≡ 0
zero_read n q = below_or_not q n (λ h. get_or-replicate n q 0 0 h) (λ h. get_or-eq_default (replicate n 0) 0 (omega (arith, length-replicate {A = ℕ} n 0)))

set_zero : (n i : ℕ) → set {A = ℕ} (replicate n 0) i 0 ≡ replicate n 0
set_zero zero i = refl
set_zero (suc n) zero = refl
set_zero (suc n) (suc i) = ap (λ (l : List ℕ). 0 ∷ l) (set_zero n i)

clear_fill : (n i d : ℕ) → fill {A = ℕ} (replicate n 0) i d 0 ≡ replicate n 0
clear_fill n i zero = fill_none {A = ℕ} 0 (replicate n 0) i
clear_fill n i (suc d) = fill_suc {A = ℕ} 0 (replicate n 0) i d ∙ ap (λ (l : List ℕ). fill l (suc i) d 0) (set_zero n i) ∙ clear_fill n (suc i) d

-- ---- an accepted declaration
record Grown (m : Record) (o : Outcome) : Type 0 where
  done : o.answer.refusal ≡ 0
  more : o.machine.memory.declared ≡ suc m.memory.declared
  shape : shape_right o.machine o.left ≡ true
  records : length o.machine.areas ≡ most_area_numbers

grown : (m : Record) (r : Request) (t : Tables) → shape_right m t ≡ true → length m.areas ≡ most_area_numbers →
    (0 < (declare m r t).answer.refusal) ⊎ Grown m (declare m r t)
grown m r t shape records =
    declare_cases (λ o. (0 < o.answer.refusal) ⊎ Grown m o) m r t (λ number h. inl h)
    (λ d. inr (record { done = refl; more = refl; shape = declared_shape m r t shape records d; records = declared_records m r t shape records d }))

-- ---- in turn
abbrev goes_on : List Region → ℕ → Outcome → Read Record
goes_on rs i o = if eqb o.answer.refusal 0 then declare_all rs (suc i) o.machine o.left else refuses o.answer.refusal i

all_none : (i : ℕ) (m : Record) (t : Tables) → declare_all [] i m t ≡ gives m i
unfolding declare_all
all_none i m t = refl

all_one : (r : Region) (rs : List Region) (i : ℕ) (m : Record) (t : Tables) → declare_all (r ∷ rs) i m t ≡ goes_on rs i (declare m (request_of r) t)
unfolding declare_all
all_one r rs i m t = refl

stops : (rs : List Region) (i : ℕ) (m : Record) (t : Tables) {n : ℕ} (o : Outcome) → o ≡ refuse m t n → (0 < o.answer.refusal) ⊎ Grown m o → goes_on rs i o ≡ refuses n i
stops rs i m t o e (inl h) =
    ap (λ (b : Bool). if b then declare_all rs (suc i) o.machine o.left else refuses o.answer.refusal i) (ne_eqb o.answer.refusal 0 (λ z. omega arith)) ∙
    ap (λ (x : Outcome). refuses x.answer.refusal i) e
stops rs i m t o e (inr g) =
    absurd (let z : o.machine.memory.declared ≡ m.memory.declared = ap (λ (x : Outcome). x.machine.memory.declared) e in omega (arith, g.more))

-- one more area, and the bitmap is as it was
grows : (frames room : ℕ) (m : Record) (a : Area) (o : Outcome) → o ≡ declared m (clear_tables frames room) a → (0 < o.answer.refusal) ⊎ Grown m o →
    (o.left ≡ clear_tables frames room) × Grown m o
grows frames room m a o e (inl h) = absurd (let z : o.answer.refusal ≡ 0 = ap (λ (x : Outcome). x.answer.refusal) e in omega arith)
grows frames room m a o e (inr g) =
    (ap (λ (x : Outcome). x.left) e ∙ ap (λ (l : List ℕ). tables (replicate frames 0) (replicate frames 0) l (replicate frames 0)) (clear_fill room _ _), g)

abbrev refused_in : Read (ℕ × List Region) → Read (List Region)
refused_in (gives _ _) = gives [] 0
refused_in (refuses number at) = refuses number at

-- the regions of a reading
abbrev read_in : Read (ℕ × List Region) → List Region
read_in (gives x _) = take x.0 x.1
read_in (refuses _ _) = []

-- what holds at the head of a loop that has planned the regions before i, from the record `first` on, and has come to m
pub record Planning (frames room : ℕ) (rs : List Region) (first : Record) (i : ℕ) (m : Record) : Type 0 where
  pub high : i ≤ length rs
  pub shape : shape_right m (clear_tables frames room) ≡ true
  pub records : length m.areas ≡ most_area_numbers
  pub rest : declare_all rs 0 first (clear_tables frames room) ≡ declare_all (drop i rs) i m (clear_tables frames room)

lengths_clear : (frames room : ℕ) → lengths_right frames (clear_tables frames room) ≡ true
unfolding lengths_right
lengths_clear frames room = let e = eq-eqb (length {A = ℕ} (replicate frames 0)) frames (length-replicate frames 0) in and_both _ _ (and_both _ _ e e) e

clear_zero : (frames room : ℕ) → zero_tables (clear_tables frames room) ≡ clear_tables frames room
clear_zero frames room = rw (length-replicate {A = ℕ} frames 0, length-replicate {A = ℕ} room 0)

module _ (base frames order room : ℕ) (right : memory_right base frames order ≡ true) where
  bootable_clear : (memory_right base frames order && lengths_right frames (clear_tables frames room)) ≡ true
  bootable_clear = and_both (memory_right base frames order) (lengths_right frames (clear_tables frames room)) right (lengths_clear frames room)

  pub planning_start : (rs : List Region) {first : Record} → first ≡ bare_record base frames order → Planning frames room rs first 0 first
  planning_start rs e =
      subst (λ (x : Record). Planning frames room rs x 0 x) (sym e)
      (record {
        high = omega arith;
        shape =
            subst (λ (t : Tables). shape_right (bare_record base frames order) t ≡ true) (clear_zero frames room)
            (bare_shape base frames order (clear_tables frames room) bootable_clear);
        records = length-replicate {A = ℕ} most_area_numbers 0;
        rest = refl;
      })

  -- the record of a boot on tables that are all zero
  boot_text : (text : List ℕ) →
      boot_record base frames order text (clear_tables frames room) ≡
      (regions text then λ rs _. declare_all rs 0 (bare_record base frames order) (clear_tables frames room))
  unfolding boot_record
  boot_text text =
      rw bootable_clear
      (ap (λ (t : Tables). regions text then λ rs _. declare_all rs 0 (bare_record base frames order) t) (clear_zero frames room))

  -- ---- the text's answer
  module _ (text : List ℕ) where
    abbrev follows : Read (List Region) → Read Record
    follows x = x then λ rs _. declare_all rs 0 (bare_record base frames order) (clear_tables frames room)

    refused_is : (x : Read (List Region)) (r : Refused) → refuses (number_of r.refusal) r.place ≡ result_of x → x ≡ refuses (number_of r.refusal) r.place
    refused_is (gives rs at) r e = cc
    refused_is (refuses number at) r e = sym (ap refused_in e)

    given_is : (x : Read (List Region)) (known : Regions) → gives (known.count, known.list) 0 ≡ result_of x → (at : ℕ) × (x ≡ gives (held known) at)
    given_is (gives rs at) known e =
        let same : held known ≡ rs = ap read_in e ∙ take-append_seam rs (replicate (most_regions - length rs) no_region) in
        (at, ap (λ (l : List Region). gives l at) (sym same))
    given_is (refuses number at) known e = cc

    pub read_refused : (r : Refused) (areas : List ℕ) → regions_in (Err r) ≡ result_of (regions text) →
        Starts (boot_record base frames order text (clear_tables frames room)) (Err r) areas
    read_refused r areas e = rw (boot_text text, refused_is (regions text) r e) (refl, refl)

    pub read_given : (known : Regions) (result : Result Memory Refused) (areas : List ℕ) → regions_in (Ok known) ≡ result_of (regions text) →
        {first : Record} → first ≡ bare_record base frames order →
        Starts (declare_all (held known) 0 first (clear_tables frames room)) result areas →
        Starts (boot_record base frames order text (clear_tables frames room)) result areas
    read_given known result areas e b k =
        subst (λ (x : Read Record). Starts x result areas) (sym (boot_text text ∙ ap follows (given_is (regions text) known e).1)) (rw b at k)

-- ---- a loop at region i
module _
    {frames room : ℕ} (list : List Region) {first : Record} {i : ℕ} {memory : Memory} {areas : List ℕ}
    (s : Planning frames room list first i (record_with memory areas))
  where
    abbrev m : Record
    m = record_with memory areas

    abbrev t : Tables
    t = clear_tables frames room

    pub memory_right_lem : memory_right memory.base.0 memory.frames memory.block_order ≡ true
    memory_right_lem = shape_memory m t s.shape

    pub planning_end : length list ≤ i → Starts (declare_all list 0 first t) (Ok memory) areas
    planning_end h =
        let none : drop i list ≡ [] = drop_of_length-le list {i = i} h in
        rw (s.rest, none, all_none i m t) refl

    module _
        (h : i < length list) {q : Request} (asks : q ≡ request_of (get_or list i no_region)) (bitmap : List ℕ) (words : length bitmap ≡ room)
        {p : Result Area ℕ} (e : p ≡ plan m q (plan_tables [] bitmap))
      where
        abbrev asked : Request
        asked = request_of (get_or list i no_region)

        abbrev after : List Region
        after = drop (suc i) list

        next : declare_all list 0 first t ≡ goes_on after i (declare m asked t)
        next = s.rest ∙ ap (λ (l : List Region). declare_all l i m t) (drop-cons list i no_region h) ∙ all_one (get_or list i no_region) after i m t

        planned_is : {x : Result Area ℕ} → p ≡ x → plan m asked t ≡ x
        planned_is is =
            plan_alike m asked t (plan_tables [] bitmap) (λ j. zero_read frames j) (length-replicate {A = ℕ} room 0 ∙ sym words) ∙
            ap (λ (x : Request). plan m x (plan_tables [] bitmap)) (sym asks) ∙ sym e ∙ is

        did : {x : Result Area ℕ} → p ≡ x → declare m asked t ≡ concluded m t x
        did is = declare_plan m asked t s.shape ∙ ap (concluded m t) (planned_is is)

        pub planning_stop : (r : Refusal) → p ≡ Err (number_of r) → Starts (declare_all list 0 first t) (Err (record { refusal = r; place = i })) areas
        planning_stop r is = rw (next, stops after i m t (declare m asked t) (did is) (grown m asked t s.shape s.records)) (refl, refl)

        pub planning_few : {a : Area} → p ≡ Ok a → memory.declared < most_areas
        planning_few is = plan_few m asked t (planned_is is)

        pub planning_on : {a : Area} {x : Record} → p ≡ Ok a → x ≡ with_area m a → Planning frames room list first (i + 1) x
        planning_on {a} is w =
            let o = declare m asked t in
            let g = grows frames room m a o (did is) (grown m asked t s.shape s.records) in
            let leaves : o.machine ≡ with_area m a = ap (λ (x : Outcome). x.machine) (did is) in
            let on : goes_on after i o ≡ declare_all after (suc i) o.machine o.left =
            ap (λ (b : Bool). if b then declare_all after (suc i) o.machine o.left else refuses o.answer.refusal i) (eq-eqb o.answer.refusal 0 g.1.done)
            in
            subst (Planning frames room list first (i + 1)) (leaves ∙ sym w)
            (rw add-one
            (record {
              high = omega arith;
              shape = subst (λ (u : Tables). shape_right o.machine u ≡ true) g.0 g.1.shape;
              records = g.1.records;
              rest = next ∙ on ∙ ap (declare_all after (suc i) o.machine) g.0;
            }))

-- ---- a boot
-- what a boot comes to says what it does to the tables
module _ (m : Record) (t : Tables) where
  leaves_refused : (read : Read Record) (r : Refused) (areas : List ℕ) → Starts read (Err r) areas → outcome m (answer_at (Err r)) t ≡ booted m t read
  leaves_refused (gives new at) r areas k = absurd k
  leaves_refused (refuses number at) r areas k = rw (k.0, k.1)

  leaves_record : (read : Read Record) (memory : Memory) (areas : List ℕ) → Starts read (Ok memory) areas → outcome (record_with memory areas) (done 0 0) (zero_tables t) ≡ booted m t read
  leaves_record (gives new at) memory areas k = rw k
  leaves_record (refuses number at) memory areas k = absurd k

module _ (m : Record) (base frames order : ℕ) (text : List ℕ) (t : Tables) where
  abbrev bootable : Bool
  bootable = memory_right base frames order && lengths_right frames t

  -- what a boot does that asks for the numbers of all areas
  abbrev does : Outcome
  does = with_all_areas (λ m t. boot m base frames order text t) m t

  wrong : bootable ≡ false → boot m base frames order text t ≡ outcome m (refused_at 1 0) t
  unfolding boot boot_record
  wrong e = rw e

  boots : boot m base frames order text t ≡ booted m t (boot_record base frames order text t)
  unfolding boot
  boots = refl

  lacks : has_all_areas m ≡ false → does ≡ outcome m (refused_at 1 0) t
  unfolding with_all_areas
  lacks e = rw e

  asks_all : has_all_areas m ≡ true → does ≡ booted m t (boot_record base frames order text t)
  unfolding with_all_areas
  asks_all e = rw e boots

  -- from what the call's test of its numbers and lengths gave
  module _ {right : Bool} (is : right ≡ (has_all_areas m && bootable)) where
    pub boot_wrong : right ≡ false → outcome m (refused_at 1 0) t ≡ does
    boot_wrong h =
        sym
        (by_cases (has_all_areas m)
        (λ all. asks_all all ∙ sym boots ∙ wrong (sym (is ∙ ap (λ (b : Bool). b && bootable) all) ∙ h))
        lacks)

    module _ (yes : right ≡ true) where
      both : (has_all_areas m && bootable) ≡ true
      both = sym is ∙ yes

      bootable_is : bootable ≡ true
      bootable_is = and_right (has_all_areas m) bootable both

      does_boot : does ≡ booted m t (boot_record base frames order text t)
      does_boot = asks_all (and_left (has_all_areas m) bootable both)

      lengths : (length t.marks ≡ frames) × (length t.words ≡ frames) × (length t.owners ≡ frames)
      lengths = lengths_facts (bare_record base frames order) t (and_right (memory_right base frames order) (lengths_right frames t) bootable_is)

      same : boot_record base frames order text (clear_tables frames (length t.bitmap)) ≡ boot_record base frames order text t
      same =
          record_lengths t (clear_tables frames (length t.bitmap))
          (record {
            marks = length-replicate frames 0 ∙ sym lengths.0;
            words = length-replicate frames 0 ∙ sym lengths.1;
            bitmap = length-replicate (length t.bitmap) 0;
            owners = length-replicate frames 0 ∙ sym lengths.2;
          })
          base frames order text

      -- and from what was planned
      module _ (areas : List ℕ) where
        pub boot_refused : (r : Refused) → Starts (boot_record base frames order text (clear_tables frames (length t.bitmap))) (Err r) areas → outcome m (answer_at (Err r)) t ≡ does
        boot_refused r k = leaves_refused m t (boot_record base frames order text t) r areas (subst (λ (read : Read Record). Starts read (Err r) areas) same k) ∙ sym does_boot

        pub boot_done :
            (memory : Memory) → Starts (boot_record base frames order text (clear_tables frames (length t.bitmap))) (Ok memory) areas →
            outcome (record_with memory areas) (done 0 0) (zero_tables t) ≡ does
        boot_done memory k = leaves_record m t (boot_record base frames order text t) memory areas (subst (λ (read : Read Record). Starts read (Ok memory) areas) same k) ∙ sym does_boot
