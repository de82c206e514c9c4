-- What a boot promises, in plain quantifiers beside its executable definition.
use Rattle.std.specs.Prelude.{◌≡◌, ℕ, ◌*◌, ◌≤◌, not, List, [], ◌∷◌, length, ◌==◌, slice_index}
use Rattle.answer.specs.Answers.{done}
use Rattle.frames.specs.Areas.{no_area}
use Rattle.frames.specs.Tables.{Tables}
use Rattle.regions.specs.declared.Region.{Region}
use Rattle.text.specs.Reading.{gives}
use Rattle.regions.specs.Text.{regions}
use Rattle.rules.specs.declared.Request.{Request}
use Rattle.rules.specs.declared.Record.{Record}
use Rattle.rules.specs.Record.{bare_record, area_at}
use Rattle.rules.specs.Declare.{declare}
use Rattle.rules.specs.Boot.{boot}
use Rattle.rules.specs.Outcomes.{Outcome}
use Rattle.rules.specs.Promises.Changes.{SameLengths}

-- ---- A boot looks at the lengths of the tables, and neither at what they hold nor at the record given

pub record SameOutcome (o o' : Outcome) : Type 0 where
  pub answer : o'.answer ≡ o.answer
  pub machine : o.answer.refusal ≡ 0 → o'.machine ≡ o.machine
  pub left : o.answer.refusal ≡ 0 → o'.left ≡ o.left

abbrev pub BootLooksAtLengths : Type 0
BootLooksAtLengths =
    (m m' : Record) (base frames block_order : ℕ) (text : List ℕ) (t t' : Tables) →
    SameLengths t t' → SameOutcome (boot m base frames block_order text t) (boot m' base frames block_order text t')

-- ---- An accepted boot leaves every table zero, and the areas that its regions declare in turn

-- the declaration that a region asks for: its own start, size and alignment, limit and k 0, fixed exactly if the start is not 0
abbrev pub region_request : Region → Request
region_request g = record { base = g.start; size = g.size; limit = 0; alignment = g.alignment; order_per_bit = 0; fixed = not (g.start == 0) }

-- the regions are declared one after the other, from m and t on, and each is accepted: `new` is the record after the last
abbrev pub InTurn : List Region → Record → Tables → Record → Type 0
InTurn [] m t new = new ≡ m
InTurn (g ∷ gs) m t new =
    let o = declare m (region_request g) t in
    (o.answer.refusal ≡ 0) × InTurn gs o.machine o.left new

-- every entry is 0, spare ones too, and there are as many as before
pub record Zeroed (before after : List ℕ) : Type 0 where
  pub zero : (i : ℕ) → slice_index after i ≡ 0
  pub as_many : length after ≡ length before

module _ (base frames block_order : ℕ) (text : List ℕ) (t : Tables) where
  -- what it leaves, for the regions gs
  pub record BootDoes (o : Outcome) (gs : List Region) : Type 0 where
    pub answer : o.answer ≡ done 0 0
    pub marks : Zeroed t.marks o.left.marks
    pub words : Zeroed t.words o.left.words
    pub bitmap : Zeroed t.bitmap o.left.bitmap
    pub owners : Zeroed t.owners o.left.owners
    -- the record has what was given, and as many areas as the text has regions; its other area records, of 64, are zero
    pub the_base : o.machine.memory.base.0 ≡ base
    pub the_frames : o.machine.memory.frames ≡ frames
    pub the_order : o.machine.memory.block_order ≡ block_order
    pub reads : (at : ℕ) × (regions text ≡ gives gs at)
    pub declared : o.machine.memory.declared ≡ length gs
    pub unused : (i : ℕ) → length gs ≤ i → area_at o.machine i ≡ no_area
    pub numbers : length o.machine.areas ≡ 64 * 3
    -- its areas are those of the regions, declared on the zero tables of a record that has none
    pub areas : InTurn gs (bare_record base frames block_order) o.left o.machine

abbrev pub AcceptedBoot : Type 0
AcceptedBoot =
    (m : Record) (base frames block_order : ℕ) (text : List ℕ) (t : Tables) →
    let o = boot m base frames block_order text t in
    o.answer.refusal ≡ 0 → (gs : List Region) × BootDoes base frames block_order text t o gs
