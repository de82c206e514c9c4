-- Document 01, "Numbers the clerk sees": every call answers each number of its list exactly when the paper says, in plain orders and
-- quantifiers and with the numbers and limits themselves.
use Rattle.std.specs.Prelude.{◌≡◌, ℕ, suc, ◌+◌, ◌-◌, ◌*◌, ◌/◌, ◌%◌, ◌^◌, ◌<◌, ◌≤◌, ◌≢◌, ◌⊎◌, ◌↔◌, List, [], ◌∷◌, length, slice_index}
use Rattle.frames.specs.declared.Frame.{Frame}
use Rattle.frames.specs.Areas.{first_word}
use Rattle.frames.specs.Tables.{Tables}
use Rattle.regions.specs.declared.Region.{Region}
use Rattle.text.specs.Reading.{gives, refuses}
use Rattle.regions.specs.Text.{regions}
use Rattle.rules.specs.declared.Call.{Call}
use Rattle.rules.specs.declared.Request.{Request}
use Rattle.rules.specs.declared.Record.{Record}
use Rattle.rules.specs.Record.{bare_record, area_at}
use Rattle.rules.specs.Declare.{size_for}
use Rattle.rules.specs.Declare as Declare
use Rattle.rules.specs.Boot.{zero_tables}
use Rattle.rules.specs.Report.{report_of}
use Rattle.rules.specs.Calls.{perform}
use Rattle.rules.specs.Promises.Boots.{region_request}
use Rattle.rules.specs.Promises.Changes.{kind_at, field_at}
use Rattle.rules.specs.Promises.Declares.{AtBase, Anywhere, RangeAboveLimit, RangeOutside, RangeTaken, NoPlace}
use Rattle.rules.specs.Promises.Grants.{NoRun, NoTargets}
use Rattle.rules.specs.Promises.Pages.{NoneFreeOrdinary, Lowest, Stands, Live}
use Rattle.rules.specs.Promises.Shapes.{RightMemory, RightLengths, RightShape}

-- the refusal is `number` where the condition holds, and otherwise as the later rules say
infixr 3 ◌answers◌otherwise◌
abbrev pub ◌answers◌otherwise◌ : Type 0 → ℕ → (ℕ → Type 0) → ℕ → Type 0
◌answers◌otherwise◌ condition number later n = (condition × (n ≡ number)) ⊎ ((condition → ⊥) × later n)

-- no rule is left: 0, done
abbrev pub Accepted : ℕ → Type 0
Accepted n = n ≡ 0

-- ---- The conditions

abbrev pub WrongShape : Record → Tables → Type 0
WrongShape m t = RightShape m t → ⊥

-- page names are 1 to 536,870,911
abbrev pub BadName : ℕ → Type 0
BadName name = (name < 1) ⊎ (536870911 < name)

abbrev pub NotLive : Record → Tables → ℕ → Type 0
NotLive m t name = Live m t name → ⊥

-- the page's kind: when its name stands twice, the lowest frame is meant
abbrev pub PageIs : ℕ → Record → Tables → ℕ → Type 0
PageIs kind m t name = (p : ℕ) × Lowest (Stands m t name) p × (kind_at t p ≡ kind)

abbrev pub PageIsNot : ℕ → Record → Tables → ℕ → Type 0
PageIsNot kind m t name = PageIs kind m t name → ⊥

abbrev pub NoneFree : Record → Tables → Type 0
NoneFree m t = (p : ℕ) → p < m.memory.frames → kind_at t p ≢ 0

-- devices are 1 to 65,535
abbrev pub BadDevice : ℕ → Type 0
BadDevice device = (device < 1) ⊎ (65535 < device)

-- an unknown area, count 0, an alignment order above 16, or no device's number
abbrev pub BadGrant : Record → ℕ → ℕ → ℕ → ℕ → Type 0
BadGrant m i count align_order device = (m.memory.declared ≤ i) ⊎ (count ≡ 0) ⊎ (16 < align_order) ⊎ BadDevice device

-- an unknown area, count 0, a range not inside the area, or no device's number
abbrev pub BadRelease : Record → ℕ → ℕ → ℕ → ℕ → Type 0
BadRelease m i f count device =
    (m.memory.declared ≤ i) ⊎
    (count ≡ 0) ⊎ ((f < (area_at m i).base.0) ⊎ ((area_at m i).base.0 + (area_at m i).count < f + count)) ⊎ BadDevice device

-- the frame is off a bit boundary, or not the first of a grant
abbrev pub NoGrant : Record → Tables → ℕ → ℕ → Type 0
NoGrant m t i f = ((f - (area_at m i).base.0) % 2 ^ (area_at m i).order_per_bit ≢ 0) ⊎ (kind_at t (f - m.memory.base.0) ≢ 4)

-- the field is not the count, or a later frame of the range is not of kind 5
abbrev pub Disagrees : Record → Tables → ℕ → ℕ → Type 0
Disagrees m t f count =
    (field_at t (f - m.memory.base.0) ≢ count) ⊎
    ((p : ℕ) × (f - m.memory.base.0 < p) × (p < f - m.memory.base.0 + count) × (kind_at t p ≢ 5))

-- the device is not the owner of the frame
abbrev pub NotOwner : Record → Tables → ℕ → ℕ → Type 0
NotOwner m t f device = slice_index t.owners (f - m.memory.base.0) ≢ device

-- a frame outside memory, or no device's number
abbrev pub BadFrame : Record → ℕ → ℕ → Type 0
BadFrame m f device = ((f < m.memory.base.0) ⊎ (m.memory.base.0 + m.memory.frames ≤ f)) ⊎ BadDevice device

abbrev pub NotGranted : Record → Tables → ℕ → Type 0
NotGranted m t f = (kind_at t (f - m.memory.base.0) ≡ 4) ⊎ (kind_at t (f - m.memory.base.0) ≡ 5) → ⊥

-- an amount passes 2^48, the size is 0, or the alignment is neither 0 nor a power of two
abbrev pub BadAmounts : Request → Type 0
BadAmounts r =
    (2 ^ 48 < r.base) ⊎
    (2 ^ 48 < r.size) ⊎
    (2 ^ 48 < r.limit) ⊎
    (2 ^ 48 < r.alignment) ⊎
    (r.size ≡ 0) ⊎ ((r.alignment ≡ 0) ⊎ ((k : ℕ) × (r.alignment ≡ 2 ^ k)) → ⊥)

-- a limit was given, and it is less than A: rounded down to A it is 0
abbrev pub SmallLimit : Record → Request → Type 0
SmallLimit m r = (r.limit ≢ 0) × ((r.limit < r.alignment) ⊎ (r.limit < 4096 * 2 ^ m.memory.block_order))

-- the words of the areas and of the new one, with a bit for each 2^k of its pages, are more than the bitmap has
abbrev pub ShortBitmap : Record → Request → Tables → Type 0
ShortBitmap m r t =
    length t.bitmap < first_word m.areas m.memory.declared + (size_for m r / 4096 / 2 ^ r.order_per_bit + 63) / 64

-- the buffer has fewer bytes than the report
abbrev pub ShortBuffer : List ℕ → Record → Tables → Type 0
ShortBuffer buffer m t = length buffer < length (report_of m t)

-- ---- The numbers of each call, in the order written

abbrev pub DeclareRefusal : Request → Record → Tables → ℕ → Type 0
DeclareRefusal r m t =
    WrongShape m t answers 1 otherwise
    64 ≤ m.memory.declared answers 10 otherwise
    BadAmounts r answers 2 otherwise
    m.memory.block_order < r.order_per_bit answers 11 otherwise
    SmallLimit m r answers 11 otherwise
    (AtBase m r × RangeAboveLimit m r) answers 11 otherwise
    ShortBitmap m r t answers 14 otherwise
    (AtBase m r × RangeOutside m r) answers 13 otherwise
    (AtBase m r × RangeTaken m r t) answers 12 otherwise
    (Anywhere m r × NoPlace m r t) answers 13 otherwise Accepted

-- the regions are declared in turn: the first that is refused gives its number and, as the place, its index
abbrev pub RegionsAnswer : List Region → ℕ → Record → Tables → ℕ → ℕ → Type 0
RegionsAnswer [] i m t n at = (n ≡ 0) × (at ≡ 0)
RegionsAnswer (r ∷ rs) i m t n at =
    ((n ≢ 0) × DeclareRefusal (region_request r) m t n × (at ≡ i)) ⊎
    (DeclareRefusal (region_request r) m t 0 ×
    let o = Declare.declare m (region_request r) t in
    RegionsAnswer rs (suc i) o.machine o.left n at)

-- 1 at place 0 if P, n, b or the length of marks, words or owners is wrong; then the text's own refusal and place; then the regions', which are declared
-- as if every frame were free
abbrev pub BootAnswers : ℕ → ℕ → ℕ → List ℕ → Tables → ℕ → ℕ → Type 0
BootAnswers base frames block_order text t n at =
    let Right = RightMemory base frames block_order × RightLengths frames t in
    ((Right → ⊥) × (n ≡ 1) × (at ≡ 0)) ⊎
    (Right ×
    ((regions text ≡ refuses n at) ⊎
    ((rs : List Region) × (end : ℕ) × (regions text ≡ gives rs end) × RegionsAnswer rs 0 (bare_record base frames block_order) (zero_tables t) n at)))

abbrev pub RefusalOf : Call → List ℕ → Record → Tables → ℕ → Type 0
RefusalOf (Call.PutMovable name) bytes m t =
    WrongShape m t answers 1 otherwise
    BadName name answers 2 otherwise
    Live m t name answers 4 otherwise
    NoneFree m t answers 6 otherwise Accepted
RefusalOf (Call.PutFixed name) bytes m t =
    WrongShape m t answers 1 otherwise
    BadName name answers 2 otherwise
    Live m t name answers 4 otherwise
    NoneFreeOrdinary m t answers 6 otherwise Accepted
RefusalOf (Call.Drop name) bytes m t =
    WrongShape m t answers 1 otherwise
    BadName name answers 2 otherwise
    NotLive m t name answers 3 otherwise
    PageIs 2 m t name answers 5 otherwise Accepted
RefusalOf (Call.Pin name) bytes m t =
    WrongShape m t answers 1 otherwise
    BadName name answers 2 otherwise
    NotLive m t name answers 3 otherwise
    PageIsNot 1 m t name answers 5 otherwise Accepted
RefusalOf (Call.Unpin name) bytes m t =
    WrongShape m t answers 1 otherwise
    BadName name answers 2 otherwise
    NotLive m t name answers 3 otherwise
    PageIsNot 2 m t name answers 5 otherwise Accepted
RefusalOf (Call.Store name word) bytes m t =
    WrongShape m t answers 1 otherwise
    BadName name answers 2 otherwise
    NotLive m t name answers 3 otherwise
    PageIs 2 m t name answers 5 otherwise Accepted
RefusalOf (Call.Read name) bytes m t =
    WrongShape m t answers 1 otherwise
    BadName name answers 2 otherwise
    NotLive m t name answers 3 otherwise Accepted
RefusalOf (Call.Grant i count align_order device) bytes m t =
    WrongShape m t answers 1 otherwise
    BadGrant m i count align_order device answers 2 otherwise
    NoRun m t i count align_order answers 7 otherwise
    NoTargets m t i count align_order answers 8 otherwise Accepted
RefusalOf (Call.Release i f count device) bytes m t =
    WrongShape m t answers 1 otherwise
    BadRelease m i f.0 count device answers 2 otherwise
    NoGrant m t i f.0 answers 3 otherwise
    NotOwner m t f.0 device answers 15 otherwise
    Disagrees m t f.0 count answers 9 otherwise Accepted
RefusalOf (Call.DeviceStore f word device) bytes m t =
    WrongShape m t answers 1 otherwise
    BadFrame m f.0 device answers 2 otherwise
    NotGranted m t f.0 answers 3 otherwise
    NotOwner m t f.0 device answers 15 otherwise Accepted
RefusalOf (Call.DeviceRead f device) bytes m t =
    WrongShape m t answers 1 otherwise
    BadFrame m f.0 device answers 2 otherwise
    NotGranted m t f.0 answers 3 otherwise
    NotOwner m t f.0 device answers 15 otherwise Accepted
RefusalOf (Call.Declare r) bytes m t = DeclareRefusal r m t
RefusalOf (Call.Boot base frames block_order) text m t = λ n. (at : ℕ) × BootAnswers base.0 frames block_order text t n at
RefusalOf Call.Report buffer m t =
    WrongShape m t answers 1 otherwise
    ShortBuffer buffer m t answers 16 otherwise Accepted

-- ---- The promises

-- a call answers n exactly if its list says n; 0, done, among them
abbrev pub RefusedExactly : Type 0
RefusedExactly =
    (call : Call) (bytes : List ℕ) (m : Record) (t : Tables) (n : ℕ) →
    ((perform call bytes m t).answer.refusal ≡ n) ↔ RefusalOf call bytes m t n

-- every refusal answers its number and two zeros
abbrev pub RefusalHasZeros : Type 0
RefusalHasZeros =
    (call : Call) (bytes : List ℕ) (m : Record) (t : Tables) →
    ((base : Frame) (frames block_order : ℕ) → call ≢ Call.Boot base frames block_order) →
    let a = (perform call bytes m t).answer in
    a.refusal ≢ 0 → (a.first ≡ 0) × (a.second ≡ 0)

-- for boot a place and a zero
abbrev pub BootAnswersPlace : Type 0
BootAnswersPlace =
    (base : Frame) (frames block_order : ℕ) (text : List ℕ) (m : Record) (t : Tables) →
    let a = (perform (Call.Boot base frames block_order) text m t).answer in
    ((n at : ℕ) → ((a.refusal ≡ n) × (a.first ≡ at)) ↔ BootAnswers base.0 frames block_order text t n at) × (a.second ≡ 0)
