-- Document 01, "The ledger of demand 3": the lists of calls that follow one accepted boot, and what a list leaves.
use Rattle.std.specs.Prelude.{◌≡◌, ℕ, ◌+◌, Bool, true, false, not, ◌&&◌, ◌||◌, List, [], ◌∷◌, length, take, ◌==◌, if◌then◌else◌}
use Rattle.answer.specs.declared.Answer.{Answer}
use Rattle.frames.specs.Tables.{Tables, tables}
use Rattle.rules.specs.declared.Call.{Call}
use Rattle.rules.specs.declared.Counters.{Counters}
use Rattle.rules.specs.declared.Record.{Record}
use Rattle.rules.specs.Record.{frame_at}
use Rattle.rules.specs.Outcomes.{Outcome}
use Rattle.rules.specs.PageCalls.{page_at}
use Rattle.rules.specs.Counters.{counted}
use Rattle.rules.specs.Calls.{perform, bytes_after}
use Rattle.rules.specs.Ledger.Ledger.{Ledger, empty_ledger}
use Rattle.rules.specs.Ledger.Roles.{role_of, fed}

-- where a table that an item is lent comes from: the boot's own, as last left, or another
pub data Source : Type 0 where
  own : Source
  another : List ℕ → Source

-- one of a list: a call, the bytes beside it, and what it is lent as each table, each by itself
pub record Item : Type 0 where
  pub call : Call
  pub bytes : List ℕ
  pub marks : Source
  pub words : Source
  pub bitmap : Source
  pub owners : Source

abbrev pub item_with : Call → List ℕ → Source → Source → Source → Source → Item
item_with c bytes marks words bitmap owners =
    record { call = c; bytes = bytes; marks = marks; words = words; bitmap = bitmap; owners = owners }

-- a call with no bytes beside it
abbrev pub item : Call → Source → Source → Source → Source → Item
item c = item_with c []

-- one that is lent the boot's own tables
abbrev pub on_own : Call → Item
on_own c = item c own own own own

-- where a list stands: the record that the last call returned, with its counters, the boot's tables as last left, and the ledger
pub record State : Type 0 where
  pub machine : Record
  pub counters : Counters
  pub own : Tables
  pub ledger : Ledger

abbrev pub is_refused : Outcome → Bool
is_refused o = not (o.answer.refusal == 0)

-- one table as it is lent, where the boot's own is `was`
abbrev pub lent_as : Source → List ℕ → List ℕ
lent_as own was = was
lent_as (another table) was = table

-- the boot's own after a call that left `left` of what it was lent: only a call that is lent the boot's own can write it
abbrev pub kept_as : Source → List ℕ → List ℕ → List ℕ
kept_as own was left = left
kept_as (another table) was left = was

-- each item is given the record that the last one returned, and the tables that it is lent
abbrev pub lent_to : Item → Tables → Tables
lent_to x was =
    tables (lent_as x.marks was.marks) (lent_as x.words was.words) (lent_as x.bitmap was.bitmap)
    (lent_as x.owners was.owners)

abbrev pub outcome_in : State → Item → Outcome
outcome_in s x = perform x.call x.bytes s.machine (lent_to x s.own)

-- the boot's tables after an item
abbrev pub own_after : Item → Tables → Tables → Tables
own_after x was left =
    tables (kept_as x.marks was.marks left.marks) (kept_as x.words was.words left.words)
    (kept_as x.bitmap was.bitmap left.bitmap) (kept_as x.owners was.owners left.owners)

unfoldable pub next : State → Item → State
next s x =
    let o = outcome_in s x in
    record {
      machine = o.machine;
      counters = counted x.call o.answer.refusal s.counters;
      own = own_after x s.own o.left;
      ledger = fed x.call (is_refused o) o.answer.first s.ledger;
    }

unfoldable pub after : State → List Item → State
after s [] = s
after s (x ∷ xs) = after (next s x) xs

-- right after a boot, from what it left and the counters then
abbrev pub start_of : Outcome → Counters → State
start_of o c = record { machine = o.machine; counters = c; own = o.left; ledger = empty_ledger }

-- ---- The lists that document 01 admits

abbrev pub is_own : Source → Bool
is_own own = true
is_own (another table) = false

-- an item that may be accepted: no boot, and lent the boot's own tables
abbrev pub may_pass : Item → Bool
may_pass x = not (role_of x.call).is_boot && is_own x.marks && is_own x.words && is_own x.bitmap && is_own x.owners

-- each item is refused, or may be accepted
unfoldable pub admitted : State → List Item → Bool
admitted s [] = true
admitted s (x ∷ xs) = (is_refused (outcome_in s x) || may_pass x) && admitted (next s x) xs

-- ---- The frame of a page at its last accepted pin

-- the physical frame of the page's mark
abbrev pub frame_of_page : State → ℕ → ℕ
frame_of_page s name = (frame_at s.machine (page_at s.machine s.own name)).0

-- the page's frame right after the last accepted pin of that name in the list; `before` where the list has none
unfoldable pub last_pin_frame : ℕ → ℕ → State → List Item → ℕ
last_pin_frame name before s [] = before
last_pin_frame name before s (x ∷ xs) =
    last_pin_frame name
    (if (role_of x.call).pins name && not (is_refused (outcome_in s x)) then frame_of_page (next s x) name else before)
    (next s x) xs

-- ---- The grants of a list

-- how many grants of a list are answered with a number that passes
unfoldable pub grants_answered : (ℕ → Bool) → State → List Item → ℕ
grants_answered test s [] = 0
grants_answered test s (x ∷ xs) =
    (if (role_of x.call).is_grant && test (outcome_in s x).answer.refusal then 1 else 0) + grants_answered test (next s x) xs

-- 0 is an accepted call; a refused one counts but for the wrong shape, 1
abbrev pub is_done : ℕ → Bool
is_done number = number == 0

abbrev pub is_counted_refusal : ℕ → Bool
is_counted_refusal number = not (number == 0) && not (number == 1)

-- ---- Two runs

-- two calls with the bytes beside them are the same, or store other words to one name of the chosen set, or report to buffers of the same length
pub data SameCall (chosen : ℕ → Bool) : Call → List ℕ → Call → List ℕ → Type 0 where
  same : (c : Call) (bytes : List ℕ) → SameCall chosen c bytes c bytes
  other_word :
      (name word word' : ℕ) (bytes : List ℕ) → chosen name ≡ true → SameCall chosen (Call.Store name word) bytes (Call.Store name word') bytes
  other_buffer : (bytes bytes' : List ℕ) → length bytes' ≡ length bytes → SameCall chosen Call.Report bytes Call.Report bytes'

-- two lists of such calls that are lent the same: the own table of each run, or one other in both
pub data SameList (chosen : ℕ → Bool) : List Item → List Item → Type 0 where
  none : SameList chosen [] []
  more :
      {c d : Call} {bytes bytes' : List ℕ} {marks words bitmap owners : Source} {xs ys : List Item} →
      SameCall chosen c bytes d bytes' →
      SameList chosen xs ys →
      SameList chosen (item_with c bytes marks words bitmap owners ∷ xs) (item_with d bytes' marks words bitmap owners ∷ ys)

-- an answer without the word that a read of a chosen name gives
abbrev pub without_word : Answer → Answer
without_word a = record { refusal = a.refusal; first = a.first; second = 0 }

abbrev pub seen_answer : (ℕ → Bool) → Call → Answer → Answer
seen_answer chosen call a = if (role_of call).reads chosen then without_word a else a

-- what is seen of a call: its answer, the counters after it, and the bytes that an accepted report wrote, as many as it answers
pub record Seen : Type 0 where
  pub answer : Answer
  pub counters : Counters
  pub report : List ℕ

-- a refusal answers 0, and so has no bytes
abbrev pub report_by : Call → List ℕ → Record → Tables → List ℕ
report_by call bytes m t = if (role_of call).is_report then take (perform call bytes m t).answer.first (bytes_after call bytes m t) else []

abbrev pub seen_of : (ℕ → Bool) → State → Item → Seen
seen_of chosen s x =
    record {
      answer = seen_answer chosen x.call (outcome_in s x).answer;
      counters = counted x.call (outcome_in s x).answer.refusal s.counters;
      report = report_by x.call x.bytes s.machine (lent_to x s.own);
    }

-- what is seen of a list, but for the words read from the chosen names
unfoldable pub seen : (ℕ → Bool) → State → List Item → List Seen
seen chosen s [] = []
seen chosen s (x ∷ xs) = seen_of chosen s x ∷ seen chosen (next s x) xs
