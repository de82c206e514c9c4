-- One item of a list. Assumes nothing.
--     refused_item    an item that is refused leaves everything but the counters as it was, whatever it is lent
--     item_cases      an item of an admitted list is refused, or is no boot and lent the boot's own tables
use Rattle.std.proofs.Common.{◌≡◌, ℕ, Bool, true, false, not, ◌&&◌, ◌||◌, List, sym, refl, ap, ◌∙◌, true≢false}
use borrow.Author.Tests.{not-true, eqb-false}
use Rattle.search.proofs.Bools.{by_cases, and_left, and_right}
use Rattle.frames.specs.Tables.{Tables, tables}
use Rattle.rules.specs.declared.Call.{Call}
use Rattle.rules.specs.declared.Counters.{Counters}
use Rattle.rules.specs.Counters.{counted}
use Rattle.rules.specs.Ledger.Roles.{role_of, fed}
use Rattle.rules.specs.Ledger.Lists.{Source, own, another, Item, item_with, State, is_refused, lent_as, kept_as, lent_to, outcome_in, own_after, next, is_own, may_pass}
use Rattle.rules.proofs.Promises.Unchanged.{refusal_changes_nothing}

-- a table that is left as it was lent
kept_as_lem : (l : Source) (was : List ℕ) → kept_as l was (lent_as l was) ≡ was
kept_as_lem own was = refl
kept_as_lem (another table) was = refl

own_kept : (x : Item) (was : Tables) → own_after x was (lent_to x was) ≡ was
own_kept x was = λ i.
    tables (kept_as_lem x.marks was.marks i) (kept_as_lem x.words was.words i) (kept_as_lem x.bitmap was.bitmap i)
    (kept_as_lem x.owners was.owners i)

-- a state with other counters
abbrev pub with_counters : State → Counters → State
with_counters s c = record { machine = s.machine; counters = c; own = s.own; ledger = s.ledger }

-- the counters after an item
abbrev pub counters_after : State → Item → Counters
counters_after s x = counted x.call (outcome_in s x).answer.refusal s.counters

pub refused_item : (s : State) (x : Item) → is_refused (outcome_in s x) ≡ true → next s x ≡ with_counters s (counters_after s x)
unfolding next
refused_item s x e =
    let o = outcome_in s x in
    let same = refusal_changes_nothing x.call x.bytes s.machine s.counters (lent_to x s.own) (eqb-false o.answer.refusal 0 (not-true _ e)) in
    let kept : own_after x s.own o.left ≡ s.own = ap (own_after x s.own) same.1 ∙ own_kept x s.own in
    let told = ap (λ (b : Bool). fed x.call b o.answer.first s.ledger) e in
    λ i. record { machine = same.0 i; counters = counters_after s x; own = kept i; ledger = told i }

own_is : (l : Source) → is_own l ≡ true → l ≡ own
own_is own e = refl
own_is (another table) e = absurd (true≢false (sym e))

passing :
    (P : Item → Type 0) (c : Call) (bytes : List ℕ) (marks words bitmap owners : Source) →
    let x = item_with c bytes marks words bitmap owners in
    may_pass x ≡ true → ((role_of c).is_boot ≡ false → P (item_with c bytes own own own own)) → P x
passing P c bytes marks words bitmap owners e passes =
    let last = not (role_of c).is_boot && is_own marks && is_own words in
    let three = and_left (last && is_own bitmap) (is_own owners) e in
    let first = and_left last (is_own bitmap) three in
    let two = not (role_of c).is_boot && is_own marks in
    let both = and_left two (is_own words) first in
    rw (
      own_is marks (and_right (not (role_of c).is_boot) (is_own marks) both),
      own_is words (and_right two (is_own words) first),
      own_is bitmap (and_right last (is_own bitmap) three),
      own_is owners (and_right (last && is_own bitmap) (is_own owners) e),
    ) (passes (not-true (role_of c).is_boot (and_left (not (role_of c).is_boot) (is_own marks) both)))

-- what holds of an item that is refused, and of a call that is no boot and is lent the boot's own tables, holds of an admitted item
pub item_cases :
    (P : Item → Type 0) (s : State) (x : Item) →
    (is_refused (outcome_in s x) || may_pass x) ≡ true →
    (is_refused (outcome_in s x) ≡ true → P x) → ((role_of x.call).is_boot ≡ false → P (item_with x.call x.bytes own own own own)) → P x
item_cases P s x e refused passes =
    by_cases (is_refused (outcome_in s x)) refused
    (λ n. passing P x.call x.bytes x.marks x.words x.bitmap x.owners (ap (λ (b : Bool). b || may_pass x) (sym n) ∙ e) passes)
