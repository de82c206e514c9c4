-- The difference between two readings of a counter, part (6) of demand 3: each grant of a list that is answered so raises it by one, modulo 2^32, and
-- no other call of an admitted list changes it. Assumes nothing.
--     Small             the counters are numbers of 32 bits
--     counters_right    the statement
use Rattle.std.proofs.Common.{◌≡◌, ℕ, ◌+◌, ◌%◌, ◌<◌, ◌≤◌, Bool, true, false, not, ◌&&◌, ◌||◌, eqb, List, [], ◌∷◌, ◌++◌, length, sym, refl, ap, ◌∙◌, arith}
use Rattle.std.specs.Prelude.{if◌then◌else◌}
use borrow.Author.Tests.{not-true}
use Rattle.search.proofs.Bools.{by_cases, and_left, and_right, and_both}
use Rattle.rules.specs.declared.Call.{Call}
use Rattle.rules.specs.declared.Counters.{Counters}
use Rattle.rules.specs.Counters.{after_grant, counted, since}
use Rattle.rules.specs.Ledger.Roles.{role_of}
use Rattle.rules.specs.Ledger.Lists.{Item, State, is_refused, outcome_in, next, after, may_pass, admitted, grants_answered, is_done, is_counted_refusal}
use Rattle.rules.specs.Ledger.Statement.{CountersRight}

pub record Small (c : Counters) : Type 0 where
  pub granted : c.granted < 4294967296
  pub refused : c.refused < 4294967296

abbrev one : Bool → ℕ
one b = if b then 1 else 0

-- what a call that is no accepted boot does to the counters
pub record Counted (call : Call) (number : ℕ) (c c' : Counters) : Type 0 where
  pub granted : c'.granted ≡ (c.granted + one ((role_of call).is_grant && is_done number)) % 4294967296
  pub refused : c'.refused ≡ (c.refused + one ((role_of call).is_grant && is_counted_refusal number)) % 4294967296

counts : (call : Call) (number : ℕ) (c : Counters) → Small c → (eqb number 0 ≡ true → (role_of call).is_boot ≡ false) → Counted call number c (counted call number c)
unfolding after_grant
counts call number c small boot =
    let a = small.granted in
    let b = small.refused in
    by_cases (role_of call).is_grant
    (λ g.
    by_cases (eqb number 0)
    (λ y. record { granted = rw (g, y); refused = rw (g, y) (omega arith) })
    (λ n.
    by_cases (eqb number 1)
    (λ y. record { granted = rw (g, n, y) (omega arith); refused = rw (g, n, y) (omega arith) })
    (λ k. record { granted = rw (g, n, k) (omega arith); refused = rw (g, n, k) })))
    (λ g.
    by_cases (eqb number 0)
    (λ y. record { granted = rw (g, boot y) (omega arith); refused = rw (g, boot y) (omega arith) })
    (λ n.
    by_cases (role_of call).is_boot
    (λ y. record { granted = rw (g, y, n) (omega arith); refused = rw (g, y, n) (omega arith) })
    (λ y. record { granted = rw (g, y) (omega arith); refused = rw (g, y) (omega arith) })))

-- ---- one item

-- an accepted item of an admitted list is no boot
no_boot : (s : State) (x : Item) → (is_refused (outcome_in s x) || may_pass x) ≡ true → eqb (outcome_in s x).answer.refusal 0 ≡ true → (role_of x.call).is_boot ≡ false
no_boot s x ok e =
    let passes = ap (λ (b : Bool). not b || may_pass x) (sym e) ∙ ok in
    not-true (role_of x.call).is_boot (first_of_five _ _ _ _ _ passes)
  where
    first_of_five : (a b c d e : Bool) → (a && b && c && d && e) ≡ true → a ≡ true
    first_of_five a b c d e h = and_left a b (and_left (a && b) c (and_left (a && b && c) d (and_left (a && b && c && d) e h)))

item_counts :
    (s : State) (x : Item) →
    Small s.counters →
    (is_refused (outcome_in s x) || may_pass x) ≡ true → Counted x.call (outcome_in s x).answer.refusal s.counters (next s x).counters
unfolding next
item_counts s x small ok = counts x.call (outcome_in s x).answer.refusal s.counters small (no_boot s x ok)

-- ---- a list

record Summed (s : State) (items : List Item) : Type 0 where
  pub granted : (after s items).counters.granted ≡ (s.counters.granted + grants_answered is_done s items) % 4294967296
  pub refused : (after s items).counters.refused ≡ (s.counters.refused + grants_answered is_counted_refusal s items) % 4294967296

list_counts : (items : List Item) (s : State) → Small s.counters → admitted s items ≡ true → Summed s items
unfolding after admitted grants_answered
list_counts [] s small ok = let a = small.granted in let b = small.refused in record { granted = omega arith; refused = omega arith }
list_counts (x ∷ xs) s small ok =
    let head = is_refused (outcome_in s x) || may_pass x in
    let step = item_counts s x small (and_left head (admitted (next s x) xs) ok) in
    let a = step.granted in
    let b = step.refused in
    let small' : Small (next s x).counters = record { granted = omega arith; refused = omega arith } in
    let rest = list_counts xs (next s x) small' (and_right head (admitted (next s x) xs) ok) in
    let c = rest.granted in
    let d = rest.refused in
    record { granted = omega arith; refused = omega arith }

few : (test : ℕ → Bool) (items : List Item) (s : State) → grants_answered test s items ≤ length items
unfolding grants_answered
few test [] s = omega arith
few test (x ∷ xs) s =
    let rest = few test xs (next s x) in
    by_cases ((role_of x.call).is_grant && test (outcome_in s x).answer.refusal) (λ y. rw y (omega arith)) (λ n. rw n (omega arith))

-- ---- a list in two parts

after_both : (xs ys : List Item) (s : State) → after s (xs ++ ys) ≡ after (after s xs) ys
unfolding after
after_both [] ys s = refl
after_both (x ∷ xs) ys s = after_both xs ys (next s x)

admitted_both : (xs ys : List Item) (s : State) → admitted s (xs ++ ys) ≡ true → (admitted s xs ≡ true) × (admitted (after s xs) ys ≡ true)
unfolding after admitted
admitted_both [] ys s ok = (refl, ok)
admitted_both (x ∷ xs) ys s ok =
    let head = is_refused (outcome_in s x) || may_pass x in
    let rest = admitted_both xs ys (next s x) (and_right head (admitted (next s x) (xs ++ ys)) ok) in
    (and_both head (admitted (next s x) xs) (and_left head (admitted (next s x) (xs ++ ys)) ok) rest.0, rest.1)

-- k more, modulo 2^32, is k more: the difference across a wrap
wraps_back : (earlier later k : ℕ) → earlier < 4294967296 → k < 4294967296 → later ≡ (earlier + k) % 4294967296 → since later earlier ≡ k
unfolding since
wraps_back earlier later k a b e = omega arith

-- both readings, from the start of the list on
record Readings (start : State) (before between : List Item) : Type 0 where
  pub granted : since (after start (before ++ between)).counters.granted (after start before).counters.granted ≡ grants_answered is_done (after start before) between
  pub refused :
      since (after start (before ++ between)).counters.refused (after start before).counters.refused ≡
      grants_answered is_counted_refusal (after start before) between

readings :
    (start : State) (before between : List Item) →
    Small start.counters → admitted start (before ++ between) ≡ true → length between < 4294967296 → Readings start before between
readings start before between small ok short =
    let both = admitted_both before between start ok in
    let first = list_counts before start small both.0 in
    let a = first.granted in
    let b = first.refused in
    let small' : Small (after start before).counters = record { granted = omega arith; refused = omega arith } in
    let later = list_counts between (after start before) small' both.1 in
    let c = few is_done between (after start before) in
    let d = few is_counted_refusal between (after start before) in
    let end = after_both before between start in
    record {
      granted =
          wraps_back _ _ _ small'.granted (omega arith) (ap (λ (s : State). s.counters.granted) end ∙ later.granted);
      refused =
          wraps_back _ _ _ small'.refused (omega arith) (ap (λ (s : State). s.counters.refused) end ∙ later.refused);
    }

pub counters_right : (start : State) (items : List Item) → Small start.counters → admitted start items ≡ true → CountersRight start items
counters_right start items small ok =
    record {
      granted = λ before between e short. rw e (readings start before between small (ap (admitted start) (sym e) ∙ ok) short).granted;
      refused = λ before between e short. rw e (readings start before between small (ap (admitted start) (sym e) ∙ ok) short).refused;
    }
