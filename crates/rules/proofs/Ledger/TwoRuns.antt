-- Two runs of the same calls, that differ only in words stored to chosen names and in the bytes of reports' buffers, agree: part (8) of demand 3.
-- Assumes nothing.
use Rattle.std.proofs.Common.{◌≡◌, ℕ, Bool, true, false, not, ◌&&◌, ◌||◌, eqb, List, [], ◌∷◌, length, take, sym, refl, ap, ◌∙◌, subst, eqb-true}
use borrow.Author.Tests.{eqb-false}
use Rattle.std.specs.Prelude.{if◌then◌else◌}
use Rattle.search.proofs.Bools.{by_cases, clash, and_left, and_right}
use Rattle.answer.specs.declared.Answer.{Answer}
use Rattle.frames.specs.Tables.{Tables}
use Rattle.rules.specs.declared.Call.{Call}
use Rattle.rules.specs.declared.Counters.{Counters}
use Rattle.rules.specs.declared.Record.{Record}
use Rattle.rules.specs.Counters.{counted}
use Rattle.rules.specs.Report.{used_of, max_chunk, report_of, report, reported}
use Rattle.rules.specs.Calls.{perform}
use Rattle.rules.specs.Ledger.Roles.{role_of}
use Rattle.rules.specs.Ledger.Lists.{Source, own, another, Item, item_with, State, is_refused, lent_as, lent_to, outcome_in, next, may_pass, admitted, SameCall, same, other_word, other_buffer, SameList, none, more, seen_answer, report_by, seen_of, seen}
use Rattle.rules.proofs.Promises.Numbers.{refusal_has_zeros}
use Rattle.rules.proofs.Promises.Reports.{accepted_report}
use Rattle.rules.proofs.Promises.Unchanged.{only_report}
use Rattle.rules.proofs.Ledger.Items.{counters_after, refused_item, item_cases}
use Rattle.rules.proofs.Ledger.OtherWords.{Alike, alike_words}
use Rattle.rules.proofs.Ledger.CallsAlike.{RefusedAlike, refused_alike, own_alike}

-- the runs' records and counters are the same, and their own tables differ only in hidden words
pub record StatesAlike (hides : ℕ → Bool) (s s' : State) : Type 0 where
  pub machine : s'.machine ≡ s.machine
  pub counters : s'.counters ≡ s.counters
  pub own : Alike hides s.own s'.own

record ItemsAlike (hides : ℕ → Bool) (s s' : State) (x y : Item) : Type 0 where
  pub seen : seen_of hides s x ≡ seen_of hides s' y
  pub states : StatesAlike hides (next s x) (next s' y)

-- the item of the other run: another call with its bytes that is lent the same
abbrev with_call : Item → Call → List ℕ → Item
with_call x d bytes = item_with d bytes x.marks x.words x.bitmap x.owners

-- ---- what is seen of a call besides its answer

-- a hidden word is no refusal
seen_refusal : (hides : ℕ → Bool) (c : Call) (a : Answer) → (seen_answer hides c a).refusal ≡ a.refusal
seen_refusal hides c a = by_cases ((role_of c).reads hides) (λ e. rw e) (λ e. rw e)

counted_same :
    (hides : ℕ → Bool) {c d : Call} {bytes bytes' : List ℕ} →
    SameCall hides c bytes d bytes' → (number : ℕ) (k : Counters) → counted c number k ≡ counted d number k
counted_same hides (same c bytes) number k = refl
counted_same hides (other_word name word word' bytes e) number k = refl
counted_same hides (other_buffer bytes bytes' e) number k = refl

both_report : (hides : ℕ → Bool) {c d : Call} {bytes bytes' : List ℕ} → SameCall hides c bytes d bytes' → (role_of c).is_report ≡ (role_of d).is_report
both_report hides (same c bytes) = refl
both_report hides (other_word name word word' bytes e) = refl
both_report hides (other_buffer bytes bytes' e) = refl

-- the bytes that a report wrote, as many as it answers
report_front : (bytes : List ℕ) (m : Record) (t : Tables) →
    take (report m bytes t).answer.first (reported m bytes t) ≡ (if eqb (report m bytes t).answer.refusal 0 then report_of m t else [])
report_front bytes m t =
    by_cases (eqb (report m bytes t).answer.refusal 0)
    (λ e.
    let writes = accepted_report m bytes t (eqb-true (report m bytes t).answer.refusal 0 e) in
    rw e (ap (λ (a : Answer). take a.first (reported m bytes t)) writes.answers ∙ writes.front))
    (λ e.
    let zeros =
    refusal_has_zeros Call.Report bytes m t (λ base frames block_order k. clash true refl (sym (ap (λ (c : Call). (role_of c).is_boot) k)))
    (eqb-false (report m bytes t).answer.refusal 0 e)
    in
    rw e (ap (λ (n : ℕ). take n (reported m bytes t)) zeros.0))

-- the bytes that are seen are an accepted report's
abbrev report_if : Bool → ℕ → List ℕ → List ℕ
report_if is_report number bytes = if is_report && eqb number 0 then bytes else []

report_is :
    (c : Call) (bytes : List ℕ) (m : Record) (t : Tables) →
    report_by c bytes m t ≡ report_if (role_of c).is_report (perform c bytes m t).answer.refusal (report_of m t)
report_is c bytes m t =
    by_cases (role_of c).is_report
    (λ y.
    only_report (λ x. report_by x bytes m t ≡ report_if (role_of x).is_report (perform x bytes m t).answer.refusal (report_of m t)) c y
    (report_front bytes m t))
    (λ n. rw n)

-- a report looks at no word
report_words :
    (hides : ℕ → Bool) (m : Record) (x : Item) (d : Call) (bytes : List ℕ) (t t' : Tables) →
    Alike hides t t' → report_of m (lent_to x t) ≡ report_of m (lent_to (with_call x d bytes) t')
unfolding report_of used_of max_chunk
report_words hides m x d bytes t t' a =
    alike_words hides t t' (λ k. report_of m (lent_to x t) ≡ report_of m (lent_to (with_call x d bytes) k)) a (λ words k. refl)

-- ---- an item in both runs, from what its answers show
module _ (hides : ℕ → Bool) (s s' : State) (x : Item) (d : Call) (bytes' : List ℕ) (alike : StatesAlike hides s s') (call : SameCall hides x.call x.bytes d bytes') where
  abbrev y : Item
  y = with_call x d bytes'

  module _ (answers : seen_answer hides x.call (outcome_in s x).answer ≡ seen_answer hides d (outcome_in s' y).answer) where
    same_refusal : (outcome_in s x).answer.refusal ≡ (outcome_in s' y).answer.refusal
    same_refusal =
        sym (seen_refusal hides x.call (outcome_in s x).answer) ∙
        ap (λ (a : Answer). a.refusal) answers ∙
        seen_refusal hides d (outcome_in s' y).answer

    same_counters : counters_after s x ≡ counters_after s' y
    same_counters =
        counted_same hides call (outcome_in s x).answer.refusal s.counters ∙
        ap (λ (n : ℕ). counted d n s.counters) same_refusal ∙
        ap (counted d (outcome_in s' y).answer.refusal) (sym alike.counters)

    same_report : report_by x.call x.bytes s.machine (lent_to x s.own) ≡ report_by d bytes' s'.machine (lent_to y s'.own)
    same_report =
        report_is x.call x.bytes s.machine (lent_to x s.own) ∙
        ap (λ (b : Bool). report_if b (outcome_in s x).answer.refusal (report_of s.machine (lent_to x s.own))) (both_report hides call) ∙
        ap (λ (n : ℕ). report_if (role_of d).is_report n (report_of s.machine (lent_to x s.own))) same_refusal ∙
        ap (report_if (role_of d).is_report (outcome_in s' y).answer.refusal)
        (report_words hides s.machine x d bytes' s.own s'.own alike.own ∙
        ap (λ (m : Record). report_of m (lent_to y s'.own)) (sym alike.machine)) ∙
        sym (report_is d bytes' s'.machine (lent_to y s'.own))

    seen_alike : seen_of hides s x ≡ seen_of hides s' y
    seen_alike = λ i. record { answer = answers i; counters = same_counters i; report = same_report i }

-- ---- an item that is refused: nothing but the counters changes in either run

lent_length : (l : Source) (was was' : List ℕ) → length was' ≡ length was → length (lent_as l was') ≡ length (lent_as l was)
lent_length own was was' e = e
lent_length (another table) was was' e = refl

seen_same :
    (hides : ℕ → Bool) {c d : Call} {bytes bytes' : List ℕ} → SameCall hides c bytes d bytes' → (a : Answer) → seen_answer hides c a ≡ seen_answer hides d a
seen_same hides (same c bytes) a = refl
seen_same hides (other_word name word word' bytes e) a = refl
seen_same hides (other_buffer bytes bytes' e) a = refl

refused_items :
    (hides : ℕ → Bool) (s s' : State) (x : Item) {d : Call} {bytes' : List ℕ} →
    StatesAlike hides s s' →
    SameCall hides x.call x.bytes d bytes' → is_refused (outcome_in s x) ≡ true → ItemsAlike hides s s' x (with_call x d bytes')
refused_items hides s s' x {d} {bytes'} alike call e =
    let y = with_call x d bytes' in
    let refused : RefusedAlike (outcome_in s x) (outcome_in s' y) =
    subst (λ (m : Record). RefusedAlike (outcome_in s x) (perform d bytes' m (lent_to y s'.own))) (sym alike.machine)
    (alike_words hides s.own s'.own (λ t. RefusedAlike (outcome_in s x) (perform d bytes' s.machine (lent_to y t))) alike.own
    (λ words k.
    refused_alike s.machine (lent_to x s.own) (lent_as x.words words) (lent_length x.words s.own.words words k.lengths) call))
    in
    let same_answer = refused e in
    let refused' : is_refused (outcome_in s' y) ≡ true = ap (λ (a : Answer). not (eqb a.refusal 0)) same_answer ∙ e in
    let answers = seen_same hides call (outcome_in s x).answer ∙ ap (seen_answer hides d) (sym same_answer) in
    record {
      seen = seen_alike hides s s' x d bytes' alike call answers;
      states =
          rw (refused_item s x e, refused_item s' y refused')
          (record { machine = alike.machine; counters = sym (same_counters hides s s' x d bytes' alike call answers); own = alike.own });
    }

-- ---- a call on the runs' own tables

own_items :
    (hides : ℕ → Bool) (s s' : State) {c d : Call} {bytes bytes' : List ℕ} →
    StatesAlike hides s s' →
    SameCall hides c bytes d bytes' →
    (role_of c).is_boot ≡ false → ItemsAlike hides s s' (item_with c bytes own own own own) (item_with d bytes' own own own own)
unfolding next
own_items hides s s' {c} {d} {bytes} {bytes'} alike call e =
    let x = item_with c bytes own own own own in
    let both = own_alike hides s.machine s'.machine s.own s'.own call e alike.machine alike.own in
    record {
      seen = seen_alike hides s s' x d bytes' alike call both.answer;
      states = record {
        machine = both.machine;
        counters = sym (same_counters hides s s' x d bytes' alike call both.answer);
        own = both.left;
      };
    }

-- ---- the lists

pub lists_agree :
    (hides : ℕ → Bool) {xs ys : List Item} →
    SameList hides xs ys →
    (s s' : State) → StatesAlike hides s s' → admitted s xs ≡ true → seen hides s xs ≡ seen hides s' ys
unfolding seen admitted
lists_agree hides none s s' alike ok = refl
lists_agree hides (more {c = c} {d = d} {bytes = bytes} {bytes' = bytes'} {marks = marks} {words = words} {bitmap = bitmap} {owners = owners} {xs = xs} {ys = ys} call rest) s s' alike ok =
    let x = item_with c bytes marks words bitmap owners in
    let y = item_with d bytes' marks words bitmap owners in
    let head = is_refused (outcome_in s x) || may_pass x in
    let both =
    item_cases (λ z. SameCall hides z.call z.bytes d bytes' → ItemsAlike hides s s' z (with_call z d bytes')) s x
    (and_left head (admitted (next s x) xs) ok) (λ e k. refused_items hides s s' x alike k e) (λ e k. own_items hides s s' alike k e) call
    in
    let tail : seen hides (next s x) xs ≡ seen hides (next s' y) ys =
    lists_agree hides rest (next s x) (next s' y) both.states (and_right head (admitted (next s x) xs) ok)
    in
    λ i. both.seen i ∷ tail i
