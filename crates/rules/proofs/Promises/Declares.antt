-- What an accepted declare does. Assumes nothing.
use Rattle.std.proofs.Common.{◌≡◌, ℕ, ◌+◌, ◌*◌, ◌/◌, ◌<◌, ◌≤◌, Bool, not, ◌&&◌, ltb, ◌≢◌, sym, refl, ap, ◌∙◌, subst, arith, ltb-false}
use Rattle.std.specs.Prelude.{if◌then◌else◌}
use Rattle.search.proofs.Bools.{by_cases, below_or_not}
use Rattle.answer.specs.declared.Answer.{Answer}
use Rattle.answer.specs.Answers.{done}
use Rattle.frames.specs.declared.Area.{Area}
use Rattle.frames.specs.Areas.{word_count}
use Rattle.frames.specs.Tables.{Tables}
use Rattle.frames.proofs.AreaNumbers.{area_set_same, area_set_other, length_set_area}
use Rattle.frames.proofs.FillFacts.{length_fill, get_d_fill_in, get_d_fill_below, get_d_fill_above}
use Rattle.rules.specs.declared.Request.{Request}
use Rattle.rules.specs.declared.Record.{Record}
use Rattle.rules.specs.Declare.{alignment_for, base_for, size_for, is_fixed, limit_for, area_for, highest_fit, start_for, declare_checks, declare}
use Rattle.rules.specs.Limits.{page_bytes}
use Rattle.rules.specs.Outcomes.{Outcome, Passed}
use Rattle.rules.specs.Shape.{words_needed}
use Rattle.rules.specs.Promises.Pages.{FreeOrdinary}
use Rattle.rules.specs.Promises.Rounded.{Divides, RoundedUp}
use Rattle.rules.specs.Promises.Declares.{AtBase, Anywhere, Judged, Highest, DeclareKeepsToLimit, DeclareDoes, AcceptedDeclare}
use Rattle.rules.proofs.Checks.{checked_cases, checked_passed}
use Rattle.rules.proofs.Rounding.{Amounts, in_pages, limit_given}
use Rattle.rules.proofs.Placed.{Placed, placed, Declarable, declarable}
use Rattle.rules.proofs.Promises.HighestPlace.{declare_takes_highest}
use Rattle.rules.proofs.Says.{says_and, says_not, says_eqb}
use Rattle.rules.proofs.Promises.Places.{judged_amounts, at_base, anywhere}
use Rattle.rules.proofs.Promises.PlaceTests.{free_ordinary_lem}
use Rattle.rules.proofs.Promises.Rounded.{amounts_round}

-- the area of a declare that passed its checks
module _ (m : Record) (r : Request) (t : Tables) (c : Passed (declare_checks m r t)) where
  abbrev A : ℕ
  A = alignment_for m r

  abbrev a : Area
  a = area_for m r t

  judged : Judged m r t
  judged =
      record {
        shape = c.0;
        room = c.1.0;
        amounts = c.1.1.0;
        per_bit = c.1.1.1.0;
        limit = c.1.1.1.1.0;
        within = c.1.1.1.1.1.0;
        bitmap = c.1.1.1.1.1.1.0;
      }

  rounded : Amounts m r
  rounded = judged_amounts m r t judged

  stands : Placed m r t
  stands = placed m r t judged.amounts c.1.1.1.1.1.1.1.0 c.1.1.1.1.1.1.1.1.0 c.1.1.1.1.1.1.1.1.1.0

  pub right : Declarable m r t
  right = declarable m r t judged.room judged.amounts judged.per_bit judged.bitmap stands

  size : RoundedUp r.size A (a.count * 4096)
  size = subst (RoundedUp r.size A) rounded.size_pages (amounts_round m r).size

  -- its first byte is where it begins
  first_byte : (at : ℕ) → at * A / page_bytes ≡ a.base.0 → a.base.0 * 4096 ≡ at * A
  first_byte at e = ap (λ (x : ℕ). x * page_bytes) (sym e) ∙ sym (in_pages at A m.memory.block_order rounded.blocks)

  first : Divides A (a.base.0 * 4096)
  first = (stands.at, first_byte stands.at (ap (λ (x : ℕ). x / page_bytes) (sym stands.is)))

  vacant : (p : ℕ) → a.base.0 ≤ m.memory.base.0 + p → m.memory.base.0 + p < a.base.0 + a.count → FreeOrdinary m t p
  vacant p low high =
      let begins = right.right.low in
      let ends = right.right.high in
      (free_ordinary_lem m t p (omega arith)).fact (right.vacant p (omega arith) (omega arith))

  at_start : AtBase m r → start_for m r t ≡ base_for m r
  at_start w = ap (λ (b : Bool). if b then base_for m r else highest_fit m r t * A) ((at_base m r).test w)

  begins : AtBase m r → RoundedUp r.base A (a.base.0 * 4096)
  begins w =
      subst (RoundedUp r.base A) (rounded.base_pages ∙ ap (λ (x : ℕ). x / page_bytes * page_bytes) (sym (at_start w))) (amounts_round m r).base

  highest : Anywhere m r → (c : ℕ) × Highest m r t c × (a.base.0 * 4096 ≡ c * A)
  unfolding declare
  highest w =
      let h = ((declare_takes_highest m r t judged w).0.accepted a.base.0 a.count).0 (ap (λ (o : Outcome). o.answer) (checked_passed m t _ _ c)) in
      (h.0, h.1, first_byte h.0 h.2)

  -- where a fixed one ends
  fixed_reach : r.limit ≢ 0 → AtBase m r → (a.base.0 + a.count) * 4096 ≤ limit_for m r
  fixed_reach given w =
      let ends : base_for m r + size_for m r ≤ limit_for m r =
      ltb-false _ _ (sym (ap (λ (b : Bool). b && ltb (limit_for m r) (base_for m r + size_for m r)) ((says_and (at_base m r) (λ _. says_not (says_eqb r.limit 0))).test (w, given))) ∙ judged.within)
      in
      omega (arith, at_start w, rounded.base_pages, rounded.size_pages)

  reach : r.limit ≢ 0 → (a.base.0 + a.count) * 4096 ≤ r.limit
  reach given =
      let low = limit_given m r given judged.limit in
      by_cases (is_fixed m r) (λ e. omega (arith, fixed_reach given ((at_base m r).fact e)))
      (λ e.
      let h = highest ((anywhere m r).fact (ap not e)) in
      omega (arith, h.2, h.1.allowed.below_limit, rounded.size_pages))

pub declare_keeps_to_limit : DeclareKeepsToLimit
unfolding declare
declare_keeps_to_limit m r t f n given =
    checked_cases (λ o. o.answer ≡ done f n → (f + n) * 4096 ≤ r.limit) m t (declare_checks m r t) _ refl
    (λ number some e. absurd (let z : number ≡ 0 = ap (λ (x : Answer). x.refusal) e in omega arith))
    (λ c e.
    let first : (area_for m r t).base.0 ≡ f = ap (λ (x : Answer). x.first) e in
    let count : (area_for m r t).count ≡ n = ap (λ (x : Answer). x.second) e in
    omega (arith, reach m r t c given))

pub accepted_declare : AcceptedDeclare
unfolding declare
accepted_declare m r t records =
    checked_cases (λ o. o.answer.refusal ≡ 0 → (a : Area) × DeclareDoes m r t o a) m t (declare_checks m r t) _ refl (λ number some e. absurd (omega arith))
    (λ c e.
    let a = area_for m r t in
    let from = words_needed m in
    let d = right m r t c in (
      a,
      record {
        answer = refl;
        per_bit = refl;
        size = size m r t c;
        some = d.right.some;
        first = first m r t c;
        low = d.right.low;
        high = d.right.high;
        vacant = vacant m r t c;
        at_base = begins m r t c;
        at_highest = highest m r t c;
        new_area = area_set_same m.areas m.memory.declared a (omega (arith, records, d.more));
        other_areas = λ i other. area_set_other m.areas m.memory.declared a i other;
        as_many = length_set_area m.areas m.memory.declared a;
        one_more = refl;
        same_base = refl;
        same_frames = refl;
        same_order = refl;
        room = d.room;
        new_bits = λ w low high. get_d_fill_in 0 t.bitmap from (word_count a) w low high (omega (arith, d.room));
        other_bits = λ w other.
            below_or_not w from (λ below. get_d_fill_below 0 t.bitmap from (word_count a) w below)
            (λ low. below_or_not w (from + word_count a) (λ high. absurd (other low high)) (λ above. get_d_fill_above 0 t.bitmap from (word_count a) w above));
        same_length = length_fill 0 t.bitmap from (word_count a);
        marks = refl;
        words = refl;
        owners = refl;
      },
    ))
