-- A call keeps the invariant, and a pinned page its frame. Assumes nothing.
--     Kept            what is proved of each call's outcome
--     kept_refused    a refusal changes nothing
--     pin_stays       a page that is pinned before and after, and whose mark did not change, keeps its frame
--     sound_page      one frame and one name change, and no granted mark
--     done_kept       a call that is done, from the invariant after it and the pinned pages' places
use Rattle.std.proofs.Common.{◌≡◌, ℕ, ◌+◌, ◌<◌, Bool, true, false, not, ◌&&◌, ◌≢◌, sym, refl, ap, ◌∙◌, subst, arith, length-set, ne_eqb}
use Rattle.std.specs.Prelude.{if◌then◌else◌}
use Rattle.search.proofs.Bools.{clash}
use Rattle.frames.specs.Units.{place}
use Rattle.frames.specs.Marks.{has_kind, is_page_of, is_granted, pinned}
use Rattle.frames.specs.Tables.{Tables, mark_at, set_page}
use Rattle.rules.specs.declared.Call.{Call}
use Rattle.rules.specs.declared.Record.{Record}
use Rattle.answer.specs.Answers.{done}
use Rattle.rules.specs.Outcomes.{Outcome, outcome, refuse}
use Rattle.rules.specs.PageCalls.{page_at}
use Rattle.rules.proofs.Shapes.{Shape, shape_known}
use Rattle.rules.specs.Ledger.Ledger.{Ledger, with_page}
use Rattle.rules.specs.Ledger.Roles.{role_of, fed}
use Rattle.rules.specs.Ledger.Lists.{is_refused}
use Rattle.rules.specs.Steps.Invariant.{PlaceSound, NameSound, Sound}
use Rattle.rules.proofs.Ledger.Tables.{OneChange, set_one}
use Rattle.rules.proofs.ShapeFacts.{shape_lengths}
use Rattle.rules.proofs.Ledger.Names.{page_place, same_or_not, update_other, PageChange, names_change}
use Rattle.rules.proofs.Ledger.BitsSound.{bits_kept}
use Rattle.rules.proofs.Ledger.Grants.{GrantsKept, granted_same, grant_kept, total_kept}

-- the ledger after a call
abbrev pub ledger_after : Call → Outcome → Ledger → Ledger
ledger_after c o l = fed c (is_refused o) o.answer.first l

-- a page that was pinned, and stands where it stood. An accepted pin of the page itself is the only call that need not leave it so
pub record Stays (m : Record) (t : Tables) (l : Ledger) (o : Outcome) (name : ℕ) : Type 0 where
  pub was_pinned : l.pinned name ≡ true
  pub frames : o.machine.memory.frames ≡ m.memory.frames
  pub base : o.machine.memory.base.0 ≡ m.memory.base.0
  pub place : page_at o.machine o.left name ≡ page_at m t name

pub record Kept (c : Call) (m : Record) (t : Tables) (l : Ledger) (o : Outcome) : Type 0 where
  pub sound : Sound o.machine o.left (ledger_after c o l)
  pub pins : (name : ℕ) → ((role_of c).pins name && not (is_refused o)) ≡ false → (ledger_after c o l).pinned name ≡ true → Stays m t l o name

pub refused_number : (m : Record) (t : Tables) (number : ℕ) → 0 < number → is_refused (refuse m t number) ≡ true
refused_number m t number h = ap not (ne_eqb number 0 (omega arith))

pub kept_refused : (c : Call) (m : Record) (t : Tables) (l : Ledger) → Sound m t l → (number : ℕ) → 0 < number → Kept c m t l (refuse m t number)
kept_refused c m t l s number h =
    let same : ledger_after c (refuse m t number) l ≡ l = ap (λ (b : Bool). fed c b 0 l) (refused_number m t number h) in
    record {
      sound = rw same s;
      pins = λ name e p. record { was_pinned = sym (ap (λ (x : Ledger). x.pinned name) same) ∙ p; frames = refl; base = refl; place = refl };
    }

pub pin_stays :
    (m m' : Record) (t t' : Tables) (l l' : Ledger) (name : ℕ) →
    NameSound m t l name →
    NameSound m' t' l' name →
    m'.memory.frames ≡ m.memory.frames →
    l.pinned name ≡ true →
    l'.pinned name ≡ true →
    ((p : ℕ) → p < m.memory.frames → is_page_of name (mark_at t (place p)) ≡ true → has_kind pinned (mark_at t (place p)) ≡ true → mark_at t' (place p) ≡ mark_at t (place p)) →
    page_at m' t' name ≡ page_at m t name
pin_stays m m' t t' l l' name s s' same a b unmoved =
    let page = s.standing (s.pinned_live a) in
    let page' = s'.standing (s'.pinned_live b) in
    let mark = unmoved page.at page.inside page.here (page.pinned ∙ a) in
    let at : page.at ≡ page'.at = page'.only page.at (rw same page.inside) (ap (is_page_of name) mark ∙ page.here) in
    page_place m' t' name page'.at page'.inside page'.here page'.only ∙
    ap place (sym at) ∙
    sym (page_place m t name page.at page.inside page.here page.only)

module _ (m : Record) (t : Tables) (l : Ledger) (s : Sound m t l) (p mark word name : ℕ) (live is_pinned : Bool) (entered : ℕ) (c : PageChange m t p mark word name live is_pinned entered) where
  abbrev t' : Tables
  t' = set_page t (place p) mark word

  shaped : Shape m t
  shaped = shape_known m t s.shape

  one : OneChange t t' p mark word
  one = set_one t p mark word (rw shaped.marks_length c.inside) (rw shaped.words_length c.inside)

  module _ (was : is_granted (mark_at t (place p)) ≡ false) (becomes : is_granted mark ≡ false) (fits : PlaceSound m l p mark word) where
    unmarked : GrantsKept m t t'
    unmarked =
        record {
          forth = λ q h e.
              same_or_not q p (λ a. clash (is_granted (mark_at t (place q))) e (ap (λ (x : ℕ). is_granted (mark_at t (place x))) a ∙ was)) (λ a. one.marks q a);
          back = λ q h e.
              same_or_not q p
              (λ a. clash (is_granted (mark_at t' (place q))) e (ap (λ (x : ℕ). is_granted (mark_at t' (place x))) a ∙ ap is_granted one.mark_here ∙ becomes))
              (λ a. one.marks q a);
        }

    pub sound_page : Sound m t' (with_page l name live is_pinned entered)
    sound_page =
        record {
          shape =
              shape_lengths m t t' (record { marks = length-set t.marks p mark; words = length-set t.words p word; bitmap = refl; owners = refl }) ∙
              s.shape;
          records = s.records;
          places = λ q h.
              same_or_not q p
              (λ a.
              rw (a, one.mark_here, one.word_here) (record { used = fits.used; empty = fits.empty; ordinary = fits.ordinary; granted = fits.granted }))
              (λ a.
              rw (one.marks q a, one.words q a)
              (record {
                used = (s.places q h).used;
                empty = (s.places q h).empty;
                ordinary = (s.places q h).ordinary;
                granted = (s.places q h).granted;
              }));
          names = names_change m t t' l p mark word name live is_pinned entered one c s.names;
          grants = λ g e. grant_kept m t t' unmarked g (s.grants g e);
          covered = λ q h. s.covered q h ∙ ap (λ (b : Bool). if b then 1 else 0) (sym (granted_same m t t' unmarked q h));
          total = ap (λ (x : ℕ). x + l.released) (total_kept m t t' unmarked) ∙ s.total;
          bits = bits_kept m t t' s.shape unmarked refl s.bits;
          owners = λ q h.
              let old = s.owners q h in
              rw (granted_same m t t' unmarked q h) (record { owned = old.owned; known = old.known; none = old.none });
        }

    -- a pinned page of another name stays
    pub page_stays : (x : ℕ) → x ≢ name → (with_page l name live is_pinned entered).pinned x ≡ true → (l.pinned x ≡ true) × (page_at m t' x ≡ page_at m t x)
    page_stays x other e =
        let e' : l.pinned x ≡ true = sym (update_other l.pinned name is_pinned x other) ∙ e in (
          e',
          pin_stays m m t t' l (with_page l name live is_pinned entered) x (s.names x) (sound_page.names x) refl e' e
              (λ q h a b. same_or_not q p (λ k. absurd (other (c.replaced x (subst (λ (z : ℕ). is_page_of x (mark_at t (place z)) ≡ true) k a)))) (λ k. one.marks q k)),
        )

-- ---- a call that is done

no_pin : (b : Bool) → (b && true) ≡ false → b ≡ false
no_pin true e = e
no_pin false e = refl

pub done_kept :
    (c : Call) (m : Record) (t t' : Tables) (l l' : Ledger) (first second : ℕ) →
    (role_of c).entry first l ≡ l' →
    Sound m t' l' →
    ((x : ℕ) → (role_of c).pins x ≡ false → l'.pinned x ≡ true → (l.pinned x ≡ true) × (page_at m t' x ≡ page_at m t x)) →
    Kept c m t l (outcome m (done first second) t')
done_kept c m t t' l l' first second e s stay =
    record {
      sound = rw e s;
      pins = λ x a b.
          let both = stay x (no_pin ((role_of c).pins x) a) (sym (ap (λ (k : Ledger). k.pinned x) e) ∙ b) in
          record { was_pinned = both.0; frames = refl; base = refl; place = both.1 };
    }
