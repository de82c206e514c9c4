-- The calls on a live page keep the invariant: drop, pin, unpin, store and read. Each changes one frame and one name, or none. Assumes nothing.
use Rattle.std.proofs.Common.{◌≡◌, ℕ, ◌<◌, Bool, true, false, sym, refl, ap, ◌∙◌, subst, arith}
use borrow.Author.Tests.{not-false, eqb-false}
use Rattle.search.proofs.Bools.{clash}
use Rattle.answer.specs.Answers.{done}
use Rattle.frames.specs.declared.Place.{Place}
use Rattle.frames.specs.Units.{place}
use Rattle.frames.specs.Marks.{mark_of, has_kind, is_page_of, is_granted, pinned}
use Rattle.frames.specs.Tables.{Tables, mark_at, word_at, set_page}
use Rattle.rules.specs.declared.Call.{Call}
use Rattle.rules.specs.declared.Record.{Record}
use Rattle.rules.specs.Record.{frame_at}
use Rattle.rules.specs.Outcomes.{outcome}
use Rattle.rules.specs.PageCalls.{bad_name, page_at, is_live}
use Rattle.rules.specs.PageCalls as Page
use Rattle.rules.specs.Ledger.Ledger.{Ledger, with_page}
use Rattle.rules.specs.Ledger.Roles.{role_of}
use Rattle.rules.specs.Steps.Invariant.{PlaceSound, Sound}
use Rattle.rules.proofs.Checks.{checked_cases}
use Rattle.rules.proofs.Ledger.Marks.{is_page, page_of, one_name, free_page, page_granted}
use Rattle.rules.proofs.Ledger.Names.{page_place, live_below, live_here, live_is, same_or_not, update_here, PageChange}
use Rattle.rules.proofs.Ledger.Kept.{Kept, kept_refused, sound_page, page_stays, done_kept}
use Rattle.rules.proofs.Ledger.PageKinds.{PageKind, made_page, made_pinned, made_ungranted, made_fits}

-- a live page, at the place where the machine finds it
pub record FoundPage (m : Record) (t : Tables) (l : Ledger) (name : ℕ) : Type 0 where
  pub inside : (page_at m t name).0 < m.memory.frames
  pub here : is_page_of name (mark_at t (page_at m t name)) ≡ true
  pub only : (q : ℕ) → q < m.memory.frames → is_page_of name (mark_at t (place q)) ≡ true → q ≡ (page_at m t name).0
  pub pinned : has_kind pinned (mark_at t (page_at m t name)) ≡ l.pinned name
  pub word : word_at t (page_at m t name) ≡ l.word name

module _ (m : Record) (t : Tables) (l : Ledger) (s : Sound m t l) (name : ℕ) where
  abbrev at : ℕ
  at = (page_at m t name).0

  module _ (live : is_live m t name ≡ true) where
    pub ledger_live : l.live name ≡ true
    ledger_live = sym (live_is m t name l (s.names name)) ∙ live

    pub live_page : FoundPage m t l name
    live_page =
        let page = (s.names name).standing ledger_live in
        let same : at ≡ page.at = ap (λ (p : Place). p.0) (page_place m t name page.at page.inside page.here page.only) in
        record {
          inside = live_below m t name live;
          here = live_here m t name live;
          only = λ q h e. page.only q h e ∙ sym same;
          pinned = ap (λ (x : ℕ). has_kind pinned (mark_at t (place x))) same ∙ page.pinned;
          word = ap (λ (x : ℕ). word_at t (place x)) same ∙ page.word;
        }

    good_name : bad_name name ≡ false
    good_name = (s.names name).allowed ledger_live

    was_page : is_page (mark_at t (place at)) ≡ true
    was_page = page_of name (mark_at t (place at)) live_page.here

    was_ungranted : is_granted (mark_at t (place at)) ≡ false
    was_ungranted = page_granted (mark_at t (place at)) was_page

    pub live_change :
        (mark word : ℕ) (is_pinned : Bool) (entered : ℕ) →
        is_page_of name mark ≡ true →
        has_kind pinned mark ≡ is_pinned → word ≡ entered → PageChange m t at mark word name (l.live name) is_pinned entered
    live_change mark word is_pinned entered page pin same =
        record {
          inside = live_page.inside;
          before = live_page.only;
          replaced = λ x e. one_name x name (mark_at t (place at)) e live_page.here;
          new = λ x e. one_name x name mark e page;
          live_if = page ∙ sym ledger_live;
          pinned_if = λ _. pin;
          word_if = λ _. same;
          pinned_live = λ _. ledger_live;
          allowed = λ _. good_name;
        }

    pub drop_change : l.pinned name ≡ false → PageChange m t at 0 0 name false (l.pinned name) (l.word name)
    drop_change unpinned =
        record {
          inside = live_page.inside;
          before = live_page.only;
          replaced = λ x e. one_name x name (mark_at t (place at)) e live_page.here;
          new = λ x e. clash false e refl;
          live_if = refl;
          pinned_if = λ e. clash false e refl;
          word_if = λ e. clash false e refl;
          pinned_live = λ e. clash (l.pinned name) e unpinned;
          allowed = λ e. clash false e refl;
        }

    -- a change of the page that leaves it unpinned
    pub unpinned_kept :
        (c : Call) (mark word : ℕ) (is_live_now is_pinned : Bool) (entered : ℕ) →
        PageChange m t at mark word name is_live_now is_pinned entered →
        is_granted mark ≡ false →
        PlaceSound m l at mark word →
        is_pinned ≡ false →
        (role_of c).entry 0 l ≡ with_page l name is_live_now is_pinned entered → Kept c m t l (outcome m (done 0 0) (set_page t (place at) mark word))
    unpinned_kept c mark word is_live_now is_pinned entered change becomes fits loose e =
        done_kept c m t (set_page t (place at) mark word) l (with_page l name is_live_now is_pinned entered) 0 0 e
        (sound_page m t l s at mark word name is_live_now is_pinned entered change was_ungranted becomes fits)
        (λ x a b.
        same_or_not x name
        (λ q.
        clash ((with_page l name is_live_now is_pinned entered).pinned name)
        (subst (λ (z : ℕ). (with_page l name is_live_now is_pinned entered).pinned z ≡ true) q b) (update_here l.pinned name is_pinned ∙ loose))
        (λ q. page_stays m t l s at mark word name is_live_now is_pinned entered change was_ungranted becomes fits x q b))

    pub pinned_kept :
        (mark word : ℕ) (entered : ℕ) →
        PageChange m t at mark word name (l.live name) true entered →
        is_granted mark ≡ false →
        PlaceSound m l at mark word →
        (role_of (Call.Pin name)).entry 0 l ≡ with_page l name (l.live name) true entered →
        Kept (Call.Pin name) m t l (outcome m (done 0 0) (set_page t (place at) mark word))
    pinned_kept mark word entered change becomes fits e =
        done_kept (Call.Pin name) m t (set_page t (place at) mark word) l (with_page l name (l.live name) true entered) 0 0 e
        (sound_page m t l s at mark word name (l.live name) true entered change was_ungranted becomes fits)
        (λ x a b. page_stays m t l s at mark word name (l.live name) true entered change was_ungranted becomes fits x (eqb-false x name a) b)

  pub drop_kept : Kept (Call.Drop name) m t l (Page.drop_page m name t)
  unfolding Page.drop_page
  drop_kept =
      checked_cases (Kept (Call.Drop name) m t l) m t _ _ refl (kept_refused (Call.Drop name) m t l s)
      (λ passed.
      let live : is_live m t name ≡ true = not-false (is_live m t name) passed.1.1.0 in
      let loose : l.pinned name ≡ false = sym (live_page live).pinned ∙ passed.1.1.1.0 in
      unpinned_kept live (Call.Drop name) 0 0 false (l.pinned name) (l.word name) (drop_change live loose) refl
      (record { used = omega arith; empty = λ _. refl; ordinary = λ e. clash false e refl; granted = λ e. clash false e refl }) loose refl)

  pinned_kind : PageKind 2 true
  pinned_kind = record { small = omega arith; page = refl; pin = refl; full = refl; ungranted = refl }

  movable_kind : PageKind 1 false
  movable_kind = record { small = omega arith; page = refl; pin = refl; full = refl; ungranted = refl }

  pub pin_kept : Kept (Call.Pin name) m t l (Page.pin_page m name t)
  unfolding Page.change_kind
  pin_kept =
      checked_cases (Kept (Call.Pin name) m t l) m t _ _ refl (kept_refused (Call.Pin name) m t l s)
      (λ passed.
      let live : is_live m t name ≡ true = not-false (is_live m t name) passed.1.1.0 in
      pinned_kept live (mark_of name 2) (word_at t (place at)) (l.word name)
      (live_change live (mark_of name 2) (word_at t (place at)) true (l.word name) (made_page name 2 true pinned_kind) (made_pinned name 2 true pinned_kind) (live_page live).word)
      (made_ungranted name 2 true pinned_kind) (made_fits name 2 true pinned_kind m l at (word_at t (place at)) (λ e. clash false e refl)) refl)

  pub unpin_kept : Kept (Call.Unpin name) m t l (Page.unpin_page m name t)
  unfolding Page.change_kind
  unpin_kept =
      checked_cases (Kept (Call.Unpin name) m t l) m t _ _ refl (kept_refused (Call.Unpin name) m t l s)
      (λ passed.
      let live : is_live m t name ≡ true = not-false (is_live m t name) passed.1.1.0 in
      unpinned_kept live (Call.Unpin name) (mark_of name 1) (word_at t (place at)) (l.live name) false (l.word name)
      (live_change live (mark_of name 1) (word_at t (place at)) false (l.word name) (made_page name 1 false movable_kind) (made_pinned name 1 false movable_kind) (live_page live).word)
      (made_ungranted name 1 false movable_kind) (made_fits name 1 false movable_kind m l at (word_at t (place at)) (λ e. clash false e refl)) refl refl)

  pub store_kept : (word : ℕ) → Kept (Call.Store name word) m t l (Page.store_page m name word t)
  unfolding Page.store_page
  store_kept word =
      checked_cases (Kept (Call.Store name word) m t l) m t _ _ refl (kept_refused (Call.Store name word) m t l s)
      (λ passed.
      let live : is_live m t name ≡ true = not-false (is_live m t name) passed.1.1.0 in
      let page = live_page live in
      let loose : l.pinned name ≡ false = sym page.pinned ∙ passed.1.1.1.0 in
      let mark = mark_at t (place at) in
      let here = s.places at page.inside in
      unpinned_kept live (Call.Store name word) mark word (l.live name) (l.pinned name) word (live_change live mark word (l.pinned name) word page.here page.pinned refl)
      (was_ungranted live)
      (record {
        used = here.used;
        empty = λ e. clash (is_page mark) (was_page live) (free_page mark e);
        ordinary = here.ordinary;
        granted = λ e. clash (is_granted mark) e (was_ungranted live);
      })
      loose refl)

  pub read_kept : Kept (Call.Read name) m t l (Page.read_page m name t)
  unfolding Page.read_page
  read_kept =
      checked_cases (Kept (Call.Read name) m t l) m t _ _ refl (kept_refused (Call.Read name) m t l s)
      (λ passed. done_kept (Call.Read name) m t t l l (frame_at m (page_at m t name)).0 (word_at t (page_at m t name)) refl s (λ x a b. (b, refl)))
