-- Put keeps the invariant: the page gets a free frame, a fixed page an ordinary one. Assumes nothing.
use Rattle.std.proofs.Common.{◌≡◌, ℕ, true, false, not, ◌||◌, eqb, refl, subst, ltb-true}
use borrow.Author.Tests.{not-false}
use Rattle.search.proofs.Bools.{by_cases, clash, and_left, or_true_right}
use Rattle.search.proofs.Lowest.{found_passes}
use Rattle.frames.specs.declared.Place.{Place}
use Rattle.frames.specs.Units.{place}
use Rattle.frames.specs.Marks.{mark_of, is_page_of, movable}
use Rattle.frames.specs.Tables.{Tables, mark_at, set_page}
use Rattle.rules.specs.declared.Call.{Call}
use Rattle.rules.specs.declared.Record.{Record}
use Rattle.rules.specs.Record.{frame_at, is_ordinary}
use Rattle.rules.specs.PageCalls.{is_place, lowest_place, bad_name, is_live, is_free, free_ordinary, free_in_area, put_at}
use Rattle.rules.specs.PageCalls as Page
use Rattle.rules.specs.Ledger.Ledger.{Ledger, with_page}
use Rattle.rules.specs.Ledger.Roles.{role_of}
use Rattle.rules.specs.Steps.Invariant.{Sound}
use Rattle.rules.proofs.Checks.{checked_cases}
use Rattle.rules.proofs.AreaRight.{ordinary_free, ordinary_is}
use Rattle.rules.proofs.Ledger.Marks.{no_page, free_page, free_granted}
use Rattle.rules.proofs.Ledger.Names.{dead_absent, same_or_not, update_here, PageChange}
use Rattle.rules.proofs.Ledger.Kept.{Kept, kept_refused, sound_page, page_stays, done_kept}
use Rattle.rules.proofs.Ledger.PageKinds.{PageKind, made_page, made_only, made_pinned, made_ungranted, made_fits}

-- ---- the place of a put

module _ (m : Record) (t : Tables) (kind : ℕ) where
  abbrev ordinary_place : Place
  ordinary_place = lowest_place m (free_ordinary m t)

  free_ordinary_lem : is_place m ordinary_place ≡ true → free_ordinary m t ordinary_place ≡ true
  free_ordinary_lem e = found_passes (λ i. free_ordinary m t (place i)) m.memory.frames (ltb-true ordinary_place.0 m.memory.frames e)

  area_free : (p : Place) → free_in_area m t p ≡ true → is_free t p ≡ true
  unfolding free_in_area
  area_free p e = and_left (is_free t p) (not (is_ordinary m p)) e

  put_free : is_place m (put_at kind m t) ≡ true → is_free t (put_at kind m t) ≡ true
  unfolding put_at
  put_free =
      by_cases (is_place m ordinary_place || not (eqb kind movable)) (λ c. rw c (λ e. ordinary_free m t ordinary_place (free_ordinary_lem e)))
      (λ c.
      rw c
      (λ e.
      area_free (lowest_place m (free_in_area m t))
      (found_passes (λ i. free_in_area m t (place i)) m.memory.frames (ltb-true (lowest_place m (free_in_area m t)).0 m.memory.frames e))))

  put_ordinary : not (eqb kind movable) ≡ true → is_place m (put_at kind m t) ≡ true → is_ordinary m (put_at kind m t) ≡ true
  unfolding put_at
  put_ordinary k =
      let c : (is_place m ordinary_place || not (eqb kind movable)) ≡ true = rw k (or_true_right (is_place m ordinary_place)) in
      rw c (λ e. ordinary_is m t ordinary_place (free_ordinary_lem e))

module _ (m : Record) (t : Tables) (l : Ledger) (s : Sound m t l) (name : ℕ) where
  put_change :
      (kind : ℕ) →
      PageKind kind false →
      bad_name name ≡ false →
      is_live m t name ≡ false →
      is_place m (put_at kind m t) ≡ true → PageChange m t (put_at kind m t).0 (mark_of name kind) 0 name true false 0
  put_change kind k good dead place_found =
      record {
        inside = ltb-true (put_at kind m t).0 m.memory.frames place_found;
        before = λ q h e. clash (is_page_of name (mark_at t (place q))) e (dead_absent m t name dead q h);
        replaced = λ x e.
            clash (is_page_of x (mark_at t (put_at kind m t))) e
            (no_page x (mark_at t (put_at kind m t)) (free_page (mark_at t (put_at kind m t)) (put_free m t kind place_found)));
        new = made_only name kind false k;
        live_if = made_page name kind false k;
        pinned_if = λ _. made_pinned name kind false k;
        word_if = λ _. refl;
        pinned_live = λ e. refl;
        allowed = λ _. good;
      }

  pub put_kept :
      (c : Call) (kind : ℕ) →
      PageKind kind false →
      (eqb kind 3 ≡ true → not (eqb kind movable) ≡ true) →
      ((first : ℕ) → (role_of c).entry first l ≡ with_page l name true false 0) → Kept c m t l (Page.put_page kind m name t)
  unfolding Page.put_page
  put_kept c kind k still e =
      checked_cases (Kept c m t l) m t _ _ refl (kept_refused c m t l s)
      (λ passed.
      let found : is_place m (put_at kind m t) ≡ true = not-false (is_place m (put_at kind m t)) passed.1.1.1.0 in
      let change = put_change kind k passed.1.0 passed.1.1.0 found in
      let was = free_granted (mark_at t (put_at kind m t)) (put_free m t kind found) in
      let fits = made_fits name kind false k m l (put_at kind m t).0 0 (λ f. put_ordinary m t kind (still f) found) in
      let becomes = made_ungranted name kind false k in
      done_kept c m t (set_page t (put_at kind m t) (mark_of name kind) 0) l (with_page l name true false 0) (frame_at m (put_at kind m t)).0 0
      (e (frame_at m (put_at kind m t)).0)
      (sound_page m t l s (put_at kind m t).0 (mark_of name kind) 0 name true false 0 change was becomes fits)
      (λ x a b.
      same_or_not x name (λ q. clash ((with_page l name true false 0).pinned name) (subst (λ (z : ℕ). (with_page l name true false 0).pinned z ≡ true) q b) (update_here l.pinned name false))
      (λ q. page_stays m t l s (put_at kind m t).0 (mark_of name kind) 0 name true false 0 change was becomes fits x q b)))
