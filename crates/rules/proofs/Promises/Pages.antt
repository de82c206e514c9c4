-- The page calls keep their promises. Assumes nothing.
use Rattle.std.proofs.Common.{◌≡◌, ℕ, ◌+◌, ◌<◌, true, false, not, eqb, ◌≢◌, List, length, set, refl, ap, ◌∙◌, inl, inr, arith, length-set, get_or-set_same, ltb-true, ne_eqb, eqb-true}
use lib.Seq.{set-get_or}
use borrow.Author.Tests.{eqb-false}
use Rattle.search.proofs.Bools.{by_cases, clash, not_flips}
use Rattle.answer.specs.Answers.{done}
use Rattle.frames.specs.declared.Place.{Place}
use Rattle.frames.specs.Units.{place}
use Rattle.frames.specs.Marks.{kind_of, mark_of, has_kind, movable, pinned, fixed}
use Rattle.frames.specs.Tables.{Tables, tables, mark_at, word_at, set_page}
use Rattle.rules.specs.declared.Record.{Record}
use Rattle.rules.specs.Record.{frame_at}
use Rattle.rules.specs.Shape.{lengths_right, shape_right, shape_wrong}
use Rattle.rules.specs.Outcomes.{Outcome, outcome, Passed}
use Rattle.rules.specs.PageCalls.{page_at, is_live, page_has, put_checks, drop_checks, change_checks, store_checks, read_checks, is_place, lowest_place, free_ordinary, put_at, put_page, drop_page, change_kind, store_page, read_page}
use Rattle.rules.proofs.Checks.{checked_passed, accepted_does, accepted_passed}
use Rattle.rules.proofs.Says.{says_no}
use Rattle.rules.proofs.Shapes.{shape_known}
use Rattle.rules.specs.Promises.Pages.{FreeIsMeant, Lowest, PutPlace, PutDoes, AcceptedPutMovable, AcceptedPutFixed, Stands, LiveIfStands, PageDoes, AcceptedDrop, AcceptedPin, AcceptedUnpin, AcceptedStore, AcceptedRead, StoreThenRead, PinnedPagesStay}
use Rattle.rules.proofs.Promises.Changes.{set_only}
use Rattle.rules.proofs.Promises.PlaceTests.{free_ordinary_lem, free_in_area_lem, some_ordinary, lowest_ordinary, lowest_in_area, lowest_standing, live}

pub free_is_meant : FreeIsMeant
free_is_meant =
    record {
      ordinary = λ m t p h. ((free_ordinary_lem m t p h).fact, (free_ordinary_lem m t p h).test);
      in_area = λ m t p h. ((free_in_area_lem m t p h).fact, (free_in_area_lem m t p h).test);
    }

-- ---- put
module _ (m : Record) (t : Tables) where
  -- where put's place is one of the machine's, it is one of the two
  abbrev ordinary_place : Place
  ordinary_place = lowest_place m (free_ordinary m t)

  put_place : (kind : ℕ) → is_place m (put_at kind m t) ≡ true → PutPlace kind m t (put_at kind m t).0
  unfolding put_at
  put_place kind =
      by_cases (is_place m ordinary_place) (λ e. rw e (λ h. inl (lowest_ordinary m t (ltb-true ordinary_place.0 m.memory.frames e))))
      (λ e.
      by_cases (eqb kind movable)
      (λ k.
      simp (e, k)
      (λ h. inr (eqb-true kind movable k, λ q f. says_no (some_ordinary m t) e (q, f), lowest_in_area m t (ltb-true _ _ h))))
      (λ k. simp (e, k) (λ h. clash false h refl)))

put_has_place : (kind : ℕ) (m : Record) (name : ℕ) (t : Tables) → Passed (put_checks kind m name t) → is_place m (put_at kind m t) ≡ true
put_has_place kind m name t p = not_flips (is_place m (put_at kind m t)) p.1.1.1.0

accepted_put :
    (kind : ℕ) (m : Record) (name : ℕ) (t : Tables) →
    (put_page kind m name t).answer.refusal ≡ 0 → (p : ℕ) × PutDoes kind m name t (put_page kind m name t) p
unfolding put_page
accepted_put kind m name t accepted =
    accepted_does (λ o. (p : ℕ) × PutDoes kind m name t o p) m t (put_checks kind m name t) _ refl accepted
    (λ passed.
    let p = (put_at kind m t).0 in
    let in_memory = put_has_place kind m name t passed in (
      p,
      record {
        lowest = put_place m t kind in_memory;
        answer = refl;
        page = set_only m t (shape_known m t (not_flips (shape_right m t) passed.0)) p (mark_of name kind) 0 (ltb-true p m.memory.frames in_memory);
        machine = refl;
      },
    ))

pub accepted_put_movable : AcceptedPutMovable
accepted_put_movable = accepted_put movable

pub accepted_put_fixed : AcceptedPutFixed
accepted_put_fixed = accepted_put fixed

-- ---- the calls on a live page
pub live_if_stands : LiveIfStands
live_if_stands m name t = ((live m t name).fact, (live m t name).test)

module _ (m : Record) (name : ℕ) (t : Tables) (shaped : shape_wrong m t ≡ false) (standing : not (is_live m t name) ≡ false) where
  abbrev at : ℕ
  at = (page_at m t name).0

  in_memory : at < m.memory.frames
  in_memory = ltb-true at m.memory.frames (not_flips (is_live m t name) standing)

  page_does : (mark word : ℕ) → PageDoes m name t (outcome m (done 0 0) (set_page t (page_at m t name) mark word)) at mark word
  page_does mark word =
      record {
        lowest = lowest_standing m t name in_memory;
        answer = refl;
        page = set_only m t (shape_known m t (not_flips (shape_right m t) shaped)) at mark word in_memory;
        machine = refl;
      }

-- the kind that a change of kind asks for
has_kind_lem : (kind : ℕ) (m : Record) (name : ℕ) (t : Tables) → Passed (change_checks kind m name t) → kind_of (mark_at t (page_at m t name)) ≡ kind
has_kind_lem kind m name t passed =
    eqb-true (kind_of (mark_at t (page_at m t name))) kind (not_flips (page_has kind m t name) passed.1.1.1.0)

pub accepted_drop : AcceptedDrop
unfolding drop_page
accepted_drop m name t accepted =
    accepted_does (λ o. (p : ℕ) × (kind_of (mark_at t (place p)) ≢ pinned) × PageDoes m name t o p 0 0) m t (drop_checks m name t) _ refl accepted
    (λ passed. ((page_at m t name).0, eqb-false _ pinned passed.1.1.1.0, page_does m name t passed.0 passed.1.1.0 0 0))

pub accepted_pin : AcceptedPin
unfolding change_kind
accepted_pin m name t accepted =
    accepted_does (λ o. (p : ℕ) × (kind_of (mark_at t (place p)) ≡ movable) × PageDoes m name t o p (mark_of name pinned) (word_at t (place p))) m t
    (change_checks movable m name t) _ refl accepted
    (λ passed.
    let p = page_at m t name in
    (p.0, has_kind_lem movable m name t passed, page_does m name t passed.0 passed.1.1.0 (mark_of name pinned) (word_at t p)))

pub accepted_unpin : AcceptedUnpin
unfolding change_kind
accepted_unpin m name t accepted =
    accepted_does (λ o. (p : ℕ) × (kind_of (mark_at t (place p)) ≡ pinned) × PageDoes m name t o p (mark_of name movable) (word_at t (place p))) m t
    (change_checks pinned m name t) _ refl accepted
    (λ passed.
    let p = page_at m t name in
    (p.0, has_kind_lem pinned m name t passed, page_does m name t passed.0 passed.1.1.0 (mark_of name movable) (word_at t p)))

pub accepted_store : AcceptedStore
unfolding store_page
accepted_store m name word t accepted =
    accepted_does (λ o. (p : ℕ) × (kind_of (mark_at t (place p)) ≢ pinned) × PageDoes m name t o p (mark_at t (place p)) word) m t
    (store_checks m name t) _ refl accepted
    (λ passed.
    ((page_at m t name).0, eqb-false _ pinned passed.1.1.1.0, page_does m name t passed.0 passed.1.1.0 (mark_at t (page_at m t name)) word))

pub accepted_read : AcceptedRead
unfolding read_page
accepted_read m name t accepted =
    accepted_does (λ o. (p : ℕ) × Lowest (Stands m t name) p × (o ≡ outcome m (done (m.memory.base.0 + p) (word_at t (place p))) t)) m t
    (read_checks m name t) _ refl accepted
    (λ passed. ((page_at m t name).0, lowest_standing m t name (in_memory m name t passed.0 passed.1.1.0), refl))

-- ---- store, then read
module _ (m : Record) (name word : ℕ) (t : Tables) where
  -- what an accepted store leaves: the page's word, and nothing else
  abbrev stored : Tables
  stored = tables t.marks (set t.words (page_at m t name).0 word) t.bitmap t.owners

  stored_is : set_page t (page_at m t name) (mark_at t (page_at m t name)) word ≡ stored
  stored_is = ap (λ (l : List ℕ). tables l (set t.words (page_at m t name).0 word) t.bitmap t.owners) (set-get_or t.marks (page_at m t name).0 0)

  same_place : page_at m stored name ≡ page_at m t name
  unfolding page_at
  same_place = refl

  same_shape : shape_right m stored ≡ shape_right m t
  unfolding shape_right lengths_right
  same_shape = simp length-set

  store_outcome : Passed (store_checks m name t) → store_page m name word t ≡ outcome m (done 0 0) stored
  unfolding store_page
  store_outcome p = checked_passed m t _ _ p ∙ ap (outcome m (done 0 0)) stored_is

  read_passes : Passed (store_checks m name t) → Passed (read_checks m name stored)
  read_passes q = (ap not same_shape ∙ q.0, (q.1.0, (ap (λ (p : Place). not (is_place m p)) same_place ∙ q.1.1.0, tt)))

  read_outcome : Passed (read_checks m name stored) → read_page m name stored ≡ outcome m (done (frame_at m (page_at m stored name)).0 (word_at stored (page_at m stored name))) stored
  unfolding read_page
  read_outcome p = checked_passed m stored _ _ p

  in_words : Passed (store_checks m name t) → (page_at m t name).0 < length t.words
  in_words p =
      let s = shape_known m t (not_flips (shape_right m t) p.0) in
      let h = ltb-true (page_at m t name).0 m.memory.frames (not_flips (is_live m t name) p.1.1.0) in
      omega (arith, s.words_length)

  stored_word : Passed (store_checks m name t) → word_at stored (page_at m stored name) ≡ word
  stored_word p = ap (word_at stored) same_place ∙ get_or-set_same t.words (page_at m t name).0 word 0 (in_words p)

  read_stored : Passed (store_checks m name t) → ((read_page m name stored).answer.refusal ≡ 0) × ((read_page m name stored).answer.second ≡ word)
  read_stored p =
      let r = read_outcome (read_passes p) in
      (ap (λ (o : Outcome). o.answer.refusal) r, ap (λ (o : Outcome). o.answer.second) r ∙ stored_word p)

store_passed : (m : Record) (name word : ℕ) (t : Tables) → (store_page m name word t).answer.refusal ≡ 0 → Passed (store_checks m name t)
unfolding store_page
store_passed m name word t = accepted_passed m t (store_checks m name t) _ refl

pub store_then_read : StoreThenRead
store_then_read m name word t accepted =
    let passed = store_passed m name word t accepted in
    rw (store_outcome m name word t passed) (read_stored m name word t passed)

-- ---- pinned pages
-- a page has one kind
one_kind : (mark : ℕ) → has_kind pinned mark ≡ true → has_kind movable mark ≡ false
one_kind mark e = ne_eqb (kind_of mark) movable (λ other. let is = eqb-true (kind_of mark) pinned e in omega arith)

module _ (m : Record) (t : Tables) (name : ℕ) (is_pinned : page_has pinned m t name ≡ true) where
  no_drop : Passed (drop_checks m name t) → ⊥
  no_drop p = clash (page_has pinned m t name) is_pinned p.1.1.1.0

  no_pin : Passed (change_checks movable m name t) → ⊥
  no_pin p =
      clash (page_has movable m t name) (not_flips (page_has movable m t name) p.1.1.1.0) (one_kind (mark_at t (page_at m t name)) is_pinned)

pub pinned_pages_stay : PinnedPagesStay
unfolding drop_page change_kind
pinned_pages_stay m t name p =
    record {
      drop = λ done. no_drop m t name p (accepted_passed m t (drop_checks m name t) _ refl done);
      store = λ word done. no_drop m t name p (store_passed m name word t done);
      pin = λ done. no_pin m t name p (accepted_passed m t (change_checks movable m name t) _ refl done);
    }
