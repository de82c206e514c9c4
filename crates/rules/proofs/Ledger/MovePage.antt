-- One movable page goes to a free frame: as if it were dropped and put again, so the invariant holds with the same ledger. Assumes nothing.
--     moved_sound     the invariant holds
--     mark_left, mark_arrived, mark_other    the marks after the move
use Rattle.std.proofs.Common.{◌≡◌, ℕ, ◌<◌, true, false, ◌≢◌, sym, refl, ap, ◌∙◌, subst, arith}
use mathlib.Core.Path.{fun_ext}
use lib.Seq.{set_comm}
use Rattle.search.proofs.Bools.{by_cases, clash}
use Rattle.frames.specs.Units.{place}
use Rattle.frames.specs.Marks.{field_of, has_kind, is_page_of, is_granted, free, movable, pinned, fixed}
use Rattle.frames.specs.Tables.{Tables, tables, mark_at, word_at, set_page}
use Rattle.rules.specs.declared.Record.{Record}
use Rattle.rules.proofs.Shapes.{Shape, shape_known}
use Rattle.rules.specs.Ledger.Ledger.{Ledger, update, with_page}
use Rattle.rules.specs.Steps.Invariant.{PlaceSound, PageSound, Sound}
use Rattle.rules.proofs.Ledger.Marks.{is_page, has_kind_lem, page_named, one_name, no_page, free_page, free_granted, page_granted}
use Rattle.rules.proofs.Ledger.Tables.{OneChange, set_one}
use Rattle.rules.proofs.Ledger.Names.{same_or_not, update_here, update_other, PageChange}
use Rattle.rules.proofs.Ledger.Kept.{sound_page}

-- a value that is taken away and given back
update_back : {A : Type 0} (f : ℕ → A) (k : ℕ) (v w : A) → w ≡ f k → update (update f k v) k w ≡ f
update_back f k v w e =
    fun_ext (λ x.
    same_or_not x k (λ q. rw q (update_here (update f k v) k w ∙ e)) (λ n. update_other (update f k v) k w x n ∙ update_other f k v x n))

module _ (m : Record) (t : Tables) (l : Ledger) (s : Sound m t l) (p q : ℕ) (p_inside : p < m.memory.frames) (q_inside : q < m.memory.frames) (apart : q ≢ p) (moves : has_kind movable (mark_at t (place p)) ≡ true) (vacant : has_kind free (mark_at t (place q)) ≡ true) where
  abbrev mark : ℕ
  mark = mark_at t (place p)

  abbrev word : ℕ
  word = word_at t (place p)

  abbrev name : ℕ
  name = field_of mark

  is_page_lem : is_page mark ≡ true
  is_page_lem = rw (has_kind_lem 1 mark moves)

  named : is_page_of name mark ≡ true
  named = page_named name mark is_page_lem refl

  not_pinned : has_kind pinned mark ≡ false
  not_pinned = rw (has_kind_lem 1 mark moves)

  live : l.live name ≡ true
  live = by_cases (l.live name) (λ e. e) (λ e. clash (is_page_of name mark) named ((s.names name).absent e p p_inside))

  page : PageSound m t l name
  page = (s.names name).standing live

  at_p : p ≡ page.at
  at_p = page.only p p_inside named

  unpinned : has_kind pinned mark ≡ l.pinned name
  unpinned = ap (λ (x : ℕ). has_kind pinned (mark_at t (place x))) at_p ∙ page.pinned

  its_word : word ≡ l.word name
  its_word = ap (λ (x : ℕ). word_at t (place x)) at_p ∙ page.word

  abbrev without_page : Tables
  without_page = set_page t (place p) 0 0

  abbrev l⁻ : Ledger
  l⁻ = with_page l name false (l.pinned name) (l.word name)

  leaves : PageChange m t p 0 0 name false (l.pinned name) (l.word name)
  leaves =
      record {
        inside = p_inside;
        before = λ k h e. page.only k h e ∙ sym at_p;
        replaced = λ x e. one_name x name mark e named;
        new = λ x e. clash false e refl;
        live_if = refl;
        pinned_if = λ e. clash false e refl;
        word_if = λ e. clash false e refl;
        pinned_live = λ e. clash (l.pinned name) e (sym unpinned ∙ not_pinned);
        allowed = λ e. clash false e refl;
      }

  left : Sound m without_page l⁻
  left =
      sound_page m t l s p 0 0 name false (l.pinned name) (l.word name) leaves (page_granted mark is_page_lem) refl
      (record { used = omega arith; empty = λ _. refl; ordinary = λ e. clash false e refl; granted = λ e. clash false e refl })

  shaped : Shape m t
  shaped = shape_known m t s.shape

  first_change : OneChange t without_page p 0 0
  first_change = set_one t p 0 0 (rw shaped.marks_length p_inside) (rw shaped.words_length p_inside)

  still_vacant : has_kind free (mark_at without_page (place q)) ≡ true
  still_vacant = ap (has_kind free) (first_change.marks q apart) ∙ vacant

  arrives : PageChange m without_page q mark word name true (l.pinned name) (l.word name)
  arrives =
      record {
        inside = q_inside;
        before = λ k h e.
            clash (is_page_of name (mark_at without_page (place k))) e ((left.names name).absent (update_here l.live name false) k h);
        replaced = λ x e.
            clash (is_page_of x (mark_at without_page (place q))) e
            (no_page x (mark_at without_page (place q)) (free_page (mark_at without_page (place q)) still_vacant));
        new = λ x e. one_name x name mark e named;
        live_if = named;
        pinned_if = λ _. unpinned;
        word_if = λ _. its_word;
        pinned_live = λ _. refl;
        allowed = λ _. (s.names name).allowed live;
      }

  fits : PlaceSound m l⁻ q mark word
  fits =
      record {
        used = (s.places p p_inside).used;
        empty = λ e. clash (is_page mark) is_page_lem (free_page mark e);
        ordinary = λ e. clash (has_kind fixed mark) e (rw (has_kind_lem 1 mark moves));
        granted = λ e. clash (is_granted mark) e (page_granted mark is_page_lem);
      }

  abbrev arrived : Tables
  arrived = set_page without_page (place q) mark word

  abbrev l⁺ : Ledger
  l⁺ = with_page l⁻ name true (l.pinned name) (l.word name)

  again : Sound m arrived l⁺
  again =
      sound_page m without_page l⁻ left q mark word name true (l.pinned name) (l.word name) arrives
      (free_granted (mark_at without_page (place q)) still_vacant) (page_granted mark is_page_lem) fits

  same_ledger : l⁺ ≡ l
  same_ledger =
      let a = update_back l.live name false true (sym live) in
      let b = update_back l.pinned name (l.pinned name) (l.pinned name) refl in
      let c = update_back l.word name (l.word name) (l.word name) refl in
      λ i. record { live = a i; pinned = b i; word = c i; grants = l.grants; device_word = l.device_word; device = l.device; granted = l.granted; released = l.released }

  abbrev pub moved : Tables
  moved = set_page (set_page t (place q) mark word) (place p) 0 0

  same_tables : arrived ≡ moved
  same_tables =
      let a = set_comm t.marks p q 0 mark (λ e. apart (sym e)) in
      let b = set_comm t.words p q 0 word (λ e. apart (sym e)) in
      λ i. tables (a i) (b i) t.bitmap t.owners

  pub moved_sound : Sound m moved l
  moved_sound = subst (λ (k : Ledger). Sound m moved k) same_ledger (subst (λ (k : Tables). Sound m k l⁺) same_tables again)

  second_change : OneChange without_page arrived q mark word
  second_change =
      let shaped⁻ = shape_known m without_page left.shape in
      set_one without_page q mark word (rw shaped⁻.marks_length q_inside) (rw shaped⁻.words_length q_inside)

  pub mark_left : mark_at moved (place p) ≡ 0
  mark_left = ap (λ (k : Tables). mark_at k (place p)) (sym same_tables) ∙ second_change.marks p (λ e. apart (sym e)) ∙ first_change.mark_here

  pub mark_arrived : mark_at moved (place q) ≡ mark
  mark_arrived = ap (λ (k : Tables). mark_at k (place q)) (sym same_tables) ∙ second_change.mark_here

  pub mark_other : (k : ℕ) → k ≢ p → k ≢ q → mark_at moved (place k) ≡ mark_at t (place k)
  mark_other k a b = ap (λ (x : Tables). mark_at x (place k)) (sym same_tables) ∙ second_change.marks k b ∙ first_change.marks k a
