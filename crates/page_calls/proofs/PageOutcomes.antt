-- What each page call on a live page does, from what its look-up found. Assumes nothing.
--     drop_not, change_not, store_not, read_not    the look-up refused
--     drop_pinned, store_pinned, change_other      the page's kind forbids it
--     drop_done, change_done, store_done, read_done    it is done
use Prim.Native.Nat.{ℕ, ◌+◌, min}
use mathlib.Core.Path.{◌≡◌, sym, ap, ap₂, ◌∙◌}
use mathlib.Core.Bool.{Bool, true, false, not}
use lib.ListN.{set}
use lib.Seq.{set-get_or}
use Rattle.std.specs.Prelude.{Ok, Err}
use Rattle.answer.specs.Answers.{done, number_of}
use Rattle.answer.specs.declared.refusal.Refusal.{Refusal}
use Rattle.frames.specs.declared.Frame.{Frame}
use Rattle.frames.specs.declared.Place.{Place}
use Rattle.frames.specs.Units.{most_number, frame}
use Rattle.frames.specs.Marks.{has_kind, mark_of, free, pinned}
use Rattle.frames.specs.Tables.{Tables, tables, mark_at, word_at, set_page}
use Rattle.rules.specs.declared.Record.{Record}
use Rattle.rules.specs.Record.{frame_at}
use Rattle.rules.specs.Outcomes.{outcome, refuse}
use Rattle.rules.specs.PageCalls.{page_at, drop_page, change_kind, store_page, read_page}
use Rattle.page_calls.specs.Steps.Look.{look_up}
use Rattle.rules.proofs.Checks.{checked_stop, checked_pass, checked_end}
use Rattle.page_calls.proofs.Looks.{Live, frame_inside, looks_up, looked_at, looked_not}

module _ (m : Record) (name : ℕ) (t : Tables) where
  module _ {r : Refusal} (e : Err r ≡ look_up m name t) where
    pub drop_not : refuse m t (number_of r) ≡ drop_page m name t
    unfolding drop_page
    drop_not = sym (looked_not m name t (looks_up m name t e) _ _)

    pub change_not : (from to : ℕ) → refuse m t (number_of r) ≡ change_kind from to m name t
    unfolding change_kind
    change_not from to = sym (looked_not m name t (looks_up m name t e) _ _)

    pub store_not : (word : ℕ) → refuse m t (number_of r) ≡ store_page m name word t
    unfolding store_page
    store_not word = sym (looked_not m name t (looks_up m name t e) _ _)

    pub read_not : refuse m t (number_of r) ≡ read_page m name t
    unfolding read_page
    read_not = sym (looked_not m name t (looks_up m name t e) _ _)

  module _ {p : Place} (e : Ok p ≡ look_up m name t) where
    found : Live m name t p
    found = looked_at m name t (looks_up m name t e)

    kind_at : (k : ℕ) {b : Bool} → b ≡ has_kind k (mark_at t p) → has_kind k (mark_at t (page_at m t name)) ≡ b
    kind_at k h = ap (λ (q : Place). has_kind k (mark_at t q)) (sym found.at) ∙ sym h

    pub drop_pinned : true ≡ has_kind pinned (mark_at t p) → refuse m t 5 ≡ drop_page m name t
    unfolding drop_page
    drop_pinned h = sym (found.pass _ _ ∙ checked_stop m t _ _ _ (kind_at _ h))

    pub store_pinned : (word : ℕ) → true ≡ has_kind pinned (mark_at t p) → refuse m t 5 ≡ store_page m name word t
    unfolding store_page
    store_pinned word h = sym (found.pass _ _ ∙ checked_stop m t _ _ _ (kind_at _ h))

    pub change_other : (from to : ℕ) → false ≡ has_kind from (mark_at t p) → refuse m t 5 ≡ change_kind from to m name t
    unfolding change_kind
    change_other from to h = sym (found.pass _ _ ∙ checked_stop m t _ _ _ (ap not (kind_at _ h)))

    pub drop_done : {mark : ℕ} → false ≡ has_kind pinned (mark_at t p) → mark ≡ mark_of 0 free →
        outcome m (done 0 0) (set_page t p mark 0) ≡ drop_page m name t
    unfolding drop_page
    drop_done h v =
        sym
        (found.pass _ _ ∙ checked_pass m t _ _ _ (kind_at _ h) ∙ checked_end m t _ ∙
        ap₂ (λ (q : Place) (k : ℕ). outcome m (done 0 0) (set_page t q k 0)) (sym found.at) (sym v))

    pub change_done : (from to : ℕ) {mark : ℕ} → true ≡ has_kind from (mark_at t p) → mark ≡ mark_of name to →
        outcome m (done 0 0) (tables (set t.marks p.0 mark) t.words t.bitmap t.owners) ≡ change_kind from to m name t
    unfolding change_kind
    change_done from to h v =
        sym
        (found.pass _ _ ∙ checked_pass m t _ _ _ (ap not (kind_at _ h)) ∙ checked_end m t _ ∙
        ap (λ (q : Place). outcome m (done 0 0) (set_page t q (mark_of name to) (word_at t q))) (sym found.at) ∙
        ap₂ (λ k ws. outcome m (done 0 0) (tables (set t.marks p.0 k) ws t.bitmap t.owners))
        (sym v) (set-get_or t.words p.0 0))

    pub store_done : (word : ℕ) → false ≡ has_kind pinned (mark_at t p) →
        outcome m (done 0 0) (tables t.marks (set t.words p.0 word) t.bitmap t.owners) ≡ store_page m name word t
    unfolding store_page
    store_done word h =
        sym
        (found.pass _ _ ∙ checked_pass m t _ _ _ (kind_at _ h) ∙ checked_end m t _ ∙
        ap (λ (q : Place). outcome m (done 0 0) (set_page t q (mark_at t q) word)) (sym found.at) ∙
        ap (λ ms. outcome m (done 0 0) (tables ms (set t.words p.0 word) t.bitmap t.owners)) (set-get_or t.marks p.0 0))

    pub read_done : {f : Frame} → f ≡ frame (min (m.memory.base.0 + p.0) most_number) → outcome m (done f.0 (word_at t p)) t ≡ read_page m name t
    unfolding read_page
    read_done v =
        sym
        (found.pass _ _ ∙ checked_end m t _ ∙ ap (λ (q : Place). outcome m (done (frame_at m q).0 (word_at t q)) t) (sym found.at) ∙
        ap (λ (g : Frame). outcome m (done g.0 (word_at t p)) t) (sym (v ∙ frame_inside found.shape p found.inside)))
