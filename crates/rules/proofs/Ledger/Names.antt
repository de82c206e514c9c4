-- Names and where they stand, when tables and ledger change. Assumes nothing.
--     update_here, update_other     a function with another value at one number
--     page_place, live_is           a sound page is where the machine looks for it; a name is live just where the ledger says so
--     names_change                  one frame and one name change: put, drop, pin, unpin and store
--     names_kept                    no page changes: device calls and declare
use Rattle.std.proofs.Common.{◌≡◌, ℕ, ◌<◌, ◌≤◌, Bool, true, false, eqb, ◌≢◌, sym, refl, ap, ◌∙◌, subst, arith, ltb-false, ltb-true, lt-ltb, eq-eqb, ne_eqb, eqb-true}
use borrow.Author.Tests.{eqb-false}
use Rattle.search.specs.Search.{lowest}
use Rattle.search.proofs.Bools.{by_cases, clash}
use Rattle.search.proofs.Lowest.{found_passes, found_is, found_some}
use Rattle.frames.specs.Units.{place}
use Rattle.frames.specs.Marks.{has_kind, is_page_of, pinned}
use Rattle.frames.specs.Tables.{Tables, mark_at, word_at}
use Rattle.rules.specs.declared.Record.{Record}
use Rattle.rules.specs.PageCalls.{bad_name, page_at, is_live}
use Rattle.rules.specs.Ledger.Ledger.{Ledger, update, with_page}
use Rattle.rules.specs.Steps.Invariant.{NameSound}
use Rattle.rules.proofs.Ledger.Marks.{is_page, page_of}
use Rattle.rules.proofs.Ledger.Tables.{OneChange}

pub update_here : {A : Type 0} (f : ℕ → A) (k : ℕ) (v : A) → update f k v k ≡ v
unfolding update
update_here f k v = rw (eq-eqb k k refl)

pub update_other : {A : Type 0} (f : ℕ → A) (k : ℕ) (v : A) (x : ℕ) → x ≢ k → update f k v x ≡ f x
unfolding update
update_other f k v x h = rw (ne_eqb x k h)

-- a number is k or not
pub same_or_not {ℓ} : {P : Type ℓ} (x k : ℕ) → (x ≡ k → P) → (x ≢ k → P) → P
same_or_not x k yes_case no_case = by_cases (eqb x k) (λ e. yes_case (eqb-true x k e)) (λ e. no_case (eqb-false x k e))

-- ---- where the machine looks for a name

module _ (m : Record) (t : Tables) (name : ℕ) where
  pub page_place : (p : ℕ) → p < m.memory.frames → is_page_of name (mark_at t (place p)) ≡ true → ((q : ℕ) → q < m.memory.frames → is_page_of name (mark_at t (place q)) ≡ true → q ≡ p) → page_at m t name ≡ place p
  unfolding page_at
  page_place p h e only =
      ap place
      (found_is (λ i. is_page_of name (mark_at t (place i))) m.memory.frames p h e
      (λ i a.
      by_cases (is_page_of name (mark_at t (place i))) (λ y. absurd (below_self i p a (only i (omega arith) y))) (λ n. n)))
    where
      below_self : (i p : ℕ) → i < p → i ≡ p → ⊥
      below_self i p a e = omega arith

  pub live_below : is_live m t name ≡ true → (page_at m t name).0 < m.memory.frames
  live_below e = ltb-true (page_at m t name).0 m.memory.frames e

  pub live_here : is_live m t name ≡ true → is_page_of name (mark_at t (page_at m t name)) ≡ true
  unfolding page_at
  live_here e = found_passes (λ i. is_page_of name (mark_at t (place i))) m.memory.frames (live_below e)

  pub dead_absent : is_live m t name ≡ false → (q : ℕ) → q < m.memory.frames → is_page_of name (mark_at t (place q)) ≡ false
  unfolding page_at
  dead_absent e q h =
      by_cases (is_page_of name (mark_at t (place q)))
      (λ y. absurd (too_far (found_some (λ i. is_page_of name (mark_at t (place i))) m.memory.frames q y)))
      (λ n. n)
    where
      too_far : lowest (λ i. is_page_of name (mark_at t (place i))) m.memory.frames ≤ q → ⊥
      too_far a = omega (arith, ltb-false (lowest (λ i. is_page_of name (mark_at t (place i))) m.memory.frames) m.memory.frames e)

  pub live_is : (l : Ledger) → NameSound m t l name → is_live m t name ≡ l.live name
  live_is l s =
      by_cases (l.live name)
      (λ y.
      let page = s.standing y in
      rw (page_place page.at page.inside page.here page.only, y) (lt-ltb page.at m.memory.frames page.inside))
      (λ n.
      by_cases (is_live m t name) (λ e. clash (is_page_of name (mark_at t (page_at m t name))) (live_here e) (s.absent n (page_at m t name).0 (live_below e)))
      (λ e. e ∙ sym n))

-- ---- one frame and one name change

-- what the new mark and word of a frame must be, for the new entries of a name
pub record PageChange (m : Record) (t : Tables) (p mark word name : ℕ) (live is_pinned : Bool) (entered : ℕ) : Type 0 where
  pub inside : p < m.memory.frames
  pub before : (q : ℕ) → q < m.memory.frames → is_page_of name (mark_at t (place q)) ≡ true → q ≡ p
  pub replaced : (x : ℕ) → is_page_of x (mark_at t (place p)) ≡ true → x ≡ name
  pub new : (x : ℕ) → is_page_of x mark ≡ true → x ≡ name
  pub live_if : is_page_of name mark ≡ live
  pub pinned_if : live ≡ true → has_kind pinned mark ≡ is_pinned
  pub word_if : live ≡ true → word ≡ entered
  pub pinned_live : is_pinned ≡ true → live ≡ true
  pub allowed : live ≡ true → bad_name name ≡ false

module _ (m : Record) (t t' : Tables) (l : Ledger) (p mark word name : ℕ) (live is_pinned : Bool) (entered : ℕ) (one : OneChange t t' p mark word) (c : PageChange m t p mark word name live is_pinned entered) where
  abbrev l' : Ledger
  l' = with_page l name live is_pinned entered

  -- after the change, only frame p can have the name, and frame p no other
  only_here : (q : ℕ) → q < m.memory.frames → is_page_of name (mark_at t' (place q)) ≡ true → q ≡ p
  only_here q h e = same_or_not q p (λ s. s) (λ n. c.before q h (rw (one.marks q n) at e))

  changed_name : NameSound m t' l' name
  changed_name =
      record {
        standing = λ y.
            let y' : live ≡ true = sym (update_here l.live name live) ∙ y in
            record {
              at = p;
              inside = c.inside;
              here = ap (is_page_of name) one.mark_here ∙ c.live_if ∙ y';
              only = only_here;
              pinned = ap (has_kind pinned) one.mark_here ∙ c.pinned_if y' ∙ sym (update_here l.pinned name is_pinned);
              word = one.word_here ∙ c.word_if y' ∙ sym (update_here l.word name entered);
            };
        absent = λ n q h.
            let n' : live ≡ false = sym (update_here l.live name live) ∙ n in
            by_cases (is_page_of name (mark_at t' (place q)))
            (λ y.
            clash live (sym (ap (is_page_of name) one.mark_here ∙ c.live_if) ∙ subst (λ (x : ℕ). is_page_of name (mark_at t' (place x)) ≡ true) (only_here q h y) y) n')
            (λ e. e);
        pinned_live = λ y. update_here l.live name live ∙ c.pinned_live (sym (update_here l.pinned name is_pinned) ∙ y);
        allowed = λ y. c.allowed (sym (update_here l.live name live) ∙ y);
      }

  module _ (x : ℕ) (other : x ≢ name) where
    not_here : is_page_of x (mark_at t' (place p)) ≡ true → ⊥
    not_here e = other (c.new x (rw one.mark_here at e))

    marks_same : (q : ℕ) → is_page_of x (mark_at t (place q)) ≡ true → mark_at t' (place q) ≡ mark_at t (place q)
    marks_same q e =
        same_or_not q p (λ s. absurd (other (c.replaced x (subst (λ (k : ℕ). is_page_of x (mark_at t (place k)) ≡ true) s e)))) (λ n. one.marks q n)

    words_same : (q : ℕ) → is_page_of x (mark_at t (place q)) ≡ true → word_at t' (place q) ≡ word_at t (place q)
    words_same q e =
        same_or_not q p (λ s. absurd (other (c.replaced x (subst (λ (k : ℕ). is_page_of x (mark_at t (place k)) ≡ true) s e)))) (λ n. one.words q n)

    -- a page of another name stood there before
    stood : (q : ℕ) → is_page_of x (mark_at t' (place q)) ≡ true → is_page_of x (mark_at t (place q)) ≡ true
    stood q e =
        same_or_not q p (λ s. absurd (not_here (subst (λ (k : ℕ). is_page_of x (mark_at t' (place k)) ≡ true) s e))) (λ n. rw (one.marks q n) at e)

    other_name : NameSound m t l x → NameSound m t' l' x
    other_name s =
        record {
          standing = λ y.
              let page = s.standing (sym (update_other l.live name live x other) ∙ y) in
              record {
                at = page.at;
                inside = page.inside;
                here = ap (is_page_of x) (marks_same page.at page.here) ∙ page.here;
                only = λ q h e. page.only q h (stood q e);
                pinned = ap (has_kind pinned) (marks_same page.at page.here) ∙ page.pinned ∙ sym (update_other l.pinned name is_pinned x other);
                word = words_same page.at page.here ∙ page.word ∙ sym (update_other l.word name entered x other);
              };
          absent = λ n q h.
              by_cases (is_page_of x (mark_at t' (place q)))
              (λ y. clash (is_page_of x (mark_at t (place q))) (stood q y) (s.absent (sym (update_other l.live name live x other) ∙ n) q h)) (λ e. e);
          pinned_live = λ y.
              update_other l.live name live x other ∙ s.pinned_live (sym (update_other l.pinned name is_pinned x other) ∙ y);
          allowed = λ y. s.allowed (sym (update_other l.live name live x other) ∙ y);
        }

  pub names_change : ((x : ℕ) → NameSound m t l x) → (x : ℕ) → NameSound m t' l' x
  names_change s x = same_or_not x name (λ e. subst (λ (k : ℕ). NameSound m t' l' k) (sym e) changed_name) (λ n. other_name x n (s x))

-- ---- no page changes

-- each page of either tables stands, with its word, in the other
pub record PagesKept (m : Record) (t t' : Tables) : Type 0 where
  pub forth : (q : ℕ) → q < m.memory.frames → is_page (mark_at t (place q)) ≡ true → mark_at t' (place q) ≡ mark_at t (place q)
  pub back : (q : ℕ) → q < m.memory.frames → is_page (mark_at t' (place q)) ≡ true → mark_at t' (place q) ≡ mark_at t (place q)
  pub words : (q : ℕ) → q < m.memory.frames → is_page (mark_at t (place q)) ≡ true → word_at t' (place q) ≡ word_at t (place q)

-- the ledgers have the same pages
pub record SamePages (l l' : Ledger) (x : ℕ) : Type 0 where
  pub live : l'.live x ≡ l.live x
  pub pinned : l'.pinned x ≡ l.pinned x
  pub word : l'.word x ≡ l.word x

module _ (m m' : Record) (t t' : Tables) (l l' : Ledger) (frames : m'.memory.frames ≡ m.memory.frames) (k : PagesKept m t t') where
  stood_before : (x q : ℕ) → q < m.memory.frames → is_page_of x (mark_at t' (place q)) ≡ true → is_page_of x (mark_at t (place q)) ≡ true
  stood_before x q h e = rw (k.back q h (page_of x (mark_at t' (place q)) e)) at e

  pub names_kept : (x : ℕ) → SamePages l l' x → NameSound m t l x → NameSound m' t' l' x
  names_kept x same s =
      record {
        standing = λ y.
            let page = s.standing (sym same.live ∙ y) in
            let kept = k.forth page.at page.inside (page_of x (mark_at t (place page.at)) page.here) in
            record {
              at = page.at;
              inside = rw frames page.inside;
              here = ap (is_page_of x) kept ∙ page.here;
              only = λ q h e. page.only q (rw frames at h) (stood_before x q (rw frames at h) e);
              pinned = ap (has_kind pinned) kept ∙ page.pinned ∙ sym same.pinned;
              word = k.words page.at page.inside (page_of x (mark_at t (place page.at)) page.here) ∙ page.word ∙ sym same.word;
            };
        absent = λ n q h.
            let h' : q < m.memory.frames = rw frames at h in
            by_cases (is_page_of x (mark_at t' (place q)))
            (λ y. clash (is_page_of x (mark_at t (place q))) (stood_before x q h' y) (s.absent (sym same.live ∙ n) q h')) (λ e. e);
        pinned_live = λ y. same.live ∙ s.pinned_live (sym same.pinned ∙ y);
        allowed = λ y. s.allowed (sym same.live ∙ y);
      }
