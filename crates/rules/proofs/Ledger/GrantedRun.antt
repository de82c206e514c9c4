-- A run of free frames becomes a grant. Assumes nothing.
--     run_inside      a run of bits inside an area is a run of frames inside it
--     RunMarked       the run's first mark has the count, the others are 5, its words 0; run_marked: `mark_run` is that
--     grant_sound     the invariant holds with one more live grant
use Rattle.std.proofs.Common.{◌≡◌, ℕ, suc, ◌+◌, ◌-◌, ◌*◌, ◌%◌, ◌<◌, ◌≤◌, Bool, true, false, ◌||◌, List, ◌∷◌, length, sym, refl, ap, ◌∙◌, subst, mul-le-mul_right, add-mul, div-mul-le_self, arith, length-set, get_or-set_other, get_or-set_same, pow_pos}
use Rattle.std.specs.Prelude.{if◌then◌else◌}
use Rattle.search.specs.Search.{how_many}
use Rattle.search.proofs.Bools.{by_cases, below_or_not, clash}
use Rattle.search.proofs.Counts.{many_run}
use Rattle.frames.specs.declared.Area.{Area}
use Rattle.frames.specs.Units.{frame, place}
use Rattle.frames.specs.Marks.{mark_of, has_kind, is_granted, head, later}
use Rattle.frames.specs.Areas.{end_of, per_bit, bit_count, bits_for}
use Rattle.frames.specs.Tables.{Tables, mark_at, word_at, owner_at, set_page, fill, with_bitmap, with_owners}
use Rattle.rules.specs.declared.Record.{Record}
use Rattle.rules.specs.Record.{frame_at}
use Rattle.rules.specs.Shape.{shape_right}
use Rattle.rules.specs.DeviceCalls.{bad_device, mark_run}
use Rattle.rules.specs.Promises.Changes.{OnlyOwners}
use Rattle.rules.specs.Ledger.Ledger.{Grant, Ledger, grant_of, takes, same_grant, grants_at, is_among, with_grant}
use Rattle.rules.specs.Steps.Invariant.{PlaceSound, OwnerSound, GrantInArea, GrantSound, BitsSound, Sound}
use Rattle.rules.proofs.Ledger.Marks.{is_page, mark_kind, free_page, free_granted, granted_page}
use Rattle.frames.proofs.FillFacts.{get_d_fill_in, get_d_fill_below, get_d_fill_above}
use Rattle.rules.proofs.Divisions.{up_low}
use Rattle.rules.proofs.Promises.Changes.{filled_owners}
use Rattle.rules.proofs.Ledger.FrameRuns.{RunChange, in_run_or_not}
use Rattle.rules.proofs.Ledger.Names.{PagesKept, names_kept}
use Rattle.rules.proofs.Ledger.Grants.{one, takes_low, takes_high, low_takes, at_cons, among_cons, same_grant_lem, head_granted, granted_mark, grant_moved}

-- a run of bits inside an area is a run of frames inside it
pub run_inside : (a : Area) (j count : ℕ) → j + bits_for a count ≤ bit_count a → a.base.0 + j * per_bit a + count ≤ end_of a
run_inside a j count h =
    let d = per_bit a in
    let positive : 0 < d = pow_pos a.order_per_bit in
    let hold = up_low count d positive in
    let wide : (j + bits_for a count) * d ≤ bit_count a * d = mul-le-mul_right d h in
    let parts = add-mul j (bits_for a count) d in
    let fits = div-mul-le_self a.count d in
    omega arith

-- ---- the marked run

-- what a grant of a free run leaves of its marks and words
pub record RunMarked (t t' : Tables) (r count device : ℕ) : Type 0 where
  pub outside : RunChange t t' r count
  pub first : mark_at t' (place r) ≡ mark_of count head
  pub rest : (q : ℕ) → r < q → q < r + count → mark_at t' (place q) ≡ mark_of 0 later
  pub words : (q : ℕ) → r ≤ q → q < r + count → word_at t' (place q) ≡ 0
  pub owners : OnlyOwners t t' r count device

pub run_marked :
    (t : Tables) (bitmap : List ℕ) (r count device : ℕ) →
    1 ≤ count →
    r + count ≤ length t.marks →
    r + count ≤ length t.words →
    r + count ≤ length t.owners →
    RunMarked t (with_owners (with_bitmap (mark_run t (place r) count) bitmap) (fill t.owners r count device)) r count device
run_marked t bitmap r count device some a b c =
    record {
      outside = record {
        marks = λ q out.
            below_or_not q r (λ c. get_d_fill_below 5 marks₁ (suc r) (count - 1) q (omega arith) ∙ get_or-set_other t.marks r q (mark_of count head) 0 (omega arith))
            (λ c.
            below_or_not q (r + count) (λ d. absurd (out c d))
            (λ d. get_d_fill_above 5 marks₁ (suc r) (count - 1) q (omega arith) ∙ get_or-set_other t.marks r q (mark_of count head) 0 (omega arith)));
        words = λ q out.
            below_or_not q r (λ c. get_d_fill_below 0 words₁ (suc r) (count - 1) q (omega arith) ∙ get_or-set_other t.words r q 0 0 (omega arith))
            (λ c.
            below_or_not q (r + count) (λ d. absurd (out c d))
            (λ d. get_d_fill_above 0 words₁ (suc r) (count - 1) q (omega arith) ∙ get_or-set_other t.words r q 0 0 (omega arith)));
      };
      owners = filled_owners t (with_bitmap (mark_run t (place r) count) bitmap) r count device c;
      first = get_d_fill_below 5 marks₁ (suc r) (count - 1) r (omega arith) ∙ get_or-set_same t.marks r (mark_of count head) 0 (omega arith);
      rest = λ q c d. get_d_fill_in 5 marks₁ (suc r) (count - 1) q (omega arith) (omega arith) (rw length-set (omega arith));
      words = λ q c d.
          below_or_not r q (λ e. get_d_fill_in 0 words₁ (suc r) (count - 1) q (omega arith) (omega arith) (rw length-set (omega arith)))
          (λ e.
          let here : q ≡ r = omega arith in
          rw here (get_d_fill_below 0 words₁ (suc r) (count - 1) r (omega arith) ∙ get_or-set_same t.words r 0 0 (omega arith)));
    }
  where
    marks₁ : List ℕ
    marks₁ = (set_page t (place r) (mark_of count head) 0).marks

    words₁ : List ℕ
    words₁ = (set_page t (place r) (mark_of count head) 0).words

-- ---- a free run becomes a grant

module _ (m : Record) (t t' : Tables) (l : Ledger) (s : Sound m t l) (r count device : ℕ) (some : 1 ≤ count) (inside : r + count ≤ m.memory.frames) (free_run : (q : ℕ) → r ≤ q → q < r + count → has_kind 0 (mark_at t (place q)) ≡ true) (marked : RunMarked t t' r count device) where
  abbrev g : Grant
  g = grant_of (frame (m.memory.base.0 + r)) count

  abbrev l' : Ledger
  l' = with_grant l g device

  pub now_granted : (q : ℕ) → r ≤ q → q < r + count → is_granted (mark_at t' (place q)) ≡ true
  now_granted q a b =
      below_or_not r q (λ c. ap is_granted (marked.rest q c b))
      (λ c. let here : q ≡ r = omega arith in rw here (ap is_granted marked.first ∙ head_granted count))

  taken : (q : ℕ) → r ≤ q → q < r + count → takes g (frame_at m (place q)) ≡ true
  taken q a b = low_takes g (frame_at m (place q)) (omega arith) (omega arith)

  not_taken : (q : ℕ) → (r ≤ q → q < r + count → ⊥) → takes g (frame_at m (place q)) ≡ false
  not_taken q out =
      by_cases (takes g (frame_at m (place q)))
      (λ e.
      let a = takes_low g (frame_at m (place q)) e in
      let b = takes_high g (frame_at m (place q)) e in
      absurd (out (omega arith) (omega arith)))
      (λ e. e)

  was_ungranted : (q : ℕ) → r ≤ q → q < r + count → is_granted (mark_at t (place q)) ≡ false
  was_ungranted q a b = free_granted (mark_at t (place q)) (free_run q a b)

  pages : PagesKept m t t'
  pages =
      record {
        forth = λ q h e.
            in_run_or_not q r count (λ a b. clash (is_page (mark_at t (place q))) e (free_page (mark_at t (place q)) (free_run q a b))) (λ o. marked.outside.marks q o);
        back = λ q h e.
            in_run_or_not q r count (λ a b. clash (is_page (mark_at t' (place q))) e (granted_page (mark_at t' (place q)) (now_granted q a b))) (λ o. marked.outside.marks q o);
        words = λ q h e.
            in_run_or_not q r count (λ a b. clash (is_page (mark_at t (place q))) e (free_page (mark_at t (place q)) (free_run q a b))) (λ o. marked.outside.words q o);
      }

  small_kind : (q : ℕ) → r ≤ q → q < r + count → mark_at t' (place q) % 8 < 6
  small_kind q a b =
      below_or_not r q (λ c. rw (marked.rest q c b) (omega arith))
      (λ c. let here : q ≡ r = omega arith in rw (here, marked.first) (omega arith))

  unfixed : (q : ℕ) → r ≤ q → q < r + count → has_kind 3 (mark_at t' (place q)) ≡ false
  unfixed q a b =
      below_or_not r q (λ c. ap (has_kind 3) (marked.rest q c b))
      (λ c. let here : q ≡ r = omega arith in rw here (ap (has_kind 3) marked.first ∙ rw (mark_kind count 4 (omega arith))))

  granted_place : (q : ℕ) → q < m.memory.frames → PlaceSound m l' q (mark_at t' (place q)) (word_at t' (place q))
  granted_place q h =
      in_run_or_not q r count
      (λ a b.
      record {
        used = small_kind q a b;
        empty = λ _. marked.words q a b;
        ordinary = λ e. clash (has_kind 3 (mark_at t' (place q))) e (unfixed q a b);
        granted = λ _. marked.words q a b ∙ ap (λ (b : Bool). if b then 0 else l.device_word (m.memory.base.0 + q)) (sym (taken q a b));
      })
      (λ o.
      let old = s.places q h in
      rw (marked.outside.marks q o, marked.outside.words q o)
      (record {
        used = old.used;
        empty = old.empty;
        ordinary = old.ordinary;
        granted = λ e. old.granted e ∙ ap (λ (b : Bool). if b then 0 else l.device_word (m.memory.base.0 + q)) (sym (not_taken q o));
      }))

  old_grant : (h : Grant) → GrantSound m t h → GrantSound m t' h
  old_grant h old =
      grant_moved m t t' h old
      (λ p a b. marked.outside.marks p (λ u v. clash (is_granted (mark_at t (place p))) (granted_mark m t h old p a b) (was_ungranted p u v)))

  new_grant : GrantInArea m g → GrantSound m t' g
  new_grant area =
      record {
        some = some;
        low = omega arith;
        high = omega arith;
        first = ap (λ (x : ℕ). mark_at t' (place x)) (omega arith) ∙ marked.first;
        rest = λ p a b. marked.rest p (omega arith) (omega arith);
        in_area = area;
      }

  all_grants : GrantInArea m g → (h : Grant) → is_among (g ∷ l.grants) h ≡ true → GrantSound m t' h
  all_grants area h e =
      by_cases (same_grant g h) (λ k. subst (λ (x : Grant). GrantSound m t' x) (same_grant_lem g h k) (new_grant area))
      (λ k. old_grant h (s.grants h (sym (ap (λ (b : Bool). b || is_among l.grants h) k) ∙ sym (among_cons g l.grants h) ∙ e)))

  all_covered : (q : ℕ) → q < m.memory.frames → grants_at (g ∷ l.grants) (frame_at m (place q)) ≡ (if is_granted (mark_at t' (place q)) then 1 else 0)
  all_covered q h =
      let split = at_cons g l.grants (frame_at m (place q)) in
      in_run_or_not q r count
      (λ a b.
      let here : one g (frame_at m (place q)) ≡ 1 = ap (λ (b : Bool). if b then 1 else 0) (taken q a b) in
      let none : grants_at l.grants (frame_at m (place q)) ≡ 0 = s.covered q h ∙ ap (λ (b : Bool). if b then 1 else 0) (was_ungranted q a b) in
      let all : grants_at (g ∷ l.grants) (frame_at m (place q)) ≡ 1 = omega arith in
      all ∙ ap (λ (b : Bool). if b then 1 else 0) (sym (now_granted q a b)))
      (λ o.
      let here : one g (frame_at m (place q)) ≡ 0 = ap (λ (b : Bool). if b then 1 else 0) (not_taken q o) in
      let same : grants_at (g ∷ l.grants) (frame_at m (place q)) ≡ grants_at l.grants (frame_at m (place q)) = omega arith in
      same ∙ s.covered q h ∙ ap (λ (x : ℕ). if is_granted x then 1 else 0) (sym (marked.outside.marks q o)))

  more_granted : how_many (λ p. is_granted (mark_at t' (place p))) 0 m.memory.frames + l.released ≡ l.granted + count
  more_granted =
      let more =
      many_run (λ p. is_granted (mark_at t' (place p))) (λ p. is_granted (mark_at t (place p))) m.memory.frames r count inside now_granted was_ungranted
      (λ k h o. ap is_granted (marked.outside.marks k o))
      in
      let before = s.total in
      omega arith

  new_owner : bad_device device ≡ false → (q : ℕ) → q < m.memory.frames → OwnerSound m l' q (owner_at t' (place q)) (is_granted (mark_at t' (place q)))
  new_owner good q h =
      in_run_or_not q r count
      (λ a b.
      rw (marked.owners.run q a b)
      (record {
        owned = λ _. ap (λ (b : Bool). if b then device else l.device (m.memory.base.0 + q)) (sym (taken q a b));
        known = λ _. good;
        none = λ e. clash (is_granted (mark_at t' (place q))) (now_granted q a b) e;
      }))
      (λ o.
      let old = s.owners q h in
      rw (marked.outside.marks q o, marked.owners.others q o)
      (record {
        owned = λ e. old.owned e ∙ ap (λ (b : Bool). if b then device else l.device (m.memory.base.0 + q)) (sym (not_taken q o));
        known = old.known;
        none = old.none;
      }))

  pub grant_sound : shape_right m t' ≡ true → bad_device device ≡ false → GrantInArea m g → BitsSound m t' → Sound m t' l'
  grant_sound shape good area bits =
      record {
        shape = shape;
        records = s.records;
        places = granted_place;
        names = λ x. names_kept m m t t' l l' refl pages x (record { live = refl; pinned = refl; word = refl }) (s.names x);
        grants = all_grants area;
        covered = all_covered;
        total = more_granted;
        bits = bits;
        owners = new_owner good;
      }

  pub run_pins : (p : ℕ) → p < m.memory.frames → has_kind 2 (mark_at t (place p)) ≡ true → is_page (mark_at t (place p)) ≡ true → mark_at t' (place p) ≡ mark_at t (place p)
  run_pins p h e k = pages.forth p h k
