-- Live grants and their marks. Assumes nothing.
--     takes_low, takes_high, low_takes     a frame of a grant
--     among_at, at_among       a grant of a list takes its frames; a frame that is taken is some grant's
--     without_at, without_among            a list without one of its grants
--     GrantsKept               no granted mark changes; `granted_same`, `grant_kept`, `total_kept`: so the grants stand
use Rattle.std.proofs.Common.{◌≡◌, ℕ, ◌+◌, ◌<◌, ◌≤◌, Bool, true, false, ◌||◌, eqb, ltb, leb, List, [], ◌∷◌, sym, refl, ap, ◌∙◌, arith, ltb-false, ltb-true, lt-ltb, eq-eqb, eqb-true, le-leb, leb-true}
use Rattle.std.specs.Prelude.{if◌then◌else◌}
use Rattle.search.specs.Search.{how_many}
use Rattle.search.proofs.Bools.{by_cases, clash, and_left, and_right, and_both, or_true_right}
use Rattle.search.proofs.Counts.{many_cong}
use Rattle.frames.specs.declared.Frame.{Frame}
use Rattle.frames.specs.Units.{frame, place}
use Rattle.frames.specs.Marks.{mark_of, is_granted, head}
use Rattle.frames.specs.Tables.{Tables, mark_at}
use Rattle.rules.specs.declared.Record.{Record}
use Rattle.rules.specs.Record.{place_of}
use Rattle.rules.specs.Ledger.Ledger.{Grant, takes, same_grant, grants_at, is_among, without}
use Rattle.rules.specs.Steps.Invariant.{GrantSound}
use Rattle.rules.proofs.Ledger.Marks.{mark_kind}

-- ---- lists of grants

module _ (g : Grant) (f : Frame) where
  pub takes_low : takes g f ≡ true → g.first.0 ≤ f.0
  takes_low e = leb-true g.first.0 f.0 (and_left (leb g.first.0 f.0) (ltb f.0 (g.first.0 + g.count)) e)

  pub takes_high : takes g f ≡ true → f.0 < g.first.0 + g.count
  takes_high e =
      ltb-true f.0 (g.first.0 + g.count) (and_right (leb g.first.0 f.0) (ltb f.0 (g.first.0 + g.count)) e)

  pub low_takes : g.first.0 ≤ f.0 → f.0 < g.first.0 + g.count → takes g f ≡ true
  low_takes a b =
      and_both (leb g.first.0 f.0) (ltb f.0 (g.first.0 + g.count)) (le-leb g.first.0 f.0 a)
      (lt-ltb f.0 (g.first.0 + g.count) b)

pub same_first : (g h : Grant) → same_grant g h ≡ true → g.first.0 ≡ h.first.0
same_first g h e = eqb-true g.first.0 h.first.0 (and_left (eqb g.first.0 h.first.0) (eqb g.count h.count) e)

pub same_count : (g h : Grant) → same_grant g h ≡ true → g.count ≡ h.count
same_count g h e = eqb-true g.count h.count (and_right (eqb g.first.0 h.first.0) (eqb g.count h.count) e)

pub same_grant_lem : (g h : Grant) → same_grant g h ≡ true → g ≡ h
same_grant_lem g h e =
    let a = same_first g h e in
    let b = same_count g h e in
    λ i. record { first = frame (a i); count = b i }

pub same_refl : (g : Grant) → same_grant g g ≡ true
same_refl g =
    and_both (eqb g.first.0 g.first.0) (eqb g.count g.count) (eq-eqb g.first.0 g.first.0 refl)
    (eq-eqb g.count g.count refl)

-- one frame of one grant
abbrev pub one : Grant → Frame → ℕ
one g f = if takes g f then 1 else 0

pub at_cons : (g : Grant) (gs : List Grant) (f : Frame) → grants_at (g ∷ gs) f ≡ one g f + grants_at gs f
unfolding grants_at
at_cons g gs f = refl

pub at_none : (f : Frame) → grants_at [] f ≡ 0
unfolding grants_at
at_none f = refl

pub among_cons : (h : Grant) (hs : List Grant) (g : Grant) → is_among (h ∷ hs) g ≡ (same_grant h g || is_among hs g)
unfolding is_among
among_cons h hs g = refl

pub among_none : (g : Grant) → is_among [] g ≡ false
unfolding is_among
among_none g = refl

pub among_at : (gs : List Grant) (g : Grant) (f : Frame) → is_among gs g ≡ true → takes g f ≡ true → 0 < grants_at gs f
among_at [] g f e h = clash (is_among [] g) e (among_none g)
among_at (k ∷ ks) g f e h =
    by_cases (same_grant k g)
    (λ s.
    let here : takes k f ≡ true = ap (λ (x : Grant). takes x f) (same_grant_lem k g s) ∙ h in
    rw (at_cons, here) (omega arith))
    (λ n.
    let rest : is_among ks g ≡ true = sym (ap (λ (b : Bool). b || is_among ks g) n) ∙ sym (among_cons k ks g) ∙ e in
    let deep = among_at ks g f rest h in
    rw at_cons (omega arith))

pub record TakenBy (gs : List Grant) (f : Frame) : Type 0 where
  pub by : Grant
  pub among : is_among gs by ≡ true
  pub taken : takes by f ≡ true

pub at_among : (gs : List Grant) (f : Frame) → 0 < grants_at gs f → TakenBy gs f
at_among [] f h = absurd (omega (arith, at_none f))
at_among (g ∷ gs) f h =
    by_cases (takes g f) (λ e. record { by = g; among = among_cons g gs g ∙ ap (λ (b : Bool). b || is_among gs g) (same_refl g); taken = e })
    (λ e.
    let rest : 0 < 0 + grants_at gs f = rw (at_cons, e) at h in
    let w = at_among gs f (omega arith) in
    record { by = w.by; among = among_cons g gs w.by ∙ ap (λ (b : Bool). same_grant g w.by || b) w.among ∙ or_true_right (same_grant g w.by); taken = w.taken })

pub without_at : (gs : List Grant) (g : Grant) (f : Frame) → is_among gs g ≡ true → grants_at gs f ≡ one g f + grants_at (without gs g) f
unfolding without
without_at [] g f e = clash (is_among [] g) e (among_none g)
without_at (k ∷ ks) g f e =
    by_cases (same_grant k g) (λ s. rw s (at_cons k ks f ∙ ap (λ (x : Grant). one x f + grants_at ks f) (same_grant_lem k g s)))
    (λ n.
    let rest : is_among ks g ≡ true = sym (ap (λ (b : Bool). b || is_among ks g) n) ∙ sym (among_cons k ks g) ∙ e in
    let deep = without_at ks g f rest in
    rw (n, at_cons k ks f, at_cons k (without ks g) f) (omega arith))

pub without_among : (gs : List Grant) (g h : Grant) → is_among (without gs g) h ≡ true → is_among gs h ≡ true
unfolding without
without_among [] g h e = e
without_among (k ∷ ks) g h e =
    by_cases (same_grant k g)
    (λ s.
    let inside : is_among ks h ≡ true = rw s at e in
    among_cons k ks h ∙ ap (λ (b : Bool). same_grant k h || b) inside ∙ or_true_right (same_grant k h))
    (λ n.
    let outer : is_among (k ∷ without ks g) h ≡ true = rw n at e in
    by_cases (same_grant k h) (λ s. among_cons k ks h ∙ ap (λ (b : Bool). b || is_among ks h) s)
    (λ d.
    let rest : is_among (without ks g) h ≡ true = sym (ap (λ (b : Bool). b || is_among (without ks g) h) d) ∙ sym (among_cons k (without ks g) h) ∙ outer in
    among_cons k ks h ∙ ap (λ (b : Bool). same_grant k h || b) (without_among ks g h rest) ∙ or_true_right (same_grant k h)))

-- ---- no granted mark changes

pub record GrantsKept (m : Record) (t t' : Tables) : Type 0 where
  pub forth : (q : ℕ) → q < m.memory.frames → is_granted (mark_at t (place q)) ≡ true → mark_at t' (place q) ≡ mark_at t (place q)
  pub back : (q : ℕ) → q < m.memory.frames → is_granted (mark_at t' (place q)) ≡ true → mark_at t' (place q) ≡ mark_at t (place q)

-- a sound grant's marks are granted marks inside memory
pub head_granted : (count : ℕ) → is_granted (mark_of count head) ≡ true
head_granted count = rw (mark_kind count 4 (omega arith))

pub granted_mark : (m : Record) (t : Tables) (g : Grant) → GrantSound m t g → (p : ℕ) → (place_of m g.first).0 ≤ p → p < (place_of m g.first).0 + g.count → is_granted (mark_at t (place p)) ≡ true
granted_mark m t g s p a b =
    by_cases (ltb (place_of m g.first).0 p) (λ e. ap is_granted (s.rest p (ltb-true (place_of m g.first).0 p e) b))
    (λ e. ap is_granted (ap (λ (x : ℕ). mark_at t (place x)) (here (place_of m g.first).0 p a e) ∙ s.first) ∙ head_granted g.count)
  where
    here : (x p : ℕ) → x ≤ p → ltb x p ≡ false → p ≡ x
    here x p a e = omega (arith, ltb-false x p e)

-- the grant's own marks do not change
pub grant_moved :
    (m : Record) (t t' : Tables) (g : Grant) →
    GrantSound m t g →
    ((p : ℕ) → (place_of m g.first).0 ≤ p → p < (place_of m g.first).0 + g.count → mark_at t' (place p) ≡ mark_at t (place p)) →
    GrantSound m t' g
grant_moved m t t' g s same =
    let some = s.some in
    record {
      some = s.some;
      low = s.low;
      high = s.high;
      first = same (place_of m g.first).0 (omega arith) (omega arith) ∙ s.first;
      rest = λ p a b. same p (omega arith) b ∙ s.rest p a b;
      in_area = s.in_area;
    }

module _ (m : Record) (t t' : Tables) (k : GrantsKept m t t') where
  pub granted_same : (q : ℕ) → q < m.memory.frames → is_granted (mark_at t' (place q)) ≡ is_granted (mark_at t (place q))
  granted_same q h =
      by_cases (is_granted (mark_at t (place q))) (λ e. ap is_granted (k.forth q h e))
      (λ e. by_cases (is_granted (mark_at t' (place q))) (λ f. ap is_granted (k.back q h f)) (λ f. f ∙ sym e))

  pub grant_kept : (g : Grant) → GrantSound m t g → GrantSound m t' g
  grant_kept g s =
      let some = s.some in
      let low = s.low in
      let high = s.high in
      grant_moved m t t' g s (λ p a b. k.forth p (omega arith) (granted_mark m t g s p a b))

  pub total_kept : how_many (λ p. is_granted (mark_at t' (place p))) 0 m.memory.frames ≡ how_many (λ p. is_granted (mark_at t (place p))) 0 m.memory.frames
  total_kept =
      many_cong (λ p. is_granted (mark_at t' (place p))) (λ p. is_granted (mark_at t (place p))) 0 m.memory.frames (λ q a b. granted_same q (omega arith))
