-- A head mark is a live grant's, and the run that an accepted release names is the run of one live grant, and of no other. Assumes nothing.
--     granted_once    a granted frame is one live grant's
--     head_grant      a frame of kind 4 is the first of a live grant, whose count is the mark's field
--     Releasable      what an accepted release has checked
--     OneGrant        the run is in memory and granted, and without that grant no live grant has a frame of it; one_grant: so it is
use Rattle.std.proofs.Common.{◌≡◌, ℕ, ◌+◌, ◌-◌, ◌%◌, ◌<◌, ◌≤◌, Bool, true, sym, ap, ◌∙◌, arith}
use Rattle.std.specs.Prelude.{if◌then◌else◌}
use Rattle.search.proofs.Bools.{by_cases, below_or_not}
use Rattle.frames.specs.declared.Frame.{Frame}
use Rattle.frames.specs.Units.{frame, place}
use Rattle.frames.specs.Marks.{field_of, mark_of, has_kind, is_granted, head}
use Rattle.frames.specs.Areas.{is_multiple, end_of, per_bit}
use Rattle.frames.specs.Tables.{Tables, mark_at}
use Rattle.rules.specs.declared.Record.{Record}
use Rattle.rules.specs.Record.{area_at, place_of, frame_at, end_frame}
use Rattle.rules.specs.Ledger.Ledger.{Grant, Ledger, grant_of, takes, grants_at, is_among, without}
use Rattle.rules.specs.Steps.Invariant.{GrantSound, Sound}
use Rattle.rules.proofs.Ledger.Marks.{has_kind_lem, mark_field}
use Rattle.rules.proofs.Ledger.Grants.{one, takes_low, takes_high, low_takes, TakenBy, at_among, without_at, granted_mark}

-- a granted frame is one live grant's
pub granted_once :
    (m : Record) (t : Tables) (l : Ledger) →
    Sound m t l → (q : ℕ) → q < m.memory.frames → is_granted (mark_at t (place q)) ≡ true → grants_at l.grants (frame_at m (place q)) ≡ 1
granted_once m t l s q h e = s.covered q h ∙ ap (λ (b : Bool). if b then 1 else 0) e

module _ (m : Record) (t : Tables) (l : Ledger) (s : Sound m t l) (p : ℕ) (inside : p < m.memory.frames) (first : has_kind head (mark_at t (place p)) ≡ true) where
  taken : TakenBy l.grants (frame_at m (place p))
  taken =
      let many = granted_once m t l s p inside (rw (has_kind_lem 4 (mark_at t (place p)) first)) in
      at_among l.grants (frame_at m (place p)) (omega arith)

  abbrev owner : Grant
  owner = taken.by

  owner_sound : GrantSound m t owner
  owner_sound = s.grants owner taken.among

  -- it is the grant's first frame, since the later ones have kind 5
  starts_here : owner.first.0 ≡ m.memory.base.0 + p
  starts_here =
      let low = owner_sound.low in
      let a = takes_low owner (frame_at m (place p)) taken.taken in
      let b = takes_high owner (frame_at m (place p)) taken.taken in
      below_or_not owner.first.0 (m.memory.base.0 + p)
      (λ c.
      let mark = owner_sound.rest p (omega arith) (omega arith) in
      let five : mark_at t (place p) % 8 ≡ 5 = ap (λ (x : ℕ). x % 8) mark in
      let four : mark_at t (place p) % 8 ≡ 4 = has_kind_lem 4 (mark_at t (place p)) first in
      absurd (omega arith))
      (λ c. omega arith)

  counts_here : owner.count ≡ field_of (mark_at t (place p))
  counts_here =
      let at = starts_here in
      let same : p ≡ owner.first.0 - m.memory.base.0 = omega arith in
      let mark : mark_at t (place p) ≡ mark_of owner.count head = ap (λ (x : ℕ). mark_at t (place x)) same ∙ owner_sound.first in
      sym (mark_field owner.count 4 (omega arith)) ∙ ap field_of (sym mark)

  pub head_grant : is_among l.grants (grant_of (frame_at m (place p)) (field_of (mark_at t (place p)))) ≡ true
  head_grant =
      let a = starts_here in
      let b = counts_here in
      let same : owner ≡ grant_of (frame_at m (place p)) (field_of (mark_at t (place p))) = λ i. record { first = frame (a i); count = b i } in
      sym (ap (is_among l.grants) same) ∙ taken.among

-- what an accepted release has checked, but for the later frames' kinds, which the invariant says already
pub record Releasable (m : Record) (t : Tables) (i : ℕ) (f : Frame) (count : ℕ) : Type 0 where
  pub declared : i < m.memory.declared
  pub above : (area_at m i).base.0 ≤ f.0
  pub below : f.0 + count ≤ end_of (area_at m i)
  pub on_bit : is_multiple (f.0 - (area_at m i).base.0) (per_bit (area_at m i)) ≡ true
  pub some : 1 ≤ count
  pub low : m.memory.base.0 ≤ f.0
  pub high : f.0 + count ≤ end_frame m
  pub first : has_kind head (mark_at t (place_of m f)) ≡ true
  pub field : field_of (mark_at t (place_of m f)) ≡ count

module _ (m : Record) (t : Tables) (l : Ledger) (s : Sound m t l) (i : ℕ) (f : Frame) (count : ℕ) (ok : Releasable m t i f count) where
  abbrev r : ℕ
  r = (place_of m f).0

  abbrev g : Grant
  g = grant_of f count

  run_in_memory : r + count ≤ m.memory.frames
  run_in_memory = let low = ok.low in let high = ok.high in let some = ok.some in omega arith

  among : is_among l.grants g ≡ true
  among =
      let low = ok.low in
      let some = ok.some in
      let inside = run_in_memory in
      let at : m.memory.base.0 + r ≡ f.0 = omega arith in
      ap (λ (x : ℕ). is_among l.grants (grant_of (frame x) count)) (sym at) ∙
      ap (λ (x : ℕ). is_among l.grants (grant_of (frame_at m (place r)) x)) (sym ok.field) ∙
      head_grant m t l s r (omega arith) ok.first

  granted_here : (q : ℕ) → r ≤ q → q < r + count → is_granted (mark_at t (place q)) ≡ true
  granted_here = granted_mark m t g (s.grants g among)

  abbrev rest_of : ℕ → ℕ
  rest_of q = grants_at (without l.grants g) (frame_at m (place q))

  parted : (q : ℕ) → grants_at l.grants (frame_at m (place q)) ≡ one g (frame_at m (place q)) + rest_of q
  parted q = without_at l.grants g (frame_at m (place q)) among

  -- no other live grant has a frame of the run
  alone : (q : ℕ) → r ≤ q → q < r + count → rest_of q ≡ 0
  alone q a b =
      let low = ok.low in
      let inside = run_in_memory in
      let split = parted q in
      let here : one g (frame_at m (place q)) ≡ 1 = ap (λ (b : Bool). if b then 1 else 0) (low_takes g (frame_at m (place q)) (omega arith) (omega arith)) in
      let once = granted_once m t l s q (omega arith) (granted_here q a b) in
      omega arith

  outside_one : (q : ℕ) → (r ≤ q → q < r + count → ⊥) → one g (frame_at m (place q)) ≡ 0
  outside_one q out =
      let low = ok.low in
      by_cases (takes g (frame_at m (place q)))
      (λ e.
      let a = takes_low g (frame_at m (place q)) e in
      let b = takes_high g (frame_at m (place q)) e in
      absurd (out (omega arith) (omega arith)))
      (λ e. ap (λ (b : Bool). if b then 1 else 0) e)

-- what the other files use of it
pub record OneGrant (m : Record) (t : Tables) (l : Ledger) (f : Frame) (count : ℕ) : Type 0 where
  pub in_memory : (place_of m f).0 + count ≤ m.memory.frames
  pub granted : (q : ℕ) → (place_of m f).0 ≤ q → q < (place_of m f).0 + count → is_granted (mark_at t (place q)) ≡ true
  pub parted :
      (q : ℕ) →
      grants_at l.grants (frame_at m (place q)) ≡
      one (grant_of f count) (frame_at m (place q)) + grants_at (without l.grants (grant_of f count)) (frame_at m (place q))
  pub alone :
      (q : ℕ) →
      (place_of m f).0 ≤ q → q < (place_of m f).0 + count → grants_at (without l.grants (grant_of f count)) (frame_at m (place q)) ≡ 0
  pub outside :
      (q : ℕ) → ((place_of m f).0 ≤ q → q < (place_of m f).0 + count → ⊥) → one (grant_of f count) (frame_at m (place q)) ≡ 0

pub one_grant : (m : Record) (t : Tables) (l : Ledger) → Sound m t l → (i : ℕ) (f : Frame) (count : ℕ) → Releasable m t i f count → OneGrant m t l f count
one_grant m t l s i f count ok =
    record {
      in_memory = run_in_memory m t l s i f count ok;
      granted = granted_here m t l s i f count ok;
      parted = parted m t l s i f count ok;
      alone = alone m t l s i f count ok;
      outside = outside_one m t l s i f count ok;
    }
