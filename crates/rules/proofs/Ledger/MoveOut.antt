-- The movable pages of a run leave it for the first targets. Assumes nothing.
--     move_out_lem        the run is free then; pinned pages and the area's other frames stay as they were
use Rattle.std.proofs.Common.{◌≡◌, ℕ, zero, suc, ◌+◌, ◌<◌, ◌≤◌, Bool, true, false, ◌≢◌, sym, refl, ap, ◌∙◌, arith}
use Rattle.search.specs.Search.{how_many}
use Rattle.search.proofs.Bools.{by_cases, below_or_not, clash}
use Rattle.search.proofs.Counts.{many_pass, many_fail, many_cong}
use Rattle.frames.specs.Units.{place}
use Rattle.frames.specs.Marks.{has_kind, can_leave, free, movable, pinned}
use Rattle.frames.specs.Tables.{Tables, mark_at, word_at, set_page}
use Rattle.rules.specs.declared.Record.{Record}
use Rattle.rules.specs.Targets.{in_area_at, is_target, targets, first_target}
use Rattle.rules.specs.DeviceCalls.{move_page, move_out}
use Rattle.rules.specs.Ledger.Ledger.{Ledger}
use Rattle.rules.specs.Steps.Invariant.{Sound}
use Rattle.rules.proofs.Ledger.Marks.{has_kind_lem, leave_cases, kind_has}
use Rattle.rules.proofs.Targets.{target_free, target_outside, first_inside, first_target_lem, targets_fall}
use Rattle.rules.proofs.Ledger.MovePage.{moved_sound, mark_left, mark_arrived, mark_other}

-- the run of d places from p on can be left: its pages can move, it lies in area i, and there is room
pub record CanEmpty (m : Record) (i : ℕ) (t : Tables) (p d : ℕ) : Type 0 where
  pub inside : p + d ≤ m.memory.frames
  pub leave : (q : ℕ) → p ≤ q → q < p + d → can_leave (mark_at t (place q)) ≡ true
  pub area : (q : ℕ) → p ≤ q → q < p + d → in_area_at m i (place q) ≡ true
  pub room : how_many (λ q. has_kind movable (mark_at t (place q))) p d ≤ targets m t i

pub record Emptied (m : Record) (i : ℕ) (t t' : Tables) (l : Ledger) (p d : ℕ) : Type 0 where
  pub sound : Sound m t' l
  pub emptied : (q : ℕ) → p ≤ q → q < p + d → has_kind free (mark_at t' (place q)) ≡ true
  pub area : (q : ℕ) → in_area_at m i (place q) ≡ true → (p ≤ q → q < p + d → ⊥) → mark_at t' (place q) ≡ mark_at t (place q)
  pub pins : (q : ℕ) → has_kind pinned (mark_at t (place q)) ≡ true → mark_at t' (place q) ≡ mark_at t (place q)
  pub bitmap : t'.bitmap ≡ t.bitmap
  pub owners : t'.owners ≡ t.owners

-- one step of it, and what is left to do
pub record Stepped (m : Record) (i : ℕ) (t t' : Tables) (l : Ledger) (p d : ℕ) : Type 0 where
  pub sound : Sound m t' l
  pub emptied : has_kind free (mark_at t' (place p)) ≡ true
  pub area : (q : ℕ) → in_area_at m i (place q) ≡ true → q ≢ p → mark_at t' (place q) ≡ mark_at t (place q)
  pub pins : (q : ℕ) → has_kind pinned (mark_at t (place q)) ≡ true → mark_at t' (place q) ≡ mark_at t (place q)
  pub bitmap : t'.bitmap ≡ t.bitmap
  pub owners : t'.owners ≡ t.owners
  pub rest : CanEmpty m i t' (suc p) d

module _ (m : Record) (i : ℕ) (known : i < m.memory.declared) (l : Ledger) where
  abbrev is_movable : Tables → ℕ → Bool
  is_movable t q = has_kind movable (mark_at t (place q))

  module _ (t : Tables) (p d : ℕ) (s : Sound m t l) (can : CanEmpty m i t p (suc d)) where
    p_inside : p < m.memory.frames
    p_inside = let inside = can.inside in omega arith

    here_area : in_area_at m i (place p) ≡ true
    here_area = can.area p (omega arith) (omega arith)

    stay : has_kind movable (mark_at t (place p)) ≡ false → Stepped m i t t l p d
    stay fixed_here =
        let inside = can.inside in
        let room = can.room in
        let fewer = many_fail (is_movable t) p d fixed_here in
        record {
          sound = s;
          emptied = leave_cases (mark_at t (place p)) (can.leave p (omega arith) (omega arith)) (λ k. kind_has 0 (mark_at t (place p)) k)
              (λ k. clash (has_kind movable (mark_at t (place p))) (kind_has 1 (mark_at t (place p)) k) fixed_here);
          area = λ q a b. refl;
          pins = λ q e. refl;
          bitmap = refl;
          owners = refl;
          rest = record {
            inside = omega arith;
            leave = λ q a b. can.leave q (omega arith) (omega arith);
            area = λ q a b. can.area q (omega arith) (omega arith);
            room = omega arith;
          };
        }

    module _ (moves : has_kind movable (mark_at t (place p)) ≡ true) where
      some : 0 < targets m t i
      some =
          let room = can.room in
          let more = many_pass (is_movable t) p d moves in
          omega arith

      abbrev target : ℕ
      target = (first_target m t i).0

      target_inside : target < m.memory.frames
      target_inside = first_inside m i known t some

      is_first : is_target m t i (place target) ≡ true
      is_first = first_target_lem m i known t target_inside

      target_vacant : has_kind free (mark_at t (place target)) ≡ true
      target_vacant = target_free m i known t target is_first

      -- a frame of the area is no target
      not_target : (k : ℕ) → in_area_at m i (place k) ≡ true → k ≢ target
      not_target k e same =
          clash (in_area_at m i (place k)) e (ap (λ (x : ℕ). in_area_at m i (place x)) same ∙ target_outside m i known t target is_first)

      apart : target ≢ p
      apart same = not_target p here_area (sym same)

      abbrev t₁ : Tables
      t₁ = set_page (set_page t (place target) (mark_at t (place p)) (word_at t (place p))) (place p) 0 0

      gone : mark_at t₁ (place p) ≡ 0
      gone = mark_left m t l s p target p_inside target_inside apart moves target_vacant

      came : mark_at t₁ (place target) ≡ mark_at t (place p)
      came = mark_arrived m t l s p target p_inside target_inside apart moves target_vacant

      others : (k : ℕ) → k ≢ p → k ≢ target → mark_at t₁ (place k) ≡ mark_at t (place k)
      others = mark_other m t l s p target p_inside target_inside apart moves target_vacant

      fewer_targets : targets m t i ≡ suc (targets m t₁ i)
      fewer_targets =
          targets_fall m i known t target_inside
          (record { from = here_area; here = ap (has_kind free) came ∙ rw (has_kind_lem 1 (mark_at t (place p)) moves); others = others })

      same_movers : how_many (is_movable t₁) (suc p) d ≡ how_many (is_movable t) (suc p) d
      same_movers =
          many_cong (is_movable t₁) (is_movable t) (suc p) d
          (λ k a b. ap (has_kind movable) (others k (omega arith) (not_target k (can.area k (omega arith) (omega arith)))))

      step : Stepped m i t t₁ l p d
      step =
          let inside = can.inside in
          let room = can.room in
          let more = many_pass (is_movable t) p d moves in
          let fewer = fewer_targets in
          let same = same_movers in
          record {
            sound = moved_sound m t l s p target p_inside target_inside apart moves target_vacant;
            emptied = ap (has_kind free) gone;
            area = λ k a b. others k b (not_target k a);
            pins = λ k e.
                others k
                (λ a. clash (has_kind pinned (mark_at t (place k))) e (ap (λ (x : ℕ). has_kind pinned (mark_at t (place x))) a ∙ rw (has_kind_lem 1 (mark_at t (place p)) moves)))
                (λ a. clash (has_kind pinned (mark_at t (place k))) e (ap (λ (x : ℕ). has_kind pinned (mark_at t (place x))) a ∙ rw (has_kind_lem 0 (mark_at t (place target)) target_vacant)));
            bitmap = refl;
            owners = refl;
            rest = record {
              inside = omega arith;
              leave = λ k a b.
                  ap can_leave (others k (omega arith) (not_target k (can.area k (omega arith) (omega arith)))) ∙ can.leave k (omega arith) (omega arith);
              area = λ k a b. can.area k (omega arith) (omega arith);
              room = omega arith;
            };
          }

    stepped : Stepped m i t (move_page m t i (place p)) l p d
    unfolding move_page
    stepped =
        by_cases (has_kind movable (mark_at t (place p))) (λ e. rw e (step e)) (λ e. rw e (stay e))

  pub move_out_lem :
      (d p : ℕ) (t : Tables) → Sound m t l → CanEmpty m i t p d → Emptied m i t (move_out m t i (place p) d) l p d
  unfolding move_out
  move_out_lem zero p t s can =
      record {
        sound = s;
        emptied = λ q a b. absurd (omega arith);
        area = λ q a b. refl;
        pins = λ q e. refl;
        bitmap = refl;
        owners = refl;
      }
  move_out_lem (suc d) p t s can =
      let one = stepped t p d s can in
      let all = move_out_lem d (suc p) (move_page m t i (place p)) one.sound one.rest in
      record {
        sound = all.sound;
        emptied = λ q a b.
            below_or_not p q (λ c. all.emptied q (omega arith) (omega arith))
            (λ c.
            let here : q ≡ p = omega arith in
            rw here (ap (has_kind free) (all.area p (can.area p (omega arith) (omega arith)) (λ u v. omega arith)) ∙ one.emptied));
        area = λ q a out.
            all.area q a (λ u v. out (omega arith) (omega arith)) ∙ one.area q a (λ e. out (omega arith) (omega arith));
        pins = λ q e. all.pins q (ap (has_kind pinned) (one.pins q e) ∙ e) ∙ one.pins q e;
        bitmap = all.bitmap ∙ one.bitmap;
        owners = all.owners ∙ one.owners;
      }
