-- The movable pages of a run go to the first targets, in order, and nothing else outside the run changes. Assumes nothing.
use Rattle.std.proofs.Common.{◌≡◌, ℕ, zero, suc, ◌+◌, ◌-◌, ◌<◌, ◌≤◌, Bool, true, false, eqb, ◌≢◌, length, set, sym, refl, ap, ◌∙◌, subst, arith, length-set, get_or-set_other, get_or-set_same, eqb-true}
use borrow.Author.Tests.{eqb-false}
use Rattle.search.specs.Search.{how_many}
use Rattle.search.proofs.Bools.{by_cases, below_or_not, clash}
use Rattle.search.proofs.Counts.{many_none, many_pass, many_fail, many_cong}
use Rattle.frames.specs.Units.{place}
use Rattle.frames.specs.Marks.{kind_of, has_kind, free, movable}
use Rattle.frames.specs.Tables.{Tables, mark_at, word_at}
use Rattle.rules.specs.declared.Record.{Record}
use Rattle.rules.specs.Targets.{in_area_at, is_target, targets, first_target}
use Rattle.rules.specs.DeviceCalls.{move_page, move_out}
use Rattle.rules.specs.Promises.Moves.{movers_before, targets_before, MovesTo}
use Rattle.rules.specs.Promises.Changes.{Same}
use Rattle.rules.proofs.Targets.{target_outside, target_known, target_test, first_inside, first_target_lem, first_rank, Left, taken, other_target, was_target, targets_fall, rank_falls}

-- the tables have a mark and a word for each frame
pub record Sized (m : Record) (t : Tables) : Type 0 where
  pub marks : length t.marks ≡ m.memory.frames
  pub words : length t.words ≡ m.memory.frames

module _ (m : Record) (i : ℕ) (known : i < m.memory.declared) where
  abbrev is_mover : Tables → ℕ → Bool
  is_mover t q = has_kind movable (mark_at t (place q))

  abbrev target : Tables → ℕ → Bool
  target t q = is_target m t i (place q)

  -- the d frames from p on are in area i, and their movers have somewhere to go
  pub record Ready (t : Tables) (p d : ℕ) : Type 0 where
    pub sized : Sized m t
    pub inside : p + d ≤ m.memory.frames
    pub in_area : (q : ℕ) → p ≤ q → q < p + d → in_area_at m i (place q) ≡ true
    pub room : how_many (is_mover t) p d ≤ targets m t i

  pub record Moved (t t' : Tables) (p d : ℕ) : Type 0 where
    pub sized : Sized m t'
    pub bitmap : t'.bitmap ≡ t.bitmap
    pub arrives : (q : ℕ) → p ≤ q → q < p + d → is_mover t q ≡ true → (r : ℕ) × MovesTo m i t t' p q r
    pub stays :
        (q : ℕ) →
        (p ≤ q → q < p + d → ⊥) → (q < m.memory.frames → target t q ≡ true → how_many (is_mover t) p d ≤ targets_before m t i q) → Same t t' q
    -- each of the first targets, as many as there are movers, holds a movable page
    pub filled : (q : ℕ) → q < m.memory.frames → target t q ≡ true → targets_before m t i q < how_many (is_mover t) p d → is_mover t' q ≡ true

  -- ---- one move
  module _ (t : Tables) (p d : ℕ) (ready : Ready t p (suc d)) (mover : is_mover t p ≡ true) where
    abbrev r₀ : ℕ
    r₀ = (first_target m t i).0

    abbrev t₁ : Tables
    t₁ = move_page m t i (place p)

    movers_here : how_many (is_mover t) p (suc d) ≡ suc (how_many (is_mover t) (suc p) d)
    movers_here = many_pass (is_mover t) p d mover

    some : 0 < targets m t i
    some = omega (arith, ready.room, movers_here)

    r₀_inside : r₀ < m.memory.frames
    r₀_inside = first_inside m i known t some

    r₀_target : target t r₀ ≡ true
    r₀_target = first_target_lem m i known t r₀_inside

    r₀_apart : (q : ℕ) → p ≤ q → q < p + suc d → q ≢ r₀
    r₀_apart q a b e =
        clash (in_area_at m i (place r₀)) (subst (λ (k : ℕ). in_area_at m i (place k) ≡ true) e (ready.in_area q a b)) (target_outside m i known t r₀ r₀_target)

    p_apart : p ≢ r₀
    p_apart = r₀_apart p (omega arith) (omega arith)

    sized₁ : Sized m t₁
    unfolding move_page
    sized₁ = rw mover (record { marks = simp length-set ready.sized.marks; words = simp length-set ready.sized.words })

    bitmap₁ : t₁.bitmap ≡ t.bitmap
    unfolding move_page
    bitmap₁ = rw mover

    mark_there : mark_at t₁ (place r₀) ≡ mark_at t (place p)
    unfolding move_page
    mark_there =
        rw mover
        (get_or-set_other (set t.marks r₀ (mark_at t (place p))) p r₀ 0 0 (λ e. p_apart (sym e)) ∙
        get_or-set_same t.marks r₀ (mark_at t (place p)) 0 (omega (arith, r₀_inside, ready.sized.marks)))

    word_there : word_at t₁ (place r₀) ≡ word_at t (place p)
    unfolding move_page
    word_there =
        rw mover
        (get_or-set_other (set t.words r₀ (word_at t (place p))) p r₀ 0 0 (λ e. p_apart (sym e)) ∙
        get_or-set_same t.words r₀ (word_at t (place p)) 0 (omega (arith, r₀_inside, ready.sized.words)))

    mark_other : (q : ℕ) → q ≢ p → q ≢ r₀ → mark_at t₁ (place q) ≡ mark_at t (place q)
    unfolding move_page
    mark_other q a b =
        rw mover (get_or-set_other (set t.marks r₀ (mark_at t (place p))) p q 0 0 a ∙ get_or-set_other t.marks r₀ q (mark_at t (place p)) 0 b)

    word_other : (q : ℕ) → q ≢ p → q ≢ r₀ → word_at t₁ (place q) ≡ word_at t (place q)
    unfolding move_page
    word_other q a b =
        rw mover (get_or-set_other (set t.words r₀ (word_at t (place p))) p q 0 0 a ∙ get_or-set_other t.words r₀ q (word_at t (place p)) 0 b)

    -- the targets are those before, less the first
    left : Left m i known t r₀_inside t₁ p
    left = record { from = ready.in_area p (omega arith) (omega arith); here = ap (has_kind free) mark_there ∙ not_free (mark_at t (place p)) mover; others = mark_other }
      where
        not_free : (k : ℕ) → has_kind movable k ≡ true → has_kind free k ≡ false
        not_free k e = rw (eqb-true (kind_of k) movable e)

    movers_same : (q : ℕ) → suc p ≤ q → q < p + suc d → is_mover t₁ q ≡ is_mover t q
    movers_same q a b = ap (has_kind movable) (mark_other q (λ e. absurd (omega arith)) (r₀_apart q (omega arith) b))

    ready₁ : Ready t₁ (suc p) d
    ready₁ =
        record {
          sized = sized₁;
          inside = omega (arith, ready.inside);
          in_area = λ q a b. ready.in_area q (omega arith) (omega arith);
          room = omega (arith, ready.room, movers_here, targets_fall m i known t r₀_inside left, many_cong (is_mover t₁) (is_mover t) (suc p) d (λ q a b. movers_same q a (omega arith)));
        }

    module _ (t' : Tables) (ih : Moved t₁ t' (suc p) d) where
      before₁ : (q : ℕ) → suc p ≤ q → q < p + suc d → movers_before t p q ≡ suc (movers_before t₁ (suc p) q)
      before₁ q a b =
          let e : q - p ≡ suc (q - suc p) = omega arith in
          ap (λ (k : ℕ). how_many (is_mover t) p k) e ∙ many_pass (is_mover t) p (q - suc p) mover ∙
          ap suc (sym (many_cong (is_mover t₁) (is_mover t) (suc p) (q - suc p) (λ k u v. movers_same k u (omega arith))))

      first_stays : Same t₁ t' r₀
      first_stays = ih.stays r₀ (λ a b. r₀_apart r₀ (omega arith) (omega arith) refl) (λ _ e. clash (target t₁ r₀) e (taken m i known t r₀_inside left))

      first_arrives : MovesTo m i t t' p p r₀
      first_arrives =
          let s = first_stays in
          let z : p - p ≡ 0 = omega arith in
          record {
            target = target_known m i known t r₀ r₀_inside r₀_target;
            in_order = first_rank m i known t r₀_inside ∙ sym (ap (λ (k : ℕ). how_many (is_mover t) p k) z ∙ many_none (is_mover t) p);
            mark = s.mark ∙ mark_there;
            word = s.word ∙ word_there;
          }

      later_arrives : (q : ℕ) → suc p ≤ q → q < p + suc d → is_mover t q ≡ true → (r : ℕ) × MovesTo m i t t' p q r
      later_arrives q a b e =
          let w = ih.arrives q a (omega arith) (movers_same q a b ∙ e) in
          let f = w.1 in
          let n = r₀_apart q (omega arith) b in
          let k : q ≢ p = λ s. absurd (omega arith) in (
            w.0,
            record {
              target = target_known m i known t w.0 f.target.in_memory (was_target m i known t r₀_inside left w.0 (target_test m i known t₁ w.0 f.target));
              in_order = rank_falls m i known t r₀_inside left w.0 f.target.in_memory (target_test m i known t₁ w.0 f.target) ∙ ap suc f.in_order ∙ sym (before₁ q a b);
              mark = f.mark ∙ mark_other q k n;
              word = f.word ∙ word_other q k n;
            },
          )

      stays₁ : (q : ℕ) → (p ≤ q → q < p + suc d → ⊥) → (q < m.memory.frames → target t q ≡ true → how_many (is_mover t) p (suc d) ≤ targets_before m t i q) → Same t t' q
      stays₁ q out bound =
          let not_r₀ : q ≢ r₀ =
          λ e.
          absurd
          (omega
          (arith, bound (omega (arith, r₀_inside)) (subst (λ (k : ℕ). target t k ≡ true) (sym e) r₀_target), movers_here, ap (targets_before m t i) e ∙ first_rank m i known t r₀_inside)) in
          let not_p : q ≢ p = λ e. out (omega arith) (omega arith) in
          let s =
          ih.stays q (λ a b. out (omega arith) (omega arith))
          (λ h e.
          omega (arith, bound h (was_target m i known t r₀_inside left q e), movers_here, rank_falls m i known t r₀_inside left q h e, many_cong (is_mover t₁) (is_mover t) (suc p) d (λ k u v. movers_same k u (omega arith)))) in
          record { mark = s.mark ∙ mark_other q not_p not_r₀; word = s.word ∙ word_other q not_p not_r₀ }

      filled₁ : (q : ℕ) → q < m.memory.frames → target t q ≡ true → targets_before m t i q < how_many (is_mover t) p (suc d) → is_mover t' q ≡ true
      filled₁ q h e l =
          by_cases (eqb q r₀) (λ s. rw (eqb-true q r₀ s) (ap (has_kind movable) (first_stays.mark ∙ mark_there) ∙ mover))
          (λ s.
          let e₁ : target t₁ q ≡ true = other_target m i known t r₀_inside left q (eqb-false q r₀ s) ∙ e in
          ih.filled q h e₁
          (omega (arith, movers_here, rank_falls m i known t r₀_inside left q h e₁, many_cong (is_mover t₁) (is_mover t) (suc p) d (λ k u v. movers_same k u (omega arith)))))

      moved₁ : Moved t t' p (suc d)
      moved₁ =
          record {
            sized = ih.sized;
            bitmap = ih.bitmap ∙ bitmap₁;
            arrives = λ q a b e. below_or_not p q (λ h. later_arrives q h b e) (λ h. subst (λ (k : ℕ). (r : ℕ) × MovesTo m i t t' p k r) (omega arith) (r₀, first_arrives));
            stays = stays₁;
            filled = filled₁;
          }

  -- ---- no move
  stands : (t : Tables) (p : ℕ) → is_mover t p ≡ false → move_page m t i (place p) ≡ t
  unfolding move_page
  stands t p e = rw e

  ready₀ : (t : Tables) (p d : ℕ) → Ready t p (suc d) → is_mover t p ≡ false → Ready t (suc p) d
  ready₀ t p d ready e =
      record {
        sized = ready.sized;
        inside = omega (arith, ready.inside);
        in_area = λ q a b. ready.in_area q (omega arith) (omega arith);
        room = omega (arith, ready.room, many_fail (is_mover t) p d e);
      }

  moved₀ : (t : Tables) (p d : ℕ) → is_mover t p ≡ false → (t' : Tables) → Moved t t' (suc p) d → Moved t t' p (suc d)
  moved₀ t p d e t' ih =
      record {
        sized = ih.sized;
        bitmap = ih.bitmap;
        arrives =
            λ q a b f.
            below_or_not p q (λ h. later q h b f)
            (λ h. clash (is_mover t q) f (subst (λ (k : ℕ). is_mover t k ≡ false) (omega arith) e));
        stays =
            λ q out bound.
            by_cases (eqb q p) (λ s. absurd (out (omega (arith, eqb-true q p s)) (omega (arith, eqb-true q p s))))
            (λ s. ih.stays q (λ a b. out (omega arith) (omega arith)) (λ h f. omega (arith, bound h f, many_fail (is_mover t) p d e)));
        filled = λ q h f l. ih.filled q h f (omega (arith, many_fail (is_mover t) p d e));
      }
    where
      later : (q : ℕ) → suc p ≤ q → q < p + suc d → is_mover t q ≡ true → (r : ℕ) × MovesTo m i t t' p q r
      later q a b f =
          let w = ih.arrives q a (omega arith) f in
          let g = w.1 in
          let k : q - p ≡ suc (q - suc p) = omega arith in (
            w.0,
            record {
              target = g.target;
              in_order = g.in_order ∙ sym (ap (λ (x : ℕ). how_many (is_mover t) p x) k ∙ many_fail (is_mover t) p (q - suc p) e);
              mark = g.mark;
              word = g.word;
            },
          )

  -- ---- all of them
  pub moved_all : (t : Tables) (p d : ℕ) → Ready t p d → Moved t (move_out m t i (place p) d) p d
  unfolding move_out
  moved_all t p zero ready =
      record {
        sized = ready.sized;
        bitmap = refl;
        arrives = λ q a b e. absurd (omega arith);
        stays = λ q out bound. record { mark = refl; word = refl };
        filled = λ q h e l. absurd (omega (arith, many_none (is_mover t) p));
      }
  moved_all t p (suc d) ready =
      by_cases (is_mover t p)
      (λ e. moved₁ t p d ready e _ (moved_all (move_page m t i (place p)) (suc p) d (ready₁ t p d ready e)))
      (λ e. rw (stands t p e) (moved₀ t p d e _ (moved_all t (suc p) d (ready₀ t p d ready e))))
