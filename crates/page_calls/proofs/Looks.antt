-- What a page call learns from the scan of the marks and from the look-up. Assumes nothing.
--     frame_inside               the frame at a place of memory is a number that fits
--     refused_so                 a refusal that is passed on is what the clerk sees
--     name_fits                  a page's name is short enough for a mark
--     named_scanned              the scan by name gives where the page stands
--     Named, named, named_passed    what the first checks give, and why
--     look_refused, look_found   what the look-up makes of it
--     LooksUp, looks_up, looked_inside    what the look-up gives, and why: a page that it finds has a mark and a word
--     Live, looked_at, looked_not    what is known of such a page; what the look-up refuses, the call refuses
--     put_not, put_stopped, put_passed    the first checks of a put, whose third is that the name is live
use Prim.Native.Nat.{ℕ, ◌+◌, ◌%◌, ◌^◌, ◌≤◌, ◌<◌, min}
use native.Mathlib.Omega.{arith}
use mathlib.Core.Path.{◌≡◌, refl, sym, ap, subst, ◌∙◌}
use mathlib.Core.Bool.{true, false, not}
use mathlib.Core.List.{List, ◌∷◌}
use lib.Dec.{ltb}
use lib.ListN.{length}
use borrow.Author.Tests.{ltb-true, ltb-false}
use Rattle.std.specs.Prelude.{Option, Some, None, Result, Ok, Err, ok_or, IfOk}
use Rattle.search.specs.Search.{lowest}
use Rattle.search.proofs.Bools.{by_cases, or_right}
use Rattle.answer.specs.Answers.{number_of, answer_of}
use Rattle.answer.specs.declared.Numbers.{Numbers}
use Rattle.answer.specs.declared.refusal.Refusal.{Refusal}
use Rattle.answer.specs.declared.refusal.Refusal.TheVariants.{WrongShape, OutOfRange, NotLive}
use Rattle.frames.specs.declared.Place.{Place}
use Rattle.frames.specs.Units.{most_number, frame, place_below}
use Rattle.frames.specs.Marks.{mark_of, is_page_of}
use Rattle.frames.specs.Scans.{marked}
use Rattle.frames.specs.Tables.{Tables}
use Rattle.rules.specs.declared.Record.{Record}
use Rattle.rules.specs.Record.{frame_at}
use Rattle.rules.specs.Limits.{least_name, most_name}
use Rattle.rules.specs.Shape.{shape_right, shape_wrong}
use Rattle.rules.specs.Outcomes.{Outcome, outcome, Check, ◌⇒◌, refuse, checked}
use Rattle.rules.specs.PageCalls.{bad_name, page_at, is_live, live_checks}
use Rattle.page_calls.specs.Steps.Look.{find_named, look_up}
use Rattle.rules.proofs.Checks.{checked_stop, checked_pass}
use Rattle.rules.proofs.Shapes.{Shape, shape_known}

pub frame_inside : {m : Record} {t : Tables} → Shape m t → (p : Place) → p.0 < m.memory.frames →
    frame (min (m.memory.base.0 + p.0) most_number) ≡ frame_at m p
frame_inside {m} k p h =
    let e : min (m.memory.base.0 + p.0) most_number ≡ m.memory.base.0 + p.0 = omega (arith, k.memory.end_high) in
    ap frame e

pub refused_so : {m : Record} {t : Tables} {o : Outcome} {x : Result Numbers Refusal} {r : Refusal} →
    x ≡ Err r → refuse m t (number_of r) ≡ o → outcome m (answer_of x) t ≡ o
refused_so {m} {t} e f = ap (λ y. outcome m (answer_of y) t) e ∙ f

pub name_fits : (kind : ℕ) {name mark : ℕ} → name ≤ most_name → mark ≡ mark_of (name % 2 ^ 29) kind → mark ≡ mark_of name kind
name_fits kind {name} h e =
    let short : name % 2 ^ 29 ≡ name = omega (arith, h) in
    e ∙ ap (λ (k : ℕ). mark_of k kind) short

module _ (m : Record) (name : ℕ) (t : Tables) where
  -- where the shape and the name are right, the scan by name finds the page
  pub named_scanned : shape_right m t ≡ true → bad_name name ≡ false →
      Ok (place_below (lowest (marked (is_page_of name) t.marks) (length t.marks)) (length t.marks)) ≡ find_named m name t
  unfolding find_named page_at
  named_scanned s n =
      ap (λ (k : ℕ). Ok (place_below (lowest (marked (is_page_of name) t.marks) k) k)) (shape_known m t s).marks_length ∙ (rw (s, n) refl)

  -- the first checks' four ends
  pub data Named : Result (Option Place) Refusal → Type 0 where
    wrong : shape_right m t ≡ false → Named (Err WrongShape)
    bad : shape_right m t ≡ true → bad_name name ≡ true → Named (Err OutOfRange)
    none : shape_right m t ≡ true → bad_name name ≡ false → is_live m t name ≡ false → Named (Ok None)
    live : shape_right m t ≡ true → bad_name name ≡ false → is_live m t name ≡ true → Named (Ok (Some (page_at m t name)))

  ends : Named (find_named m name t)
  unfolding find_named
  ends =
      by_cases (shape_right m t)
      (λ s.
      by_cases (bad_name name) (λ b. rw (s, b) (bad s b))
      (λ b. by_cases (is_live m t name) (λ l. rw (s, b, l) (live s b l)) (λ l. rw (s, b, l) (none s b l))))
      (λ s. rw s (wrong s))

  pub named : {x : Result (Option Place) Refusal} → x ≡ find_named m name t → Named x
  named e = subst Named (sym e) ends

  name_high : bad_name name ≡ false → name ≤ most_name
  name_high b = ltb-false most_name name (or_right (ltb name least_name) (ltb most_name name) b)

  pub named_passed : {x : Result (Option Place) Refusal} → Named x → IfOk x (λ _. (shape_right m t ≡ true) × (name ≤ most_name))
  named_passed (wrong s) = tt
  named_passed (bad s b) = tt
  named_passed (none s b l) = (s, name_high b)
  named_passed (live s b l) = (s, name_high b)

  pub look_refused : {r : Refusal} → Named (Err r) → Err r ≡ look_up m name t
  unfolding look_up
  look_refused (wrong s) = rw s refl
  look_refused (bad s b) = rw (s, b) refl

  pub look_found : {o : Option Place} → Named (Ok o) → ok_or o NotLive ≡ look_up m name t
  unfolding look_up
  look_found (none s b l) = rw (s, b, l) refl
  look_found (live s b l) = rw (s, b, l) refl

  -- the look-up's four ends
  pub data LooksUp : Result Place Refusal → Type 0 where
    wrong : shape_right m t ≡ false → LooksUp (Err WrongShape)
    bad : shape_right m t ≡ true → bad_name name ≡ true → LooksUp (Err OutOfRange)
    none : shape_right m t ≡ true → bad_name name ≡ false → is_live m t name ≡ false → LooksUp (Err NotLive)
    live : shape_right m t ≡ true → bad_name name ≡ false → is_live m t name ≡ true → LooksUp (Ok (page_at m t name))

  looks : LooksUp (look_up m name t)
  unfolding look_up
  looks =
      by_cases (shape_right m t)
      (λ s.
      by_cases (bad_name name) (λ b. rw (s, b) (bad s b))
      (λ b. by_cases (is_live m t name) (λ l. rw (s, b, l) (live s b l)) (λ l. rw (s, b, l) (none s b l))))
      (λ s. rw s (wrong s))

  pub looks_up : {x : Result Place Refusal} → x ≡ look_up m name t → LooksUp x
  looks_up e = subst LooksUp (sym e) looks

  pub looked_inside : {x : Result Place Refusal} → LooksUp x → IfOk x (λ page. (page.0 < length t.marks) × (page.0 < length t.words) × (name ≤ most_name))
  looked_inside (wrong s) = tt
  looked_inside (bad s b) = tt
  looked_inside (none s b l) = tt
  looked_inside (live s b l) =
      let k = shape_known m t s in
      let low : (page_at m t name).0 < m.memory.frames = ltb-true _ _ l in
      (omega (arith, k.marks_length), omega (arith, k.words_length), name_high b)

  pub looked_not : {r : Refusal} → LooksUp (Err r) → (more : List Check) (o : Outcome) → checked m t (live_checks m name t more) o ≡ refuse m t (number_of r)
  looked_not (wrong s) more o = checked_stop m t _ _ o (ap not s)
  looked_not (bad s b) more o = checked_pass m t _ _ o (ap not s) ∙ checked_stop m t _ _ o b
  looked_not (none s b l) more o = checked_pass m t _ _ o (ap not s) ∙ checked_pass m t _ _ o b ∙ checked_stop m t _ _ o (ap not l)

  -- what is known of a page that the look-up found at a place
  pub record Live (p : Place) : Type 0 where
    pub shape : Shape m t
    pub at : p ≡ page_at m t name
    pub inside : p.0 < m.memory.frames
    pub pass : (more : List Check) (o : Outcome) → checked m t (live_checks m name t more) o ≡ checked m t more o

  pub looked_at : {p : Place} → LooksUp (Ok p) → Live p
  looked_at (live s b l) =
      let h : (page_at m t name).0 < m.memory.frames = ltb-true _ _ l in
      record {
        shape = shape_known m t s;
        at = refl;
        inside = h;
        pass = λ more o. checked_pass m t _ _ o (ap not s) ∙ checked_pass m t _ _ o b ∙ checked_pass m t _ _ o (ap not l);
      }

  -- ---- the same checks of a put, where the third is that the name is live
  abbrev puts_checks : List Check → List Check
  puts_checks more = shape_wrong m t ⇒ 1 ∷ bad_name name ⇒ 2 ∷ is_live m t name ⇒ 4 ∷ more

  pub put_stopped : {p : Place} → Named (Ok (Some p)) → (more : List Check) (o : Outcome) → checked m t (puts_checks more) o ≡ refuse m t 4
  put_stopped (live s b l) more o = checked_pass m t _ _ o (ap not s) ∙ checked_pass m t _ _ o b ∙ checked_stop m t _ _ o l

  pub put_not : {r : Refusal} → Named (Err r) → (more : List Check) (o : Outcome) → checked m t (puts_checks more) o ≡ refuse m t (number_of r)
  put_not (wrong s) more o = checked_stop m t _ _ o (ap not s)
  put_not (bad s b) more o = checked_pass m t _ _ o (ap not s) ∙ checked_stop m t _ _ o b

  pub put_passed : Named (Ok None) → (more : List Check) (o : Outcome) → checked m t (puts_checks more) o ≡ checked m t more o
  put_passed (none s b l) more o = checked_pass m t _ _ o (ap not s) ∙ checked_pass m t _ _ o b ∙ checked_pass m t _ _ o l
