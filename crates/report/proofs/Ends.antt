-- How a report ends, from what was written. Assumes nothing.
--     report_looks     of the tables it looks at the marks and the bitmap
--     wrong_shape      the shape is wrong
--     short, wrote     the buffer had no room for it, and so no length is told; it had
use Prim.Native.Nat.{ℕ, ◌+◌}
use native.Mathlib.Nat.{zero-add}
use native.Mathlib.Omega.{arith}
use mathlib.Core.Bool.{true, false, not}
use mathlib.Core.List.{List, []}
use mathlib.Core.Path.{◌≡◌, refl, ap, ◌∙◌}
use lib.ListN.{length}
use borrow.Author.Tests.{leb-true, leb-false, le-ltb, lt-ltb}
use Rattle.std.specs.Prelude.{Option, Some, None}
use Rattle.search.proofs.Bools.{by_cases}
use Rattle.answer.specs.Answers.{done}
use Rattle.frames.specs.Tables.{Tables, tables}
use Rattle.text.specs.Writing.{has_room, written}
use Rattle.rules.specs.declared.Record.{Record}
use Rattle.rules.specs.Shape.{shape_right}
use Rattle.rules.specs.Outcomes.{outcome, refuse}
use Rattle.rules.specs.Report.{used_of, max_chunk, report_of, report, reported}
use Rattle.rules.proofs.Checks.{checked_stop, checked_pass, checked_end}
use Rattle.report.specs.Steps.Listing.{PutWhole}

pub report_looks : (m : Record) (t : Tables) → report_of m (tables t.marks [] t.bitmap []) ≡ report_of m t
unfolding report_of used_of max_chunk
report_looks m t = refl

module _ (m : Record) (buffer : List ℕ) (t : Tables) where
  pub wrong_shape : shape_right m t ≡ false → (report m buffer t ≡ refuse m t 1) × (reported m buffer t ≡ buffer)
  unfolding report reported
  wrong_shape e =
      let is : report m buffer t ≡ refuse m t 1 = checked_stop m t _ _ _ (ap not e) in
      (is, rw is)

  module _ (right : shape_right m t ≡ true) {after : List ℕ} {told : Option ℕ} (looked : PutWhole (report_of m (tables t.marks [] t.bitmap [])) buffer after told) where
    put : PutWhole (report_of m t) buffer after told
    put = rw (report_looks m t) at looked

    is_short : has_room buffer 0 (report_of m t) ≡ false → report m buffer t ≡ refuse m t 16
    unfolding has_room report
    is_short e =
        checked_pass m t _ _ _ (ap not right) ∙ checked_stop m t _ _ _ (lt-ltb (length buffer) (length (report_of m t)) (omega (arith, leb-false (0 + length (report_of m t)) (length buffer) e)))

    is_done : has_room buffer 0 (report_of m t) ≡ true → report m buffer t ≡ outcome m (done (length (report_of m t)) 0) t
    unfolding has_room report
    is_done e =
        checked_pass m t _ _ _ (ap not right) ∙
        checked_pass m t _ _ _ (le-ltb (length buffer) (length (report_of m t)) (omega (arith, leb-true (0 + length (report_of m t)) (length buffer) e))) ∙
        checked_end m t _

    pub short : told ≡ None → (report m buffer t ≡ refuse m t 16) × (reported m buffer t ≡ after)
    unfolding reported
    short none =
        by_cases (has_room buffer 0 (report_of m t))
        (λ e. let some = rw e at put.says in absurd (cc))
        (λ e. let is = is_short e in (is, rw (is, put.bytes, e)))

    pub wrote : (next : ℕ) → told ≡ Some next → (report m buffer t ≡ outcome m (done next 0) t) × (reported m buffer t ≡ after)
    unfolding reported written
    wrote next some =
        by_cases (has_room buffer 0 (report_of m t))
        (λ e.
        let said = rw e at put.says in
        let whole : length (report_of m t) ≡ next = cc in
        let is = is_done e in
        (rw whole at is, rw (is, put.bytes, e, zero-add)))
        (λ e. let none = rw e at put.says in absurd (cc))
