-- `frames::marks::find_page` meets its contract: a name that no mark can hold is at no place. Assumes nothing.
use Prim.Native.Nat.{ℕ}
use native.Mathlib.Omega.{arith}
use mathlib.Core.Path.{sym, ap, ◌∙◌}
use lib.ListN.{length, get_or}
use Rattle.search.proofs.Lowest.{found_none, lowest_start}
use Rattle.frames.specs.Units.{place_below}
use Rattle.frames.specs.Marks.{is_page_of}
use Rattle.frames.specs.Scans.{marked}
use Rattle.frames.proofs.MarkFacts.{other_name}
use Rattle.frames.proofs.PlaceFacts.{none_below}
use Rattle.frames.proofs.marks.find_page.Goals as goal

pub returns-then-name-gt-MOST_FIELD : goal.returns-then-name-gt-MOST_FIELD
returns-then-name-gt-MOST_FIELD c =
    let marks = c.args.marks.now in
    let name = c.args.name in
    sym
    (none_below _ (length marks)
    (omega
    (arith, found_none (marked (is_page_of name) marks) (length marks) (λ k h. other_name name (get_or marks k 0) (λ e. omega (arith, c.type_inv.marks k))))))

pub returns : goal.returns
returns c =
    let len = length c.args.marks.now in
    c.first_met.ensures ∙ ap (λ (i : ℕ). place_below i len) (sym (lowest_start (marked (is_page_of c.args.name) c.args.marks.now) len))
