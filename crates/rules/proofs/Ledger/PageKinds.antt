-- The marks that page calls make: a name with a kind of page. Assumes nothing.
--     PageKind       what a kind of page is and is not
--     made_page, made_only, made_pinned, made_ungranted, made_fits    a mark of a name and such a kind
use Rattle.std.proofs.Common.{◌≡◌, ℕ, ◌%◌, ◌<◌, Bool, true, false, ◌||◌, eqb, arith}
use Rattle.search.proofs.Bools.{clash}
use Rattle.frames.specs.Units.{place}
use Rattle.frames.specs.Marks.{mark_of, has_kind, is_page_of, is_granted, pinned}
use Rattle.rules.specs.declared.Record.{Record}
use Rattle.rules.specs.Record.{is_ordinary}
use Rattle.rules.specs.Ledger.Ledger.{Ledger}
use Rattle.rules.specs.Steps.Invariant.{PlaceSound}
use Rattle.rules.proofs.Ledger.Marks.{mark_kind, mark_field, page_named, one_name}

-- what a kind of page is not
pub record PageKind (kind : ℕ) (is_pinned : Bool) : Type 0 where
  pub small : kind < 6
  pub page : (eqb kind 1 || eqb kind 2 || eqb kind 3) ≡ true
  pub pin : eqb kind 2 ≡ is_pinned
  pub full : eqb kind 0 ≡ false
  pub ungranted : (eqb kind 4 || eqb kind 5) ≡ false

module _ (name kind : ℕ) (is_pinned : Bool) (k : PageKind kind is_pinned) where
  kind_of_lem : mark_of name kind % 8 ≡ kind
  kind_of_lem = let small = k.small in mark_kind name kind (omega arith)

  pub made_page : is_page_of name (mark_of name kind) ≡ true
  made_page =
      let small = k.small in
      page_named name (mark_of name kind) (rw kind_of_lem k.page) (mark_field name kind (omega arith))

  pub made_only : (x : ℕ) → is_page_of x (mark_of name kind) ≡ true → x ≡ name
  made_only x e = one_name x name (mark_of name kind) e made_page

  pub made_pinned : has_kind pinned (mark_of name kind) ≡ is_pinned
  made_pinned = rw kind_of_lem k.pin

  pub made_ungranted : is_granted (mark_of name kind) ≡ false
  made_ungranted = rw kind_of_lem k.ungranted

  pub made_fits :
      (m : Record) (l : Ledger) (p word : ℕ) → (eqb kind 3 ≡ true → is_ordinary m (place p) ≡ true) → PlaceSound m l p (mark_of name kind) word
  made_fits m l p word ordinary =
      record {
        used = rw kind_of_lem k.small;
        empty = λ e. clash (eqb kind 0) (rw kind_of_lem at e) k.full;
        ordinary = λ e. ordinary (rw kind_of_lem at e);
        granted = λ e. clash (is_granted (mark_of name kind)) e made_ungranted;
      }
