-- Setting one place is the one change of the tables; a run of frames has another owner. Assumes nothing.
use Rattle.std.proofs.Common.{ℕ, ◌+◌, ◌<◌, ◌≤◌, length, refl, arith, length-set, get_or-set_other, get_or-set_same}
use Rattle.frames.specs.Units.{place}
use Rattle.search.proofs.Bools.{below_or_not}
use Rattle.frames.specs.Tables.{Tables, set_page, fill, with_owners}
use Rattle.frames.proofs.FillFacts.{get_d_fill_in, get_d_fill_below, get_d_fill_above}
use Rattle.rules.specs.declared.Record.{Record}
use Rattle.rules.specs.Promises.Changes.{OnlyPage, OnlyOwners}
use Rattle.rules.proofs.Shapes.{Shape}

pub set_only :
    (m : Record) (t : Tables) → Shape m t → (p mark word : ℕ) → p < m.memory.frames → OnlyPage t (set_page t (place p) mark word) p mark word
set_only m t s p mark word h =
    record {
      mark_now = get_or-set_same t.marks p mark 0 (rw s.marks_length h);
      word_now = get_or-set_same t.words p word 0 (rw s.words_length h);
      others = λ q n. record { mark = get_or-set_other t.marks p q mark 0 n; word = get_or-set_other t.words p q word 0 n };
      lengths = record { marks = length-set t.marks p mark; words = length-set t.words p word; bitmap = refl; owners = refl };
      bitmap = refl;
      owners = refl;
    }

pub filled_owners :
    (t u : Tables) (p d device : ℕ) → p + d ≤ length t.owners → OnlyOwners t (with_owners u (fill t.owners p d device)) p d device
filled_owners t u p d device h =
    record {
      run = λ q a b. get_d_fill_in device t.owners p d q a b (omega arith);
      others = λ q out.
          below_or_not q p (λ a. get_d_fill_below device t.owners p d q a)
          (λ a. below_or_not q (p + d) (λ b. absurd (out a b)) (λ b. get_d_fill_above device t.owners p d q b));
    }
