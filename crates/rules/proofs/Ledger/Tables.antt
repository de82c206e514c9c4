-- Tables after one place was set. Assumes nothing.
--     OneChange        one place has another mark and word, and nothing else changed; `set_one`: set_page is that
use Rattle.std.proofs.Common.{◌≡◌, ℕ, ◌<◌, ◌≢◌, length, get_or-set_other, get_or-set_same}
use Rattle.frames.specs.Units.{place}
use Rattle.frames.specs.Tables.{Tables, mark_at, word_at, set_page}

pub record OneChange (t t' : Tables) (p mark word : ℕ) : Type 0 where
  pub mark_here : mark_at t' (place p) ≡ mark
  pub word_here : word_at t' (place p) ≡ word
  pub marks : (q : ℕ) → q ≢ p → mark_at t' (place q) ≡ mark_at t (place q)
  pub words : (q : ℕ) → q ≢ p → word_at t' (place q) ≡ word_at t (place q)

pub set_one :
    (t : Tables) (p mark word : ℕ) → p < length t.marks → p < length t.words → OneChange t (set_page t (place p) mark word) p mark word
set_one t p mark word a b =
    record {
      mark_here = get_or-set_same t.marks p mark 0 a;
      word_here = get_or-set_same t.words p word 0 b;
      marks = λ q h. get_or-set_other t.marks p q mark 0 h;
      words = λ q h. get_or-set_other t.words p q word 0 h;
    }
