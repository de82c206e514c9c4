-- Two tables that differ only in the words of chosen pages, and what keeps them so. Assumes nothing.
--     Alike           the same marks, bitmap and owners, and the same words but where a mark names a chosen page
--     alike_words     of such tables one may take the second to be the first with other words
--     set_alike, fill_alike, bitmap-alike    the same change in both
use Rattle.std.proofs.Common.{◌≡◌, ℕ, zero, suc, ◌<◌, Bool, false, ◌&&◌, List, length, get_or, set, sym, refl, ap, ◌∙◌, subst, length-set, get_or-set_other, get_or-set_same}
use lib.Seq.{set_out}
use Rattle.search.proofs.Bools.{below_or_not}
use Rattle.frames.specs.Units.{place}
use Rattle.frames.specs.Marks.{field_of}
use Rattle.frames.specs.Tables.{Tables, mark_at, word_at, set_page, fill, fill_pages, with_bitmap, with_owners}
use Rattle.rules.proofs.EachCall.{other_words}
use Rattle.rules.proofs.Ledger.Marks.{is_page}
use Rattle.rules.proofs.Ledger.Names.{same_or_not}

-- a page of a chosen name
abbrev pub is_hidden : (ℕ → Bool) → ℕ → Bool
is_hidden chosen mark = is_page mark && chosen (field_of mark)

pub record SameWords (chosen : ℕ → Bool) (t : Tables) (words : List ℕ) : Type 0 where
  pub square : length t.marks ≡ length t.words
  pub lengths : length words ≡ length t.words
  pub same : (q : ℕ) → is_hidden chosen (mark_at t (place q)) ≡ false → get_or words q 0 ≡ word_at t (place q)

pub record Alike (chosen : ℕ → Bool) (t t' : Tables) : Type 0 where
  pub words : List ℕ
  pub is : t' ≡ other_words t words
  pub alike : SameWords chosen t words

pub alike_words :
    (chosen : ℕ → Bool) (t t' : Tables) (P : Tables → Type 0) →
    Alike chosen t t' → ((words : List ℕ) → SameWords chosen t words → P (other_words t words)) → P t'
alike_words chosen t t' P a all = subst P (sym a.is) (all a.words a.alike)

pub to_alike : (chosen : ℕ → Bool) (t : Tables) (words : List ℕ) → SameWords chosen t words → Alike chosen t (other_words t words)
to_alike chosen t words s = record { words = words; is = refl; alike = s }

module _ (chosen : ℕ → Bool) where
  -- one frame gets the same mark in both, and the same word unless its page is a chosen one
  pub set_alike :
      (t : Tables) (words : List ℕ) (p mark word word' : ℕ) →
      SameWords chosen t words →
      (is_hidden chosen mark ≡ false → word' ≡ word) → SameWords chosen (set_page t (place p) mark word) (set words p word')
  set_alike t words p mark word word' s e =
      record {
        square = length-set t.marks p mark ∙ s.square ∙ sym (length-set t.words p word);
        lengths = length-set words p word' ∙ s.lengths ∙ sym (length-set t.words p word);
        same = λ q h.
            same_or_not q p
            (λ k.
            below_or_not p (length t.words)
            (λ b.
            let in_marks : p < length t.marks = rw s.square b in
            let in_words : p < length words = rw s.lengths b in
            let new : is_hidden chosen mark ≡ false =
            ap (is_hidden chosen) (sym (ap (λ (x : ℕ). get_or (set t.marks p mark) x 0) k ∙ get_or-set_same t.marks p mark 0 in_marks)) ∙ h
            in
            ap (λ (x : ℕ). get_or (set words p word') x 0) k ∙
            get_or-set_same words p word' 0 in_words ∙
            e new ∙
            sym (ap (λ (x : ℕ). get_or (set t.words p word) x 0) k ∙ get_or-set_same t.words p word 0 b))
            (λ b.
            let marks_out : set t.marks p mark ≡ t.marks = set_out t.marks p mark (rw s.square b) in
            ap (λ (x : List ℕ). get_or x q 0) (set_out words p word' (rw s.lengths b)) ∙
            s.same q (ap (λ (x : List ℕ). is_hidden chosen (get_or x q 0)) (sym marks_out) ∙ h) ∙
            sym (ap (λ (x : List ℕ). get_or x q 0) (set_out t.words p word b))))
            (λ n.
            get_or-set_other words p q word' 0 n ∙
            s.same q (ap (is_hidden chosen) (sym (get_or-set_other t.marks p q mark 0 n)) ∙ h) ∙
            sym (get_or-set_other t.words p q word 0 n));
      }

  pub fill_alike :
      (d : ℕ) (t : Tables) (words : List ℕ) (p mark word : ℕ) →
      SameWords chosen t words → SameWords chosen (fill_pages t (place p) d mark word) (fill words p d word)
  unfolding fill
  fill_alike zero t words p mark word s = s
  fill_alike (suc d) t words p mark word s =
      fill_alike d (set_page t (place p) mark word) (set words p word) (suc p) mark word (set_alike t words p mark word word s (λ _. refl))

  -- another bitmap and other owners
  pub others_alike :
      (t : Tables) (words bitmap owners : List ℕ) → SameWords chosen t words → SameWords chosen (with_owners (with_bitmap t bitmap) owners) words
  others_alike t words bitmap owners s = record { square = s.square; lengths = s.lengths; same = s.same }
