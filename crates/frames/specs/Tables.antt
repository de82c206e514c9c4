-- The four lent tables: a mark and a content word for each frame, the bitmap words, and for each frame the device that owns it (document 02,
-- request (vii)).
use Rattle.std.specs.Prelude.{ℕ, zero, suc, List, get_or, set}
use Rattle.frames.specs.declared.Place.{Place}

pub record Tables : Type 0 where
  pub marks : List ℕ
  pub words : List ℕ
  pub bitmap : List ℕ
  pub owners : List ℕ

abbrev pub tables : List ℕ → List ℕ → List ℕ → List ℕ → Tables
tables marks words bitmap owners = record { marks = marks; words = words; bitmap = bitmap; owners = owners }

abbrev pub mark_at : Tables → Place → ℕ
mark_at t p = get_or t.marks p.0 0

abbrev pub word_at : Tables → Place → ℕ
word_at t p = get_or t.words p.0 0

-- the number of the device that owns the frame, 0 for none
abbrev pub owner_at : Tables → Place → ℕ
owner_at t p = get_or t.owners p.0 0

-- mark and word at one place
abbrev pub set_page : Tables → Place → ℕ → ℕ → Tables
set_page t p mark word = tables (set t.marks p.0 mark) (set t.words p.0 word) t.bitmap t.owners

-- the d entries from i on become v
unfoldable pub fill : {A : Type 0} → List A → ℕ → ℕ → A → List A
fill l i zero v = l
fill l i (suc d) v = fill (set l i v) (suc i) d v

-- mark and word at d places from one on
abbrev pub fill_pages : Tables → Place → ℕ → ℕ → ℕ → Tables
fill_pages t p d mark word = tables (fill t.marks p.0 d mark) (fill t.words p.0 d word) t.bitmap t.owners

abbrev pub with_bitmap : Tables → List ℕ → Tables
with_bitmap t bitmap = tables t.marks t.words bitmap t.owners

abbrev pub with_owners : Tables → List ℕ → Tables
with_owners t owners = tables t.marks t.words t.bitmap owners
