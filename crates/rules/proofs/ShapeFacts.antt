-- The shape of a record and its tables: what makes it right. The facts that it says are `shape_known`, of Shapes. Assumes nothing.
--     Shaped, facts_shape    the facts that make it right
--     shape_memory, lengths_facts    two of its tests
--     shape_lengths          it goes by the tables' lengths alone
use Rattle.std.proofs.Common.{◌≡◌, ℕ, ◌≤◌, Bool, true, ◌&&◌, eqb, leb, List, length, eq-eqb, eqb-true, le-leb}
use Rattle.search.specs.Search.{every}
use Rattle.search.proofs.Bools.{and_left, and_right, and_both}
use Rattle.frames.specs.Tables.{Tables}
use Rattle.rules.specs.declared.Record.{Record}
use Rattle.rules.specs.Limits.{most_areas}
use Rattle.rules.specs.Promises.Changes.{SameLengths}
use Rattle.rules.specs.Shape.{memory_right, lengths_right, area_fits, words_needed, shape_right}

pub record Shaped (m : Record) (t : Tables) : Type 0 where
  pub memory : memory_right m.memory.base.0 m.memory.frames m.memory.block_order ≡ true
  pub declared : m.memory.declared ≤ most_areas
  pub marks : length t.marks ≡ m.memory.frames
  pub words : length t.words ≡ m.memory.frames
  pub owners : length t.owners ≡ m.memory.frames
  pub areas : every (area_fits m) 0 m.memory.declared ≡ true
  pub bitmap : words_needed m ≤ length t.bitmap

module _ (m : Record) (t : Tables) where
  abbrev memory_test : Bool
  memory_test = memory_right m.memory.base.0 m.memory.frames m.memory.block_order

  abbrev declared_test : Bool
  declared_test = leb m.memory.declared most_areas

  abbrev lengths_test : Bool
  lengths_test = lengths_right m.memory.frames t

  abbrev areas_test : Bool
  areas_test = every (area_fits m) 0 m.memory.declared

  abbrev bitmap_test : Bool
  bitmap_test = leb (words_needed m) (length t.bitmap)

  abbrev as_long : List ℕ → Bool
  as_long table = eqb (length table) m.memory.frames

  pub lengths_facts :
      lengths_test ≡ true →
      (length t.marks ≡ m.memory.frames) × (length t.words ≡ m.memory.frames) × (length t.owners ≡ m.memory.frames)
  unfolding lengths_right
  lengths_facts e =
      let two = and_left (as_long t.marks && as_long t.words) (as_long t.owners) e in (
        eqb-true (length t.marks) m.memory.frames (and_left (as_long t.marks) (as_long t.words) two),
        eqb-true (length t.words) m.memory.frames (and_right (as_long t.marks) (as_long t.words) two),
        eqb-true (length t.owners) m.memory.frames (and_right (as_long t.marks && as_long t.words) (as_long t.owners) e),
      )

  pub facts_lengths :
      length t.marks ≡ m.memory.frames → length t.words ≡ m.memory.frames → length t.owners ≡ m.memory.frames → lengths_test ≡ true
  unfolding lengths_right
  facts_lengths a b c =
      and_both (as_long t.marks && as_long t.words) (as_long t.owners)
      (and_both (as_long t.marks) (as_long t.words) (eq-eqb (length t.marks) m.memory.frames a) (eq-eqb (length t.words) m.memory.frames b))
      (eq-eqb (length t.owners) m.memory.frames c)

  pub shape_memory : shape_right m t ≡ true → memory_test ≡ true
  unfolding shape_right
  shape_memory e =
      and_left memory_test declared_test
      (and_left (memory_test && declared_test) lengths_test
      (and_left (memory_test && declared_test && lengths_test) areas_test
      (and_left (memory_test && declared_test && lengths_test && areas_test) bitmap_test e)))

  pub facts_shape : Shaped m t → shape_right m t ≡ true
  unfolding shape_right
  facts_shape s =
      rw (
        s.memory,
        le-leb m.memory.declared most_areas s.declared,
        facts_lengths s.marks s.words s.owners,
        s.areas,
        le-leb (words_needed m) (length t.bitmap) s.bitmap,
      )

pub shape_lengths : (m : Record) (t t' : Tables) → SameLengths t t' → shape_right m t' ≡ shape_right m t
unfolding shape_right lengths_right
shape_lengths m t t' s = rw (s.marks, s.words, s.bitmap, s.owners)
