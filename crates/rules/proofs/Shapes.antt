-- What the shape's tests say, as facts. Assumes nothing.
use Rattle.std.proofs.Common.{◌≡◌, ℕ, ◌+◌, ◌<◌, ◌≤◌, Bool, true, ◌&&◌, eqb, leb, length, arith, eqb-true, leb-true}
use Rattle.search.specs.Search.{every}
use Rattle.search.proofs.Bools.{and_left, and_right}
use Rattle.search.proofs.Ranges.{every_all}
use Rattle.frames.specs.Tables.{Tables}
use Rattle.rules.specs.declared.Record.{Record}
use Rattle.rules.specs.Limits.{least_frames, least_base, most_frames, most_end, most_block_order, most_areas}
use Rattle.rules.specs.Shape.{memory_right, lengths_right, area_fits, words_needed, shape_right}

-- the first frame, the number of frames and the block order keep to their limits
pub record MemoryFacts (base frames block_order : ℕ) : Type 0 where
  pub frames_high : frames ≤ most_frames
  pub end_high : base + frames ≤ most_end
  pub order_high : block_order ≤ most_block_order

pub memory_known : (base frames block_order : ℕ) → memory_right base frames block_order ≡ true → MemoryFacts base frames block_order
unfolding memory_right
memory_known base frames block_order e =
    let a : Bool = leb least_base base in
    let b : Bool = leb least_frames frames in
    let c : Bool = leb frames most_frames in
    let d : Bool = leb (base + frames) most_end in
    let f : Bool = leb block_order most_block_order in
    let abcd = and_left (a && b && c && d) f e in
    let abc = and_left (a && b && c) d abcd in
    record {
      frames_high = leb-true frames most_frames (and_right (a && b) c abc);
      end_high = leb-true (base + frames) most_end (and_right (a && b && c) d abcd);
      order_high = leb-true block_order most_block_order (and_right (a && b && c && d) f e);
    }

-- the shape is right
pub record Shape (m : Record) (t : Tables) : Type 0 where
  pub memory : MemoryFacts m.memory.base.0 m.memory.frames m.memory.block_order
  pub declared_high : m.memory.declared ≤ most_areas
  pub marks_length : length t.marks ≡ m.memory.frames
  pub words_length : length t.words ≡ m.memory.frames
  pub areas_fit : (i : ℕ) → i < m.memory.declared → area_fits m i ≡ true
  pub owners_length : length t.owners ≡ m.memory.frames
  pub bitmap_high : words_needed m ≤ length t.bitmap

pub shape_known : (m : Record) (t : Tables) → shape_right m t ≡ true → Shape m t
unfolding shape_right lengths_right
shape_known m t e =
    let a : Bool = memory_right m.memory.base.0 m.memory.frames m.memory.block_order in
    let b : Bool = leb m.memory.declared most_areas in
    let c₁ : Bool = eqb (length t.marks) m.memory.frames in
    let c₂ : Bool = eqb (length t.words) m.memory.frames in
    let c₃ : Bool = eqb (length t.owners) m.memory.frames in
    let d : Bool = every (area_fits m) 0 m.memory.declared in
    let f : Bool = leb (words_needed m) (length t.bitmap) in
    let abcd = and_left (a && b && (c₁ && c₂ && c₃) && d) f e in
    let abc = and_left (a && b && (c₁ && c₂ && c₃)) d abcd in
    let ab = and_left (a && b) (c₁ && c₂ && c₃) abc in
    let c = and_right (a && b) (c₁ && c₂ && c₃) abc in
    record {
      memory = memory_known _ _ _ (and_left a b ab);
      declared_high = leb-true m.memory.declared most_areas (and_right a b ab);
      marks_length = eqb-true (length t.marks) m.memory.frames (and_left c₁ c₂ (and_left (c₁ && c₂) c₃ c));
      words_length = eqb-true (length t.words) m.memory.frames (and_right c₁ c₂ (and_left (c₁ && c₂) c₃ c));
      owners_length = eqb-true (length t.owners) m.memory.frames (and_right (c₁ && c₂) c₃ c);
      areas_fit = λ i h. every_all (area_fits m) 0 m.memory.declared (and_right (a && b && (c₁ && c₂ && c₃)) d abcd) i (omega arith) (omega arith);
      bitmap_high = leb-true (words_needed m) (length t.bitmap) (and_right (a && b && (c₁ && c₂ && c₃) && d) f e);
    }
