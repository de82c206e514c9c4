-- Document 01, "The machine and its neighbours": the right shape, with the limits of the first table themselves, the frames and areas being those
-- of document 02, request (v), in plain orders and quantifiers.
use Rattle.std.specs.Prelude.{◌≡◌, ℕ, ◌+◌, ◌%◌, ◌^◌, ◌<◌, ◌≤◌, true, ◌↔◌, length}
use Rattle.frames.specs.declared.Area.{Area}
use Rattle.frames.specs.Areas.{first_word}
use Rattle.frames.specs.Tables.{Tables}
use Rattle.rules.specs.declared.Record.{Record}
use Rattle.rules.specs.Record.{area_at}
use Rattle.rules.specs.Shape.{shape_right}

-- the first frame P, the number of frames n and the block order b keep to the first table, n as document 02 has it
pub record RightMemory (base frames block_order : ℕ) : Type 0 where
  pub base_least : 1 ≤ base
  pub frames_least : 1 ≤ frames
  pub frames_most : frames ≤ 262144
  pub end_most : base + frames ≤ 2 ^ 36
  pub order_most : block_order ≤ 10

-- marks, words and owners have n entries
pub record RightLengths (frames : ℕ) (t : Tables) : Type 0 where
  pub marks : length t.marks ≡ frames
  pub words : length t.words ≡ frames
  pub owners : length t.owners ≡ frames

-- count at least 1, k at most b, first and count multiples of 2^b, in memory
pub record RightArea (m : Record) (a : Area) : Type 0 where
  pub some : 1 ≤ a.count
  pub per_bit : a.order_per_bit ≤ m.memory.block_order
  pub first : a.base.0 % 2 ^ m.memory.block_order ≡ 0
  pub count : a.count % 2 ^ m.memory.block_order ≡ 0
  pub low : m.memory.base.0 ≤ a.base.0
  pub high : a.base.0 + a.count ≤ m.memory.base.0 + m.memory.frames

-- the physical frame f is in area i; a frame in no area is ordinary
pub record InArea (m : Record) (f i : ℕ) : Type 0 where
  pub declared : i < m.memory.declared
  pub low : (area_at m i).base.0 ≤ f
  pub high : f < (area_at m i).base.0 + (area_at m i).count

pub record RightShape (m : Record) (t : Tables) : Type 0 where
  pub memory : RightMemory m.memory.base.0 m.memory.frames m.memory.block_order
  pub declared : m.memory.declared ≤ 64
  pub lengths : RightLengths m.memory.frames t
  pub areas : (i : ℕ) → i < m.memory.declared → RightArea m (area_at m i)
  -- no frame is in two of them
  pub disjoint : (f i k : ℕ) → InArea m f i → InArea m f k → i ≡ k
  -- the bitmap has at least the words needed
  pub bitmap : first_word m.areas m.memory.declared ≤ length t.bitmap

abbrev pub ShapeIsRight : Type 0
ShapeIsRight = (m : Record) (t : Tables) → (shape_right m t ≡ true) ↔ RightShape m t
