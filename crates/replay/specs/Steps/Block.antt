-- The size of a block of input.
use Rattle.std.specs.Prelude.{ℕ}

-- the bytes of a block of input
abbrev pub block : ℕ
block = 65536
