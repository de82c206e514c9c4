-- What a writer keeps to, so that no place lies outside its buffer.
use Rattle.std.specs.Prelude.{◌≡◌, ◌≤◌, length}
use Rattle.text.specs.declared.writing.Writer.{Writer}

-- what is written ends in the buffer
abbrev pub Ends : Writer → Type 0
Ends w = w.length ≤ length w.buffer.now

-- more was written: the buffer is the same slice, and it ends there
abbrev pub Writes : Writer → Writer → Type 0
Writes before after = (after.buffer.ghost_name ≡ before.buffer.ghost_name) × Ends after
