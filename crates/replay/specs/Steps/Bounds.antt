-- What bounds the program's loop: how many turns can follow.
use Rattle.std.specs.Prelude.{ℕ, Option, Some, None, ◌+◌}
use Rattle.replay.specs.declared.state.State.{State}

-- the turns that can follow, with the one that ends the program
abbrev pub turns_from : Option State → ℕ
turns_from None = 0
turns_from (Some s) = s.left + 1
