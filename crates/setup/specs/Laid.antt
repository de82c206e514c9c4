-- What a declaration or a boot hands back: where it is refused the record stays as it was.
use Rattle.std.specs.Prelude.{Result, Ok, Err}
use Rattle.answer.specs.declared.Numbers.{Numbers}
use Rattle.rules.specs.declared.Memory.{Memory}
use Rattle.setup.specs.declared.Laid.{Laid}

abbrev pub memory_after : {E : Type 0} → Memory → Result Laid E → Memory
memory_after m (Ok l) = l.memory
memory_after m (Err _) = m

-- the two numbers that it answers
abbrev pub numbers_in : {E : Type 0} → Result Laid E → Result Numbers E
numbers_in (Ok l) = Ok l.numbers
numbers_in (Err e) = Err e
