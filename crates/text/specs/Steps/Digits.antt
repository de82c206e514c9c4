-- The steps by which a number is read: each is a part of `number`, and the contract of the function that takes the step.
use Rattle.std.specs.Prelude.{ℕ, ◌+◌, not, List, eqb, if◌then◌else◌}
use Rattle.text.specs.Bytes.{byte_at}
use Rattle.text.specs.Numbers.{is_digit, digits}
use Rattle.text.specs.Reading.{Read, refuse_if}

-- one or more digits of a base
abbrev pub some_digits : ℕ → List ℕ → ℕ → Read ℕ
some_digits base s at = refuse_if (not (is_digit base (byte_at s at))) 20 at (digits base s at)

-- a number that begins with 0, from the byte after it on
abbrev pub after_zero : List ℕ → ℕ → Read ℕ
after_zero s at = if eqb (byte_at s at) 120 then some_digits 16 s (at + 1) else digits 8 s at
