-- How long a line is. Assumes nothing.
--     labelled_length    its label, its digits and the line's end
--     four_length        its digits, and the byte after each number
--     four_most          and at most 84 bytes
use Prim.Native.Nat.{ℕ, ◌+◌, ◌≤◌}
use native.Mathlib.Omega.{arith}
use mathlib.Core.Path.{◌≡◌}
use mathlib.Core.List.{List}
use lib.ListN.{length, length-append}
use Rattle.text.specs.Writing.{decimal, four_numbers, labelled}
use Rattle.text.proofs.Decimal.{decimal_most}

pub labelled_length : (label : List ℕ) (value : ℕ) → length (labelled label value) ≡ length label + length (decimal value) + 1
unfolding labelled
labelled_length label value = simp length-append (omega arith)

pub four_length :
    (a b c d : ℕ) → length (four_numbers a b c d) ≡ length (decimal a) + length (decimal b) + length (decimal c) + length (decimal d) + 4
unfolding four_numbers
four_length a b c d = simp length-append (omega arith)

pub four_most : (a b c d : ℕ) → length (four_numbers a b c d) ≤ 84
four_most a b c d = omega (arith, four_length a b c d, decimal_most a, decimal_most b, decimal_most c, decimal_most d)
