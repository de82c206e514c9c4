-- Document 01, "Numbers the clerk sees": an answer is refusal, first and second number. Which refusal stands where is in each call's list of checks,
-- by its number.
use Rattle.std.specs.Prelude.{ℕ, Result, Ok, Err}
use Rattle.answer.specs.declared.Answer.{Answer}
use Rattle.answer.specs.declared.Numbers.{Numbers}
use Rattle.answer.specs.declared.Refused.{Refused}
use Rattle.answer.specs.declared.refusal.Refusal.{Refusal}
use Rattle.answer.specs.declared.refusal.Refusal.TheVariants.{WrongShape, OutOfRange, NotLive, NameLive, KindForbids, NoFrame, NoRun, NoTarget, ReleaseDisagrees, AreasFull, OrderOrLimit, RangeNotFree, NoPlace, BitmapTooShort, NotOwner, BufferTooShort, UnexpectedByte, BadAmount, NameRepeated, TooManyRegions, TextTooLong, UnknownAllocator}

-- done, with two numbers
abbrev pub done : ℕ → ℕ → Answer
done first second = record { refusal = 0; first = first; second = second }

-- refused: its number and two zeros
abbrev pub refused : ℕ → Answer
refused number = record { refusal = number; first = 0; second = 0 }

-- a boot refused at a place: its number, the place and a zero
abbrev pub refused_at : ℕ → ℕ → Answer
refused_at number place = record { refusal = number; first = place; second = 0 }

-- the refusals' numbers
abbrev pub number_of : Refusal → ℕ
number_of WrongShape = 1
number_of OutOfRange = 2
number_of NotLive = 3
number_of NameLive = 4
number_of KindForbids = 5
number_of NoFrame = 6
number_of NoRun = 7
number_of NoTarget = 8
number_of ReleaseDisagrees = 9
number_of AreasFull = 10
number_of OrderOrLimit = 11
number_of RangeNotFree = 12
number_of NoPlace = 13
number_of BitmapTooShort = 14
number_of NotOwner = 15
number_of BufferTooShort = 16
number_of UnexpectedByte = 20
number_of BadAmount = 21
number_of NameRepeated = 22
number_of TooManyRegions = 23
number_of TextTooLong = 24
number_of UnknownAllocator = 25

-- what the clerk sees of a call that gives two numbers or is refused
abbrev pub answer_of : Result Numbers Refusal → Answer
answer_of (Ok n) = done n.first n.second
answer_of (Err r) = refused (number_of r)

-- and of one that is refused at a place
abbrev pub answer_at : Result Numbers Refused → Answer
answer_at (Ok n) = done n.first n.second
answer_at (Err r) = refused_at (number_of r.refusal) r.place

-- what is given, or the number of its refusal
abbrev pub with_number : {A : Type 0} → Result A Refusal → Result A ℕ
with_number (Ok a) = Ok a
with_number (Err r) = Err (number_of r)
