-- Document 01, "The machine and its neighbours": mark = 8 x field + kind. Kinds 6 and 7 are unused: they pass none of these tests.
use Rattle.std.specs.Prelude.{ℕ, ◌+◌, ◌*◌, ◌/◌, ◌%◌, Bool, ◌&&◌, ◌||◌, eqb}
use Rattle.frames.specs.declared.kinds.Kind.{Kind}
use Rattle.frames.specs.declared.kinds.Kind.TheVariants.{Free, Movable, Pinned, Fixed, Head, Later}

-- how many kinds there are
abbrev pub kinds : ℕ
kinds = 8

abbrev pub kind_of : ℕ → ℕ
kind_of mark = mark % kinds

abbrev pub field_of : ℕ → ℕ
field_of mark = mark / kinds

abbrev pub mark_of : ℕ → ℕ → ℕ
mark_of field kind = kinds * field + kind

-- the kinds
abbrev pub free : ℕ
free = 0

abbrev pub movable : ℕ
movable = 1

abbrev pub pinned : ℕ
pinned = 2

abbrev pub fixed : ℕ
fixed = 3

abbrev pub head : ℕ
head = 4

abbrev pub later : ℕ
later = 5

abbrev pub kind_number : Kind → ℕ
kind_number Free = free
kind_number Movable = movable
kind_number Pinned = pinned
kind_number Fixed = fixed
kind_number Head = head
kind_number Later = later

abbrev pub has_kind : ℕ → ℕ → Bool
has_kind kind mark = eqb (kind_of mark) kind

-- a page, movable, pinned or fixed, of that name
abbrev pub is_page_of : ℕ → ℕ → Bool
is_page_of name mark = (has_kind movable mark || has_kind pinned mark || has_kind fixed mark) && eqb (field_of mark) name

-- a frame that a grant may take: free, or its page can move out
abbrev pub can_leave : ℕ → Bool
can_leave mark = has_kind free mark || has_kind movable mark

-- a frame of a grant: its first or a later one
abbrev pub is_granted : ℕ → Bool
is_granted mark = has_kind head mark || has_kind later mark
