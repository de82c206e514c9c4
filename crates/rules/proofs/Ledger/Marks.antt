-- Marks: what a test of a mark's kind says about the other tests. Assumes nothing.
--     page_cases        a page is movable, pinned or fixed
--     page_field        a page of a name has that name as its field
--     mark_kind, mark_field    kind and field of a mark that is put together
--     free_page, granted_page, page_granted, free_granted, ..    a frame is one of: free, a page, granted
use Rattle.std.proofs.Common.{◌≡◌, ℕ, ◌%◌, ◌<◌, Bool, true, false, ◌&&◌, ◌||◌, eqb, sym, ap, ◌∙◌, arith, eq-eqb, eqb-true}
use Rattle.search.proofs.Bools.{by_cases, clash, and_left, and_right, and_both}
use Rattle.frames.specs.Marks.{field_of, mark_of, has_kind, is_page_of, can_leave, is_granted, free, movable, pinned, fixed}

-- a page of any name
abbrev pub is_page : ℕ → Bool
is_page mark = has_kind movable mark || has_kind pinned mark || has_kind fixed mark

pub has_kind_lem : (kind mark : ℕ) → has_kind kind mark ≡ true → mark % 8 ≡ kind
has_kind_lem kind mark e = eqb-true (mark % 8) kind e

pub kind_has : (kind mark : ℕ) → mark % 8 ≡ kind → has_kind kind mark ≡ true
kind_has kind mark e = eq-eqb (mark % 8) kind e

pub mark_kind : (field kind : ℕ) → kind < 8 → mark_of field kind % 8 ≡ kind
mark_kind field kind h = omega arith

pub mark_field : (field kind : ℕ) → kind < 8 → field_of (mark_of field kind) ≡ field
mark_field field kind h = omega arith

pub page_cases {ℓ} : {P : Type ℓ} (mark : ℕ) → is_page mark ≡ true → (mark % 8 ≡ 1 → P) → (mark % 8 ≡ 2 → P) → (mark % 8 ≡ 3 → P) → P
page_cases mark e one two three =
    by_cases (eqb (mark % 8) 1) (λ a. one (eqb-true (mark % 8) 1 a))
    (λ a.
    by_cases (eqb (mark % 8) 2) (λ b. two (eqb-true (mark % 8) 2 b))
    (λ b.
    by_cases (eqb (mark % 8) 3) (λ c. three (eqb-true (mark % 8) 3 c))
    (λ c.
    let none : is_page mark ≡ false = rw (a, b, c) in
    clash (is_page mark) e none)))

pub granted_cases {ℓ} : {P : Type ℓ} (mark : ℕ) → is_granted mark ≡ true → (mark % 8 ≡ 4 → P) → (mark % 8 ≡ 5 → P) → P
granted_cases mark e four five =
    by_cases (eqb (mark % 8) 4) (λ a. four (eqb-true (mark % 8) 4 a))
    (λ a.
    by_cases (eqb (mark % 8) 5) (λ b. five (eqb-true (mark % 8) 5 b))
    (λ b. let none : is_granted mark ≡ false = rw (a, b) in clash (is_granted mark) e none))

pub leave_cases {ℓ} : {P : Type ℓ} (mark : ℕ) → can_leave mark ≡ true → (mark % 8 ≡ 0 → P) → (mark % 8 ≡ 1 → P) → P
leave_cases mark e zero_case one =
    by_cases (eqb (mark % 8) 0) (λ a. zero_case (eqb-true (mark % 8) 0 a))
    (λ a.
    by_cases (eqb (mark % 8) 1) (λ b. one (eqb-true (mark % 8) 1 b))
    (λ b. let none : can_leave mark ≡ false = rw (a, b) in clash (can_leave mark) e none))

pub page_of : (name mark : ℕ) → is_page_of name mark ≡ true → is_page mark ≡ true
page_of name mark e = and_left (is_page mark) (eqb (field_of mark) name) e

pub page_field : (name mark : ℕ) → is_page_of name mark ≡ true → field_of mark ≡ name
page_field name mark e = eqb-true (field_of mark) name (and_right (is_page mark) (eqb (field_of mark) name) e)

pub page_named : (name mark : ℕ) → is_page mark ≡ true → field_of mark ≡ name → is_page_of name mark ≡ true
page_named name mark e f = and_both (is_page mark) (eqb (field_of mark) name) e (eq-eqb (field_of mark) name f)

-- no page: of no name
pub no_page : (name mark : ℕ) → is_page mark ≡ false → is_page_of name mark ≡ false
no_page name mark e = ap (λ (b : Bool). b && eqb (field_of mark) name) e

-- one mark names one page
pub one_name : (x y mark : ℕ) → is_page_of x mark ≡ true → is_page_of y mark ≡ true → x ≡ y
one_name x y mark a b = sym (page_field x mark a) ∙ page_field y mark b

pub free_page : (mark : ℕ) → has_kind free mark ≡ true → is_page mark ≡ false
free_page mark e = rw (has_kind_lem 0 mark e)

pub free_granted : (mark : ℕ) → has_kind free mark ≡ true → is_granted mark ≡ false
free_granted mark e = rw (has_kind_lem 0 mark e)

pub page_granted : (mark : ℕ) → is_page mark ≡ true → is_granted mark ≡ false
page_granted mark e = page_cases mark e (λ k. rw k) (λ k. rw k) (λ k. rw k)

pub granted_page : (mark : ℕ) → is_granted mark ≡ true → is_page mark ≡ false
granted_page mark e = granted_cases mark e (λ k. rw k) (λ k. rw k)
