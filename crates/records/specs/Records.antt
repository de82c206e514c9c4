-- Document 01, "Replay records": one byte of kind, then a body whose length the kind fixes, little endian. A record stands for a call; a
-- boot's text is empty.
use Rattle.std.specs.Prelude.{ℕ, zero, suc, ◌+◌, ◌-◌, ◌*◌, ◌<◌, ◌≡◌, not, List, [], ◌∷◌, length, get_or, ltb, leb, eqb, if◌then◌else◌, Result, Ok, Err, MatchResult}
use Rattle.frames.specs.Units.{frame}
use Rattle.rules.specs.declared.Call.{Call}
use Rattle.records.specs.declared.Kind.{Kind}
use Rattle.records.specs.declared.Undecoded.{Undecoded}
use Rattle.records.specs.declared.Undecoded.TheVariants.{Unknown, Cut}

-- the number in n bytes from `at` on, little endian: the lowest byte comes first
unfoldable pub little : List ℕ → ℕ → ℕ → ℕ
little s at zero = 0
little s at (suc n) = get_or s at 0 + 256 * little s (suc at) n

-- the kinds' numbers
abbrev pub byte_of : Kind → ℕ
byte_of Kind.Boot = 0
byte_of Kind.PutMovable = 1
byte_of Kind.PutFixed = 2
byte_of Kind.Drop = 3
byte_of Kind.Pin = 4
byte_of Kind.Unpin = 5
byte_of Kind.Store = 6
byte_of Kind.Read = 7
byte_of Kind.Grant = 8
byte_of Kind.Release = 9
byte_of Kind.DeviceStore = 10
byte_of Kind.DeviceRead = 11
byte_of Kind.Declare = 12

-- the result is the kind with this number, or an error with a number that no kind has
abbrev pub IsKindOf : ℕ → Result Kind Undecoded → Type 0
IsKindOf number r = MatchResult r (λ kind. byte_of kind ≡ number) (λ e. (e ≡ Unknown) × (12 < number))

-- a body: the widths of its fields, and the call that their numbers give, by place
pub record Body : Type 0 where
  pub widths : List ℕ
  pub gives : (ℕ → ℕ) → Call

abbrev pub body : List ℕ → ((ℕ → ℕ) → Call) → Body
body ws f = record { widths = ws; gives = f }

abbrev pub u8 : ℕ
u8 = 1

abbrev pub u16 : ℕ
u16 = 2

abbrev pub u32 : ℕ
u32 = 4

abbrev pub u64 : ℕ
u64 = 8

-- a body of one field, a page's name
abbrev pub named : (ℕ → Call) → Body
named f = body (u32 ∷ []) (λ n. f (n 0))

-- the bodies by kind, 0 to 12
unfoldable pub bodies : List Body
bodies =
    body (u64 ∷ u32 ∷ u8 ∷ []) (λ n. Call.Boot (frame (n 0)) (n 1) (n 2)) ∷
    named Call.PutMovable ∷
    named Call.PutFixed ∷
    named Call.Drop ∷
    named Call.Pin ∷
    named Call.Unpin ∷
    body (u32 ∷ u64 ∷ []) (λ n. Call.Store (n 0) (n 1)) ∷
    named Call.Read ∷
    -- document 02, request (vii): the device comes last
    body (u8 ∷ u8 ∷ u32 ∷ u16 ∷ []) (λ n. Call.Grant (n 0) (n 2) (n 1) (n 3)) ∷
    body (u8 ∷ u64 ∷ u32 ∷ u16 ∷ []) (λ n. Call.Release (n 0) (frame (n 1)) (n 2) (n 3)) ∷
    body (u64 ∷ u64 ∷ u16 ∷ []) (λ n. Call.DeviceStore (frame (n 0)) (n 1) (n 2)) ∷
    body (u64 ∷ u16 ∷ []) (λ n. Call.DeviceRead (frame (n 0)) (n 1)) ∷
    body (u64 ∷ u64 ∷ u64 ∷ u64 ∷ u8 ∷ u8 ∷ [])
    (λ n. Call.Declare record { base = n 0; size = n 1; limit = n 2; alignment = n 3; order_per_bit = n 4; fixed = not (eqb (n 5) 0) }) ∷
    []

-- the body of a kind; an unknown kind, past the list, has none
unfoldable pub body_of : ℕ → Body
body_of kind = get_or bodies kind (body [] (λ n. Call.Read 0))

unfoldable pub sum : List ℕ → ℕ
sum [] = 0
sum (w ∷ ws) = w + sum ws

-- the numbers of fields that stand one after the other, the first of them o bytes after `at`
unfoldable pub numbers : List ℕ → ℕ → ℕ → List ℕ → List ℕ
numbers s at o [] = []
numbers s at o (w ∷ ws) = little s (at + o) w ∷ numbers s at (o + w) ws

-- the length of a kind's body
unfoldable pub body_length : ℕ → ℕ
body_length kind = sum (body_of kind).widths

-- the call that the body of a kind gives, read from `at` on
unfoldable pub body_at : ℕ → List ℕ → ℕ → Call
body_at kind s at = (body_of kind).gives (λ i. get_or (numbers s at 0 (body_of kind).widths) i 0)

-- the record that begins at an offset, its call and its length with the byte of kind; it is cut where the bytes end before its body does
unfoldable pub decode_at : List ℕ → ℕ → Result (Call × ℕ) Undecoded
decode_at s at =
    let kind = get_or s at 0 in
    if leb (length s) at then Err Cut
    else if eqb (body_length kind) 0 then Err Unknown
    else if ltb (length s - (at + 1)) (body_length kind) then Err Cut
    else Ok (body_at kind s (at + 1), body_length kind + 1)
