-- What replay must give for some inputs: document 01's printed output, an input with no record, inputs that end badly, and areas on both sides of
-- the bitmap words that document 02, request (v), lends.
use Rattle.std.specs.Prelude.{ℕ, ◌≡◌, List, [], ◌∷◌, ◌++◌}
use Prim.Native.Char.{code}
use Prim.Native.String.{String}
use Rattle.playback.specs.Replay.{replay_output}

-- the bytes of a text
abbrev pub ascii : String → List ℕ
ascii String.[] = []
ascii (String.◌∷◌ c text) = code c ∷ ascii text

-- A boot: P 4, n 32, b 2
abbrev pub boot_a : List ℕ
boot_a = 0 ∷ 4 ∷ 0 ∷ 0 ∷ 0 ∷ 0 ∷ 0 ∷ 0 ∷ 0 ∷ 32 ∷ 0 ∷ 0 ∷ 0 ∷ 2 ∷ []

-- A declare: base 32,768, size 65,536, limit 0, alignment 0, k 0, fixed
abbrev pub declare_a : List ℕ
declare_a =
    12 ∷ 0 ∷ 128 ∷ 0 ∷ 0 ∷ 0 ∷ 0 ∷ 0 ∷ 0 ∷
    0 ∷ 0 ∷ 1 ∷ 0 ∷ 0 ∷ 0 ∷ 0 ∷ 0 ∷
    0 ∷ 0 ∷ 0 ∷ 0 ∷ 0 ∷ 0 ∷ 0 ∷ 0 ∷
    0 ∷ 0 ∷ 0 ∷ 0 ∷ 0 ∷ 0 ∷ 0 ∷ 0 ∷ 0 ∷ 1 ∷ []

-- grant 3 of area 0 at order 0, to device 1
abbrev pub grant3 : List ℕ
grant3 = 8 ∷ 0 ∷ 0 ∷ 3 ∷ 0 ∷ 0 ∷ 0 ∷ 1 ∷ 0 ∷ []

abbrev pub put_movable_7 : List ℕ
put_movable_7 = 1 ∷ 7 ∷ 0 ∷ 0 ∷ 0 ∷ []

abbrev pub read7 : List ℕ
read7 = 7 ∷ 7 ∷ 0 ∷ 0 ∷ 0 ∷ []

-- a boot with one frame more than the program holds
abbrev pub boot_too_large : List ℕ
boot_too_large = 0 ∷ 4 ∷ 0 ∷ 0 ∷ 0 ∷ 0 ∷ 0 ∷ 0 ∷ 0 ∷ 1 ∷ 8 ∷ 0 ∷ 0 ∷ 2 ∷ []

-- a boot of one frame: P 1, n 1, b 0
abbrev pub boot_one : List ℕ
boot_one = 0 ∷ 1 ∷ 0 ∷ 0 ∷ 0 ∷ 0 ∷ 0 ∷ 0 ∷ 0 ∷ 1 ∷ 0 ∷ 0 ∷ 0 ∷ 0 ∷ []

-- a declare at no fixed place of so many bytes, as the lowest four of its size: base 0, limit 0, alignment 0, k 0
abbrev pub declare_any : ℕ → ℕ → ℕ → ℕ → List ℕ
declare_any s₀ s₁ s₂ s₃ =
    12 ∷ 0 ∷ 0 ∷ 0 ∷ 0 ∷ 0 ∷ 0 ∷ 0 ∷ 0 ∷
    s₀ ∷ s₁ ∷ s₂ ∷ s₃ ∷ 0 ∷ 0 ∷ 0 ∷ 0 ∷
    0 ∷ 0 ∷ 0 ∷ 0 ∷ 0 ∷ 0 ∷ 0 ∷ 0 ∷
    0 ∷ 0 ∷ 0 ∷ 0 ∷ 0 ∷ 0 ∷ 0 ∷ 0 ∷ 0 ∷ 0 ∷ []

-- of 6,144 frames, whose bits are 96 words, and of one frame more
abbrev pub declare6144 : List ℕ
declare6144 = declare_any 0 0 128 1

abbrev pub declare6145 : List ℕ
declare6145 = declare_any 0 16 128 1

-- a boot with as many frames as it holds
abbrev pub boot_largest : List ℕ
boot_largest = 0 ∷ 4 ∷ 0 ∷ 0 ∷ 0 ∷ 0 ∷ 0 ∷ 0 ∷ 0 ∷ 0 ∷ 8 ∷ 0 ∷ 0 ∷ 2 ∷ []

pub record Examples : Type 0 where
  -- the whole output that document 01 prints
  pub printed : replay_output (boot_a ++ declare_a ++ grant3 ++ put_movable_7 ++ read7)
      ≡ ascii "step refusal first second\n0 0 0 0\n1 0 8 16\n2 0 8 0\n3 0 4 0\n4 0 4 0\nend 5\n"
  -- no record
  pub empty : replay_output [] ≡ ascii "step refusal first second\nend 0\n"
  -- before the first accepted boot, and a boot that is too large
  pub not_booted : replay_output (read7 ++ boot_too_large ++ read7) ≡ ascii "step refusal first second\n0 1 0 0\n1 1 0 0\n2 1 0 0\nend 3\n"
  -- a body that lacks its last byte
  pub cut : replay_output (boot_a ++ put_movable_7 ++ (7 ∷ 7 ∷ 0 ∷ 0 ∷ [])) ≡ ascii "step refusal first second\n0 0 0 0\n1 0 4 0\nbad 19\n"
  -- a kind that is none, and a record after it
  pub unknown : replay_output (boot_a ++ (13 ∷ read7)) ≡ ascii "step refusal first second\n0 0 0 0\nbad 14\n"
  -- the program lends 96 bitmap words: an area that needs as many is refused as it has no place, and one that needs a word more for want of words
  pub words96 : replay_output (boot_one ++ declare6144 ++ declare6145) ≡ ascii "step refusal first second\n0 0 0 0\n1 13 0 0\n2 14 0 0\nend 3\n"
  -- 2,048 frames are held, and not one more
  pub frames2048 : replay_output (boot_largest ++ boot_too_large) ≡ ascii "step refusal first second\n0 0 0 0\n1 1 0 0\nend 2\n"
