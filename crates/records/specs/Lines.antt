-- Document 01, "Replay records": the output's lines, but for a step's, which is its four numbers. Numbers are decimal, and a text is a list of bytes.
use Rattle.std.specs.Prelude.{ℕ, List, [], ◌∷◌}
use Rattle.text.specs.Writing.{labelled}

-- `step refusal first second`
unfoldable pub heading : List ℕ
heading = 115 ∷ 116 ∷ 101 ∷ 112 ∷ 32 ∷ 114 ∷ 101 ∷ 102 ∷ 117 ∷ 115 ∷ 97 ∷ 108 ∷ 32 ∷ 102 ∷ 105 ∷ 114 ∷ 115 ∷ 116 ∷ 32 ∷ 115 ∷ 101 ∷ 99 ∷ 111 ∷ 110 ∷ 100 ∷ 10 ∷ []

-- `bad` with a record's first offset
abbrev pub bad_line : ℕ → List ℕ
bad_line offset = labelled (98 ∷ 97 ∷ 100 ∷ 32 ∷ []) offset

-- `end` with the number of records
abbrev pub end_line : ℕ → List ℕ
end_line count = labelled (101 ∷ 110 ∷ 100 ∷ 32 ∷ []) count
