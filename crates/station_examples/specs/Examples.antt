-- Document 01, "Station examples": those that are marked with a star, and E10, whose last answer document 02's request (ii) changed. All
-- name device 1 (document 02, request (vii)).
use Rattle.std.specs.Prelude.{ℕ, suc, true, false, ◌≡◌, List, [], ◌∷◌, ◌++◌}
use Rattle.answer.specs.Answers.{done, refused}
use Rattle.frames.specs.Units.{frame}
use Rattle.rules.specs.declared.Call.TheVariants as Call
use Rattle.rules.specs.declared.Request.{Request}
use Rattle.station_examples.specs.Claim.{Step, ◌answers◌, Mark, ◌holds◌, Example, report_after}

-- P 4, n 32, b 2, no regions
abbrev no_areas : List Step
no_areas = Call.Boot (frame 4) 32 2 answers done 0 0 ∷ []

-- then a fixed declare of frames 8 to 23
abbrev frames8to23 : ℕ → Request
frames8to23 k = record { base = 32768; size = 65536; limit = 0; alignment = 0; order_per_bit = k; fixed = true }

abbrev machine_with : ℕ → List Step
machine_with k = no_areas ++ (Call.Declare (frames8to23 k) answers done 8 16 ∷ [])

abbrev machine_a : List Step
machine_a = machine_with 0

-- movable puts of the names from `name` on, and the frames that they take
abbrev puts : ℕ → List ℕ → List Step
puts name [] = []
puts name (f ∷ fs) = Call.PutMovable name answers done f 0 ∷ puts (suc name) fs

abbrev E1 : List Step
E1 = machine_a ++ (Call.Grant 0 3 0 1 answers done 8 0 ∷ [])

-- 18 movable puts, the 17th at 8 and the 18th at 9
abbrev E6 : List Step
E6 =
    machine_a ++
    puts 1 (4 ∷ 5 ∷ 6 ∷ 7 ∷ 24 ∷ 25 ∷ 26 ∷ 27 ∷ 28 ∷ 29 ∷ 30 ∷ 31 ∷ 32 ∷ 33 ∷ 34 ∷ 35 ∷ 8 ∷ 9 ∷ []) ++
    (Call.Grant 0 1 0 1 answers refused 8 ∷ [])

-- four frames to a bit
abbrev E9 : List Step
E9 = machine_with 2 ++ (Call.Grant 0 5 0 1 answers done 8 0 ∷ Call.Grant 0 1 0 1 answers done 16 0 ∷ [])

-- a declare of size 1 with a limit, all else 0
abbrev size_one : ℕ → Request
size_one limit = record { base = 0; size = 1; limit = limit; alignment = 0; order_per_bit = 0; fixed = false }

abbrev example : List Step → List Mark → Example
example steps marks = record { steps = steps; marks = marks }

abbrev pub examples : List Example
examples =
    -- E1
    example E1 (8 holds 28 ∷ 9 holds 5 ∷ 10 holds 5 ∷ 11 holds 0 ∷ []) ∷
    -- E2
    example (E1 ++ (Call.Grant 0 2 2 1 answers done 12 0 ∷ [])) [] ∷
    -- E3, E4
    example (machine_a ++ (Call.Grant 0 8 4 1 answers done 16 0 ∷ [])) [] ∷
    example (machine_a ++ (Call.Grant 0 9 4 1 answers refused 7 ∷ [])) [] ∷
    -- E5
    example (machine_a ++ (Call.Grant 0 16 0 1 answers done 8 0 ∷ [])) [] ∷
    example (machine_a ++ (Call.Grant 0 17 0 1 answers refused 7 ∷ [])) [] ∷
    -- E6: refused although frame 10 is free
    example E6 (10 holds 0 ∷ []) ∷
    -- E7: the page at 8 is name 17 and the one at 4 is name 1; name 18 moves from 9 into 4
    example (E6 ++ (Call.Pin 17 answers done 0 0 ∷ Call.Drop 1 answers done 0 0 ∷ Call.Grant 0 1 0 1 answers done 9 1 ∷ [])) (4 holds 145 ∷ 8 holds 138 ∷ 9 holds 12 ∷ []) ∷
    -- E8
    example (E1 ++ (Call.Release 0 (frame 8) 2 1 answers refused 9 ∷ Call.Release 0 (frame 9) 1 1 answers refused 3 ∷ [])) [] ∷
    -- E9
    example E9 (8 holds 44 ∷ 9 holds 5 ∷ 10 holds 5 ∷ 11 holds 5 ∷ 12 holds 5 ∷ 13 holds 0 ∷ 16 holds 12 ∷ []) ∷
    -- E10
    example (no_areas ++ (Call.Declare (size_one 0) answers done 32 4 ∷ [])) [] ∷
    example (no_areas ++ (Call.Declare (size_one 100000) answers done 20 4 ∷ [])) [] ∷
    example (no_areas ++ (Call.Declare (size_one 100) answers refused 11 ∷ [])) [] ∷
    []

-- ---- reports (document 02, request (iv)), each line with its end

pub record Reports : Type 0 where
  pub e1 :
      report_after E1 ≡
      -- CmaTotal: 64 kB
      67 ∷ 109 ∷ 97 ∷ 84 ∷ 111 ∷ 116 ∷ 97 ∷ 108 ∷ 58 ∷ 32 ∷ 54 ∷ 52 ∷ 32 ∷ 107 ∷ 66 ∷ 10 ∷
      -- CmaFree: 52 kB
      67 ∷ 109 ∷ 97 ∷ 70 ∷ 114 ∷ 101 ∷ 101 ∷ 58 ∷ 32 ∷ 53 ∷ 50 ∷ 32 ∷ 107 ∷ 66 ∷ 10 ∷
      -- area 0 16 3 13
      97 ∷ 114 ∷ 101 ∷ 97 ∷ 32 ∷ 48 ∷ 32 ∷ 49 ∷ 54 ∷ 32 ∷ 51 ∷ 32 ∷ 49 ∷ 51 ∷ 10 ∷
      []
  -- no areas
  pub none :
      report_after no_areas ≡
      -- CmaTotal: 0 kB
      67 ∷ 109 ∷ 97 ∷ 84 ∷ 111 ∷ 116 ∷ 97 ∷ 108 ∷ 58 ∷ 32 ∷ 48 ∷ 32 ∷ 107 ∷ 66 ∷ 10 ∷
      -- CmaFree: 0 kB
      67 ∷ 109 ∷ 97 ∷ 70 ∷ 114 ∷ 101 ∷ 101 ∷ 58 ∷ 32 ∷ 48 ∷ 32 ∷ 107 ∷ 66 ∷ 10 ∷
      []
  -- four frames to a bit: the grants of five frames and of one take three of the area's four bits
  pub four_to_a_bit :
      report_after E9 ≡
      -- CmaTotal: 64 kB
      67 ∷ 109 ∷ 97 ∷ 84 ∷ 111 ∷ 116 ∷ 97 ∷ 108 ∷ 58 ∷ 32 ∷ 54 ∷ 52 ∷ 32 ∷ 107 ∷ 66 ∷ 10 ∷
      -- CmaFree: 40 kB
      67 ∷ 109 ∷ 97 ∷ 70 ∷ 114 ∷ 101 ∷ 101 ∷ 58 ∷ 32 ∷ 52 ∷ 48 ∷ 32 ∷ 107 ∷ 66 ∷ 10 ∷
      -- area 0 16 6 4
      97 ∷ 114 ∷ 101 ∷ 97 ∷ 32 ∷ 48 ∷ 32 ∷ 49 ∷ 54 ∷ 32 ∷ 54 ∷ 32 ∷ 52 ∷ 10 ∷
      []
