-- Laws of numbers in a text, as the code reads them. Assumes nothing.
--     digits_read     the end of the digits, the unit there and the value held make up what the definition gives
use Prim.Native.Nat.{ℕ, ◌+◌, ◌-◌, ◌*◌, ◌^◌, min}
use mathlib.Core.Path.{◌≡◌}
use mathlib.Core.List.{List}
use lib.Dec.{eqb}
use Rattle.std.specs.Prelude.{if◌then◌else◌}
use Rattle.text.specs.Bytes.{byte_at, unit_of}
use Rattle.text.specs.Numbers.{digits_end, digits_value, digits, cap, capped}
use Rattle.text.specs.Reading.{gives}
use Rattle.text.proofs.Capping.{cap_saturated, cap_scaled}
use Rattle.text.proofs.Classes.{unit_some}

pub digits_read : (base : ℕ) (s : List ℕ) (at end unit value product v : ℕ)
    → end ≡ digits_end base s at
    → unit ≡ unit_of (byte_at s end)
    → value ≡ cap (digits_value base s at (end - at) 0)
    → product ≡ min (value * unit) (2 ^ 64 - 1)
    → v ≡ cap product
    → capped (digits base s at) ≡ gives v (if eqb unit 1 then end else end + 1)
unfolding digits
digits_read base s at end unit value product v e u d p w =
    rw (← e, ← u, w, p, cap_saturated, d, cap_scaled (digits_value base s at (end - at) 0) unit (rw u (unit_some (byte_at s end))))
