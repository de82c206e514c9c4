-- Document 02, request (iv): the record's counters of granted and of refused grant calls, "which wrap on purpose after 4,294,967,295", and the
-- difference between two readings. They stand beside the rest of the record: no rule looks at them, so they have no part in the shape.
use Rattle.std.specs.Prelude.{ℕ, ◌+◌, ◌-◌, ◌%◌, ◌^◌, ◌==◌, if◌then◌else◌}
use Rattle.rules.specs.declared.Call.{Call}
use Rattle.rules.specs.declared.Counters.{Counters}
use Rattle.rules.specs.Ledger.Roles.{role_of}

abbrev pub counters : ℕ → ℕ → Counters
counters granted refused = record { granted = granted; refused = refused }

-- right after an accepted boot
abbrev pub no_grants : Counters
no_grants = counters 0 0

-- one more, of a counter of 32 bits
abbrev pub one_more : ℕ → ℕ
one_more n = (n + 1) % 2 ^ 32

-- after a grant that was answered with a number: 0 is an accepted one, and 1, the wrong shape, is not counted
unfoldable pub after_grant : ℕ → Counters → Counters
after_grant number c =
    if number == 0 then counters (one_more c.granted) c.refused
    else if number == 1 then c
    else counters c.granted (one_more c.refused)

-- an accepted boot sets both to 0
abbrev pub after_boot : ℕ → Counters → Counters
after_boot number c = if number == 0 then no_grants else c

-- after any call that was answered with a number: no other changes them
abbrev pub counted : Call → ℕ → Counters → Counters
counted call number c =
    if (role_of call).is_grant then after_grant number c
    else if (role_of call).is_boot then after_boot number c
    else c

-- the difference of two readings of a counter, across a wrap too
unfoldable pub since : ℕ → ℕ → ℕ
since later earlier = (later + (2 ^ 32 - earlier)) % 2 ^ 32
