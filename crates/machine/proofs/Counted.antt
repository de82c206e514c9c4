-- What a call does beside its outcome. Assumes nothing.
--     shape_uncounted    a call that the shape refuses is not counted
--     buffer_kept, buffer_reported    where the numbers of all areas are not lent, no buffer is written; where they are, a report writes it
use Prim.Native.Nat.{ℕ}
use mathlib.Core.List.{List}
use mathlib.Core.Path.{◌≡◌, sym}
use lib.ListN.{length}
use borrow.Author.Tests.{eq-eqb, ne_eqb}
use Rattle.search.proofs.Bools.{by_cases}
use Rattle.frames.specs.Tables.{Tables}
use Rattle.rules.specs.declared.Call.{Call}
use Rattle.rules.specs.declared.Counters.{Counters}
use Rattle.rules.specs.declared.Record.{Record}
use Rattle.rules.specs.Does.{with_all_areas}
use Rattle.rules.specs.Outcomes.{Outcome}
use Rattle.setup.proofs.AllAreas.{asked}
use Rattle.rules.specs.Counters.{after_grant, counted}
use Rattle.rules.specs.Limits.{most_area_numbers}
use Rattle.rules.specs.Report.{reported}
use Rattle.rules.specs.Ledger.Roles.{role_of}
use Rattle.machine.specs.Does.{buffer_after}

pub shape_uncounted : (call : Call) (c : Counters) → counted call 1 c ≡ c
unfolding after_grant
shape_uncounted call c =
    by_cases (role_of call).is_grant (λ y. rw y) (λ n. rw n (by_cases (role_of call).is_boot (λ y. rw y) (λ k. rw k)))

-- lent the numbers of all areas, a call that asks for them is made
pub asked_by : (call : Record → Tables → Outcome) (m : Record) (t : Tables) → length m.areas ≡ most_area_numbers → with_all_areas call m t ≡ call m t
asked_by call m t e = sym (asked call m t e)

-- ---- the buffer

pub buffer_kept : (call : Call) (buffer : List ℕ) (m : Record) (t : Tables) → (length m.areas ≡ most_area_numbers → ⊥) → buffer_after call buffer m t ≡ buffer
buffer_kept call buffer m t e =
    let none = ne_eqb (length m.areas) most_area_numbers e in
    by_cases (role_of call).is_report (λ y. rw (y, none)) (λ n. rw n)

pub buffer_reported : (buffer : List ℕ) (m : Record) (t : Tables) → length m.areas ≡ most_area_numbers → buffer_after Call.Report buffer m t ≡ reported m buffer t
buffer_reported buffer m t e = rw (eq-eqb (length m.areas) most_area_numbers e)
