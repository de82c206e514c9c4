-- A report keeps the invariant: it changes no record and no table, and the ledger neither. Assumes nothing.
use Rattle.std.proofs.Common.{ℕ, List, length, refl}
use Rattle.frames.specs.Tables.{Tables}
use Rattle.rules.specs.declared.Call.TheVariants as Call
use Rattle.rules.specs.declared.Record.{Record}
use Rattle.rules.specs.Report.{report_of, report}
use Rattle.rules.specs.Ledger.Ledger.{Ledger}
use Rattle.rules.specs.Steps.Invariant.{Sound}
use Rattle.rules.proofs.Checks.{checked_cases}
use Rattle.rules.proofs.Ledger.Kept.{Kept, kept_refused, done_kept}

pub report_kept : (m : Record) (t : Tables) (l : Ledger) → Sound m t l → (buffer : List ℕ) → Kept Call.Report m t l (report m buffer t)
unfolding report
report_kept m t l s buffer =
    checked_cases (Kept Call.Report m t l) m t _ _ refl (kept_refused Call.Report m t l s)
    (λ passed. done_kept Call.Report m t t l l (length (report_of m t)) 0 refl s (λ x a b. (b, refl)))
