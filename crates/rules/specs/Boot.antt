-- Document 01, "Boot and area declaration": boot (P, n, b, text).
use Rattle.std.specs.Prelude.{ℕ, suc, not, ◌&&◌, List, [], ◌∷◌, length, replicate, ◌==◌, if◌then◌else◌}
use Rattle.answer.specs.Answers.{done, refused_at}
use Rattle.frames.specs.Tables.{Tables, tables}
use Rattle.regions.specs.declared.Region.{Region}
use Rattle.text.specs.Reading.{Read, gives, refuses, ◌then◌, refuse_if}
use Rattle.regions.specs.Text.{regions}
use Rattle.rules.specs.declared.Request.{Request}
use Rattle.rules.specs.declared.Record.{Record}
use Rattle.rules.specs.Record.{bare_record}
use Rattle.rules.specs.Declare.{declare}
use Rattle.rules.specs.Shape.{memory_right, lengths_right}
use Rattle.rules.specs.Outcomes.{Outcome, outcome}

-- all four tables zero, spare bitmap words too
abbrev pub zero_tables : Tables → Tables
zero_tables t =
    tables (replicate (length t.marks) 0) (replicate (length t.words) 0) (replicate (length t.bitmap) 0)
    (replicate (length t.owners) 0)

-- a region's declaration: a nonzero start is fixed, k and limit are 0
abbrev pub request_of : Region → Request
request_of r = record { base = r.start; size = r.size; limit = 0; alignment = r.alignment; order_per_bit = 0; fixed = not (r.start == 0) }

-- the regions are declared in turn; a declaration's refusal gives the region's index
unfoldable pub declare_all : List Region → ℕ → Record → Tables → Read Record
declare_all [] i m t = gives m i
declare_all (r ∷ rs) i m t =
    let o = declare m (request_of r) t in
    if o.answer.refusal == 0 then declare_all rs (suc i) o.machine o.left else refuses o.answer.refusal i

-- the record that a boot leaves, or its refusal and place. The regions are declared as if every frame were free
unfoldable pub boot_record : ℕ → ℕ → ℕ → List ℕ → Tables → Read Record
boot_record base frames block_order text t =
    refuse_if (not (memory_right base frames block_order && lengths_right frames t)) 1 0
    (regions text then λ rs _. declare_all rs 0 (bare_record base frames block_order) (zero_tables t))

-- the record given is ignored, and handed back by a refusal
abbrev pub booted : Record → Tables → Read Record → Outcome
booted m t (gives new _) = outcome new (done 0 0) (zero_tables t)
booted m t (refuses number at) = outcome m (refused_at number at) t

unfoldable pub boot : Record → ℕ → ℕ → ℕ → List ℕ → Tables → Outcome
boot m base frames block_order text t = booted m t (boot_record base frames block_order text t)
