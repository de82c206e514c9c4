-- `setup::place::first_taken` meets its contract: the range reaches into what areas hold, or the marks say. Assumes nothing.
use Rattle.setup.proofs.Taken.{below_some, below_none, scan_held, scan_free, scan_used}
use Rattle.setup.specs.Steps.Held.{Scanned}
use Rattle.std.specs.Prelude.{Option}
use Rattle.frames.specs.declared.Frame.{Frame}
use Rattle.frames.specs.declared.Place.{Place}
use mathlib.Core.Path.{refl, sym, ap, subst, ◌∙◌}
use native.Mathlib.Omega.{arith}
use Rattle.setup.proofs.place.first_taken.Goals as goal

pub returns-then-first-held : goal.returns-then-first-held
returns-then-first-held c = let x = c.args in λ areas n s. scan_held x.base x.marks.now areas n x.first.0 x.count (omega arith) s (omega arith)

pub returns-in_err-used : goal.returns-in_err-used
returns-in_err-used c =
    let x = c.args in
    λ areas n s.
    subst (λ (r : Option Frame). Scanned x.base x.marks.now areas n x.first.0 x.count r) (sym c.from_residual.ensures)
    (scan_free x.base x.marks.now areas n x.first.0 x.count (omega arith) s (omega arith) (ap (λ (v : Place). v.0) c.place_of.ensures) (ap (λ (v : Place). v.0) c.place_of-2.ensures) refl (below_none (sym c.in_err-used.was ∙ c.first_used.ensures)))

pub returns : goal.returns
returns c =
    let x = c.args in
    let found = below_some (sym c.in_ok-used.was ∙ c.first_used.ensures) in
    λ areas n s.
    scan_used x.base x.marks.now areas n x.first.0 x.count (omega arith) s (omega arith) (ap (λ (v : Place). v.0) c.place_of.ensures) (ap (λ (v : Place). v.0) c.place_of-2.ensures) found.0 (omega (arith, found.0, found.1)) (omega arith) c.used_since.ensures (ap (λ (v : Frame). v.0) c.frame_at.ensures)
