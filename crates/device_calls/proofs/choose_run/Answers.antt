-- `device_calls::choose_run` meets its contract: what its search and its last check found says what the call does. Assumes nothing.
use borrow.Author.Rules.{rules}
use native.Mathlib.Omega.{arith}
use mathlib.Core.Path.{◌≡◌, sym, ap, ◌∙◌}
use Rattle.std.specs.Prelude.{Result, None, Err}
use Rattle.std.specs.Option.{ok_or}
use Rattle.answer.specs.declared.refusal.Refusal.{Refusal}
use Rattle.answer.specs.declared.refusal.Refusal.TheVariants.{NoRun}
use Rattle.frames.specs.declared.Bit.{Bit}
use Rattle.frames.specs.declared.Area.{Area}
use Rattle.frames.specs.Areas.{frame_of_bit}
use Rattle.frames.specs.Lent.{tables_read}
use Rattle.rules.specs.Does.{record_in}
use Rattle.device_calls.proofs.GrantOutcomes.{device_high, run_known, run_placed, run_is, search_fits, none_found, run_fits, nowhere, granted}
use Rattle.device_calls.proofs.choose_run.Goals as goal

pub find_run-requires : goal.find_run-requires
find_run-requires c =
    let r = c.args.request in
    search_fits (record_in c.args.lent) r.area r.count r.align r.device (tables_read c.args.tables) c.requires

pub returns-in_err-run : goal.returns-in_err-run
returns-in_err-run c =
    let r = c.args.request in
    let none : c.find_run.result ≡ None = c.in_err-run.ensures.ok_part in
    let told : ok_or c.find_run.result NoRun ≡ Err NoRun = rw none in
    let value : ◌≡◌ {A = Result Bit Refusal} (Err c.in_err-run.field-0.0) (Err NoRun) = c.in_err-run.ensures.value ∙ told in
    let is : c.in_err-run.field-0.0 ≡ NoRun = cc in
    let same : c.from_residual.result ≡ Err c.in_err-run.field-0.0 = search rules in
    rw (same, is) (none_found (record_in c.args.lent) r.area r.count r.align r.device (tables_read c.args.tables) c.requires (sym none ∙ c.find_run.ensures))

pub frame_of_bit-first-requires : goal.frame_of_bit-first-requires
frame_of_bit-first-requires c =
    let r = c.args.request in
    let m = record_in c.args.lent in
    let t = tables_read c.args.tables in
    let is = run_is m r.area r.count r.align r.device t c.requires (sym c.in_ok-run.ensures.ok_part ∙ c.find_run.ensures) in
    let k = run_known m t r.area r.count c.in_ok-run.run' (run_fits m r.area r.count r.align r.device t c.requires is.0 is.1) in
    let e = c.area_at-area.ensures in
    (rw e (omega (arith, k.order)), rw e k.frame_high)

pub returns-then-not-has_free_outside : goal.returns-then-not-has_free_outside
returns-then-not-has_free_outside c =
    let r = c.args.request in
    let m = record_in c.args.lent in
    let t = tables_read c.args.tables in
    let is = run_is m r.area r.count r.align r.device t c.requires (sym c.in_ok-run.ensures.ok_part ∙ c.find_run.ensures) in
    let placed = run_placed m t r.area r.count c.in_ok-run.run' c.area_at-area.ensures c.frame_of_bit-first.ensures c.place_of.ensures in
    nowhere m r.area r.count r.align r.device t c.requires is.0 is.1 placed c.count_movable-moved.ensures c.area_at-area.ensures c.has_free_outside.ensures c.if-not-has_free_outside.true

pub returns : goal.returns
returns c =
    let r = c.args.request in
    let m = record_in c.args.lent in
    let t = tables_read c.args.tables in
    let is = run_is m r.area r.count r.align r.device t c.requires (sym c.in_ok-run.ensures.ok_part ∙ c.find_run.ensures) in
    let placed = run_placed m t r.area r.count c.in_ok-run.run' c.area_at-area.ensures c.frame_of_bit-first.ensures c.place_of.ensures in (
      run_fits m r.area r.count r.align r.device t c.requires is.0 is.1,
      omega (arith, device_high m r.area r.count r.align r.device t c.requires),
      granted m r.area r.count r.align r.device t c.requires is.0 is.1 placed c.count_movable-moved.ensures c.area_at-area.ensures c.has_free_outside.ensures c.if-not-has_free_outside.false
          (c.frame_of_bit-first.ensures ∙ ap (λ (a : Area). frame_of_bit a c.in_ok-run.run') c.area_at-area.ensures),
    )
