-- `device_calls::release` meets its contract: what its checks found says what the call does. Assumes nothing.
use borrow.Author.Rules.{rules}
use mathlib.Core.Path.{◌≡◌, refl, sym, subst}
use Rattle.answer.specs.Answers.{number_of, refused, answer_of}
use Rattle.frames.specs.Tables.{Tables}
use Rattle.rules.specs.Outcomes.{Passed}
use Rattle.rules.specs.Does.{record_in}
use Rattle.rules.specs.DeviceCalls.{release_checks}
use Rattle.shape.proofs.Returns.{returns_it}
use Rattle.device_calls.proofs.ReleaseOutcomes.{release_refused, release_done}
use Rattle.device_calls.proofs.release.Goals as goal

pub returns-in_err-check_release : goal.returns-in_err-check_release
returns-in_err-check_release c =
    let same : answer_of c.from_residual.result ≡ refused (number_of c.in_err-check_release.field-0.0) = search rules in
    ((refl, refl, refl, refl), returns_it same (rw c.read.ensures at (release_refused _ _ _ _ _ c.args.device c.in_err-check_release.ensures)))

pub returns : goal.returns
returns c =
    let x = c.args in
    let passed = subst (λ (t : Tables). Passed (release_checks (record_in x.lent) x.area x.frame x.count x.device t)) c.read.ensures c.in_ok-check_release.ensures in
    (c.free_run.ensures.same, sym (release_done _ _ _ _ _ _ passed c.free_run.ensures.freed))
