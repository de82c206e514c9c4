-- `device_calls::grant` meets its contract: its first checks or the search for a run refuse the call, or the run found is taken. Assumes nothing.
use borrow.Author.Rules.{rules}
use mathlib.Core.Path.{◌≡◌, refl}
use Rattle.answer.specs.Answers.{number_of, refused, answer_of}
use Rattle.shape.proofs.Returns.{returns_it}
use Rattle.device_calls.proofs.GrantOutcomes.{grant_refused}
use Rattle.device_calls.proofs.grant.Goals as goal

pub returns-in_err-check_grant : goal.returns-in_err-check_grant
returns-in_err-check_grant c =
    let same : answer_of c.from_residual.result ≡ refused (number_of c.in_err-check_grant.field-0.0) = search rules in
    ((refl, refl, refl, refl), returns_it same (grant_refused _ _ _ _ _ _ (rw c.read.ensures at c.in_err-check_grant.ensures)))
