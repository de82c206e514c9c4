-- `device_calls::device_read` meets its contract: what its checks found says what the call does. Assumes nothing.
use borrow.Author.Rules.{rules}
use mathlib.Core.Path.{◌≡◌, sym}
use Rattle.answer.specs.Answers.{number_of, refused, answer_of}
use Rattle.shape.proofs.Returns.{returns_it}
use Rattle.device_calls.proofs.DeviceOutcomes.{place_below, granted_known, read_refused, read_done}
use Rattle.device_calls.proofs.device_read.Goals as goal

pub returns-in_err-check_device : goal.returns-in_err-check_device
returns-in_err-check_device c =
    let same : answer_of c.from_residual.result ≡ refused (number_of c.in_err-check_device.field-0.0) = search rules in
    returns_it same (read_refused _ _ _ _ c.in_err-check_device.ensures)

pub bounds-tables-page : goal.bounds-tables-page
bounds-tables-page c = place_below c.place_of-page.ensures (granted_known _ _ c.args.device _ c.in_ok-check_device.ensures).has.in_words

pub returns : goal.returns
returns c = sym (read_done _ _ _ _ _ c.place_of-page.ensures (granted_known _ _ c.args.device _ c.in_ok-check_device.ensures))
