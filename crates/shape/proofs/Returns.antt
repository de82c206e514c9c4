-- From the answer that a call gives to the outcome that the rules give, where the record is handed back as it was. Assumes nothing.
use mathlib.Core.Path.{◌≡◌, sym, ap, ◌∙◌}
use Rattle.answer.specs.declared.Answer.{Answer}
use Rattle.frames.specs.Tables.{Tables}
use Rattle.rules.specs.declared.Record.{Record}
use Rattle.rules.specs.Outcomes.{Outcome, outcome}

pub returns_it : {r a : Answer} {m : Record} {t : Tables} {o : Outcome} → r ≡ a → o ≡ outcome m a t → outcome m r t ≡ o
returns_it {m = m} {t = t} e f = ap (λ (x : Answer). outcome m x t) e ∙ sym f
