-- `page_calls::change_kind` meets its contract: what the look-up found says what the call does. Assumes nothing.
use Rattle.page_calls.proofs.Looks.{refused_so, name_fits}
use Rattle.page_calls.proofs.PageOutcomes.{change_not, change_other, change_done}
use Rattle.std.proofs.Common.{rules}
use Rattle.page_calls.proofs.change_kind.Goals as goal

pub returns-in_err-page : goal.returns-in_err-page
returns-in_err-page c = refused_so (search rules) (change_not _ _ _ c.in_err-page.ensures.found _ _)

pub returns-then-not-is_of : goal.returns-then-not-is_of
returns-then-not-is_of c = change_other _ _ _ c.in_ok-page.ensures.found _ _ c.if-not-is_of.ensures

pub returns : goal.returns
returns c = change_done _ _ _ c.in_ok-page.ensures.found _ _ c.if-not-is_of.ensures (name_fits _ c.in_ok-page.ensures.inside.2 c.mark.ensures)
