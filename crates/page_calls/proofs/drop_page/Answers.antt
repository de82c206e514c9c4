-- `page_calls::drop_page` meets its contract: what the look-up found says what the call does. Assumes nothing.
use Rattle.page_calls.proofs.Looks.{refused_so}
use Rattle.page_calls.proofs.PageOutcomes.{drop_not, drop_pinned, drop_done}
use Rattle.std.proofs.Common.{rules}
use Rattle.page_calls.proofs.drop_page.Goals as goal

pub returns-in_err-page : goal.returns-in_err-page
returns-in_err-page c = refused_so (search rules) (drop_not _ _ _ c.in_err-page.ensures.found)

pub returns-then-is_of : goal.returns-then-is_of
returns-then-is_of c = drop_pinned _ _ _ c.in_ok-page.ensures.found c.if-is_of.ensures

pub returns : goal.returns
returns c = drop_done _ _ _ c.in_ok-page.ensures.found c.if-is_of.ensures c.mark.ensures
