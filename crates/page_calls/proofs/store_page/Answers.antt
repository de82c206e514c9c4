-- `page_calls::store_page` meets its contract: what the look-up found says what the call does. Assumes nothing.
use Rattle.page_calls.proofs.Looks.{refused_so}
use Rattle.page_calls.proofs.PageOutcomes.{store_not, store_pinned, store_done}
use Rattle.std.proofs.Common.{rules}
use Rattle.page_calls.proofs.store_page.Goals as goal

pub returns-in_err-page : goal.returns-in_err-page
returns-in_err-page c = refused_so (search rules) (store_not _ _ _ c.in_err-page.ensures.found _)

pub returns-then-is_of : goal.returns-then-is_of
returns-then-is_of c = store_pinned _ _ _ c.in_ok-page.ensures.found _ c.if-is_of.ensures

pub returns : goal.returns
returns c = store_done _ _ _ c.in_ok-page.ensures.found _ c.if-is_of.ensures
