-- `page_calls::read_page` meets its contract: what the look-up found says what the call does. Assumes nothing.
use Rattle.page_calls.proofs.Looks.{refused_so}
use Rattle.page_calls.proofs.PageOutcomes.{read_not, read_done}
use Rattle.std.proofs.Common.{rules}
use Rattle.page_calls.proofs.read_page.Goals as goal

pub returns-in_err-page : goal.returns-in_err-page
returns-in_err-page c = refused_so (search rules) (read_not _ _ _ c.in_err-page.ensures.found)

pub returns : goal.returns
returns c = read_done _ _ _ c.in_ok-page.ensures.found c.frame_at-frame.ensures
