-- `page_calls::put_page` meets its contract: the first checks, and the place that it takes, say what it does. Assumes nothing.
use Rattle.page_calls.proofs.Looks.{refused_so, name_fits}
use Rattle.page_calls.proofs.Puts.{put_refused, put_live, put_full, put_done}
use mathlib.Core.Path.{sym, ◌∙◌}
use Rattle.std.proofs.Common.{rules}
use Rattle.page_calls.proofs.put_page.Goals as goal

pub returns-in_err-find_named : goal.returns-in_err-find_named
returns-in_err-find_named c = refused_so (search rules) (put_refused _ _ _ _ c.in_err-find_named.ensures.found)

pub returns-then-is_some : goal.returns-then-is_some
returns-then-is_some c = put_live _ _ _ _ _ c.in_ok-find_named.ensures.found c.if-is_some.ensures

pub returns-in_err-page : goal.returns-in_err-page
returns-in_err-page c =
    refused_so (search rules)
    (put_full _ _ _ _ _ c.in_ok-find_named.ensures.found c.if-is_some.ensures _ c.place_for.ensures.found c.in_err-page.ensures.value)

pub returns : goal.returns
returns c =
    put_done _ _ _ _ _ c.in_ok-find_named.ensures.found c.if-is_some.ensures c.in_ok-find_named.ensures.passed.0
    (sym c.in_ok-page.ensures.ok_part ∙ c.place_for.ensures.found) (name_fits _ c.in_ok-find_named.ensures.passed.1 c.mark.ensures) c.frame_at-taken.ensures
