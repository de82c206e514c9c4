-- `bitmap::looks::Sought::past_end` meets its contract: in the rest of an empty word, in the next, or nowhere. Assumes nothing.
use Rattle.bitmap.proofs.Finds.{out_here, out_next, out_none}
use Rattle.bitmap.proofs.looks.Sought.past_end.Goals as goal

pub returns-then-near-here : goal.returns-then-near-here
returns-then-near-here c =
    let a = c.args in
    let h = c.hits-empty in
    let n = c.clear_in-near in
    out_here _ _ h.result a.low a.left _ n.result c.requires
    h.ensures c.min-here.ensures n.ensures c.if-near-here.true

pub returns-then-far-next : goal.returns-then-far-next
returns-then-far-next c =
    let a = c.args in
    let h = c.hits-empty in
    let n = c.clear_in-near in
    let f = c.clear_in-far in
    out_next _ _ h.result a.low a.left _ n.result c.requires
    h.ensures c.min-here.ensures n.ensures _ f.result c.min-next.ensures f.ensures c.if-near-here.false c.if-far-next.true

pub returns : goal.returns
returns c =
    let a = c.args in
    let h = c.hits-empty in
    let n = c.clear_in-near in
    let f = c.clear_in-far in
    out_none _ _ h.result a.low a.left _ n.result c.requires
    h.ensures c.min-here.ensures n.ensures _ f.result c.min-next.ensures f.ensures c.if-near-here.false c.if-far-next.false
