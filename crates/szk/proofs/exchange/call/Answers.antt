-- `szk::exchange::call` meets its contract: it is stopped before the call, or gives the call's outcome back. Assumes nothing.
use native.Mathlib.Omega.{arith}
use mathlib.Core.Path.{refl}
use Rattle.szk.proofs.LayoutFacts.{length_areas}
use Rattle.szk.proofs.LentFacts.{room, stopped, stopped_buffer, performed, performed_buffer}
use Rattle.szk.proofs.exchange.call.Goals as goal

pub returns-then-refuse_short : goal.returns-then-refuse_short
returns-then-refuse_short c =
    let a = c.args in
    let judged = c.refuse_short.ensures in
    record {
      same = (refl, refl, refl, refl);
      exports = stopped judged _ _ _ c.if-refuse_short.true;
      buffer_after = stopped_buffer judged a.call a.buffer.now _ c.if-refuse_short.true;
    }

pub load-requires : goal.load-requires
load-requires c = (room c.refuse_short.ensures c.if-refuse_short.false).record_long

pub load_counters-requires : goal.load_counters-requires
load_counters-requires c = (room c.refuse_short.ensures c.if-refuse_short.false).record_long

pub slice_bounds-areas-end : goal.slice_bounds-areas-end
slice_bounds-areas-end c = let long = (room c.refuse_short.ensures c.if-refuse_short.false).record_long in omega arith

pub give_back-requires : goal.give_back-requires
give_back-requires c =
    let long = room c.refuse_short.ensures c.if-refuse_short.false in
    (omega (arith, long.record_long), long.after_long)

pub returns : goal.returns
returns c =
    let a = c.args in
    let judged = c.refuse_short.ensures in
    let loaded = c.load.ensures in
    let made = c.perform-returned.ensures in
    let kept = c.perform-returned.auto in
    let areas = length_areas a.numbers.now (room judged c.if-refuse_short.false).record_long in
    let back = c.give_back.ensures in
    record {
      same = made.does_with_all.0.0;
      exports = performed judged _ _ _ c.if-refuse_short.false loaded c.load_counters.ensures made.does_with_all.0.1 made.does_with_all.1 (omega (arith, kept, areas)) back.numbers_after back.answer_after;
      buffer_after = performed_buffer judged a.call a.buffer.now _ c.if-refuse_short.false loaded made.buffer_after;
    }
