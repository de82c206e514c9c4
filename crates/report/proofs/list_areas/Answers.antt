-- `report::list_areas` meets its contract: the loop has listed the first i areas. Assumes nothing.
use native.Mathlib.Omega.{arith}
use Prim.Native.Nat.{◌≤◌}
use mathlib.Core.Path.{◌≡◌}
use Rattle.search.proofs.Counts.{many_le}
use Rattle.report.proofs.OverAreas.{words_most}
use Rattle.report.proofs.Listing.{found, listing_start, listing_small, listing_turn}
use Rattle.report.proofs.list_areas.Goals as goal

pub loop-i-init : goal.loop-i-init
loop-i-init c = listing_start _ _ _ c.requires.1

pub max_chunk-chunk-requires : goal.max_chunk-chunk-requires
max_chunk-chunk-requires c =
    let small = listing_small c.requires.0 c.loop-i-test.true c.requires.1 c.requires.2 c.loop-i.invariant c.area_at-area.ensures in
    (small.few, small.low_order)

pub put_area-requires : goal.put_area-requires
put_area-requires c =
    let small = listing_small c.requires.0 c.loop-i-test.true c.requires.1 c.requires.2 c.loop-i.invariant c.area_at-area.ensures in
    small.room

pub overflow_add-total : goal.overflow_add-total
overflow_add-total c =
    let small = listing_small c.requires.0 c.loop-i-test.true c.requires.1 c.requires.2 c.loop-i.invariant c.area_at-area.ensures in
    omega arith

pub overflow_sub-free : goal.overflow_sub-free
overflow_sub-free c =
    let used_most : c.count_granted-used.result ≤ c.area_at-area.result.count = rw c.count_granted-used.ensures (many_le _ _ _) in
    used_most

pub overflow_add-free : goal.overflow_add-free
overflow_add-free c =
    let small = listing_small c.requires.0 c.loop-i-test.true c.requires.1 c.requires.2 c.loop-i.invariant c.area_at-area.ensures in
    omega arith

pub overflow_add-start : goal.overflow_add-start
overflow_add-start c =
    let small = listing_small c.requires.0 c.loop-i-test.true c.requires.1 c.requires.2 c.loop-i.invariant c.area_at-area.ensures in
    omega (arith, c.words.ensures, words_most c.area_at-area.result)

pub loop-i-preserved : goal.loop-i-preserved
loop-i-preserved c =
    let here = c.loop-i.invariant in
    listing_turn c.requires.0 c.loop-i-test.true c.requires.1 c.requires.2 here _ _ _ _ _
    (found _ _ _ _ _ _ _ _ c.area_at-area.ensures c.place_of-first.ensures c.count_granted-used.ensures here.next_start c.max_chunk-chunk.ensures)
    c.put_area.ensures c.words.ensures

pub returns : goal.returns
returns c =
    let all : c.loop-i.i ≡ c.args.lent.memory.declared = omega arith in
    rw all at c.loop-i.invariant.lists
