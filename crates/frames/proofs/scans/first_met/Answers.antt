-- `frames::scans::first_met` meets its contract: what is left to search is the range from `i` on, block by block. Assumes nothing.
use Prim.Native.Nat.{◌+◌}
use native.Mathlib.Omega.{arith}
use mathlib.Core.Path.{sym, ◌∙◌}
use Rattle.search.proofs.Ranges.{some_no}
use Rattle.frames.specs.Scans.{marked}
use Rattle.frames.proofs.ScanFacts.{seek_skip, part_some, part_none}
use Rattle.frames.proofs.scans.first_met.Goals.{then-is_block_hinted+else-is_some, else-is_block_hinted}
use Rattle.frames.proofs.scans.first_met.Goals as goal

pub returns-then-is_some : goal.returns-then-is_some
returns-then-is_some g c =
    let i = c.loop-i.i in
    part_some c.loop-i.invariant.1 (i + 32) (omega arith) (omega arith) c.first_in_block-found.ensures (sym c.is_some.ensures ∙ c.if-is_some.true)

pub loop-i-preserved : goal.loop-i-preserved
loop-i-preserved g c =
    let x = c.args in
    let i = c.loop-i.i in
    let s = c.loop-i.invariant.1 in
    elim c.if-is_block_hinted.branch [
      | then-is_block_hinted+else-is_some w ↦ (
        omega arith,
        part_none s (i + 32) (omega arith) (omega arith) w.first_in_block-found.ensures (sym w.is_some.ensures ∙ w.if-is_some.false),
      )
      | else-is_block_hinted w ↦ (
        omega arith,
        seek_skip s (i + 32) (omega arith) (omega arith)
            (some_no (marked (g.T.MarkTest.test x.test.now) x.marks.now) i 32 (c.is_block_hinted.ensures w.if-is_block_hinted.false)),
      )
    ]
