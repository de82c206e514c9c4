-- `playback::answer_records` meets its contract: before each turn, what all records come to is what the rest come to from there on. Assumes
-- nothing.
use Prim.Native.Nat.{◌-◌}
use mathlib.Core.Path.{◌≡◌}
use lib.ListN.{length}
use Rattle.frames.specs.Lent.{tables_in, SameSlices}
use Rattle.playback.specs.Playback.{playing}
use Rattle.playback.specs.Steps.Going.{progress_with}
use Rattle.playback.proofs.Records.{Same}
use Rattle.playback.proofs.answer_records.Given as goal

abbrev pub invariant-loop-call : goal.invariant-loop-call
invariant-loop-call l =
    Same l.bytes (playing l.fn.start l.fn.out (tables_in l.fn.tables)) (playing (progress_with l.p l.areas l.out.length) l.out.buffer.now (tables_in l.tables)) ×
    SameSlices l.initial.tables l.tables ×
    (l.out.buffer.ghost_name ≡ l.initial.out.buffer.ghost_name)

abbrev pub decreases-loop-call : goal.decreases-loop-call
decreases-loop-call l = length l.bytes - l.p.at
