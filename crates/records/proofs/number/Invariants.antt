-- `records::number` meets its contract: from the highest byte down, `value` is the number in the bytes passed. Assumes nothing.
use Rattle.std.specs.Iterator.Adapters.{rev_source}
use Rattle.std.specs.Slice.Iter.{iter_rest}
use Rattle.records.proofs.Little.{Passed}
use Rattle.records.proofs.number.Given as goal

abbrev pub invariant-loop-byte : goal.invariant-loop-byte
invariant-loop-byte l = Passed l.bytes l.at l.width (iter_rest (rev_source l.byte-iterator)) l.value
