-- `text::names::name_length` meets its contract: the search of the definition goes on from n. Assumes nothing.
use Rattle.text.proofs.Naming.{ends}
use Rattle.text.specs.Names.{longest_name, name_length}
use Rattle.search.specs.Search.{lowest_from}
use mathlib.Core.Path.{◌≡◌}
use Prim.Native.Nat.{◌-◌}
use Rattle.text.proofs.names.name_length.Given as goal

abbrev pub invariant-loop-n : goal.invariant-loop-n
invariant-loop-n l = name_length l.text l.at ≡ lowest_from (ends l.text l.at) l.n (longest_name - l.n)
