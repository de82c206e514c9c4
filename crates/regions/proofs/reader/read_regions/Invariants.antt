-- The loop's invariant: the reader has the text, and reading on from its place gives what the text gives. The measure is the room that is left.
use Prim.Native.Nat.{◌-◌}
use mathlib.Core.Path.{◌≡◌}
use Rattle.regions.specs.Text.{most_regions}
use Rattle.regions.proofs.Listing.{Reading}
use Rattle.regions.proofs.reader.read_regions.Given as goal

abbrev pub invariant-loop-region : goal.invariant-loop-region
invariant-loop-region l = record { same : l.reader.text.now ≡ l.text; reading : Reading l.text l.known l.reader.place }

abbrev pub decreases-loop-region : goal.decreases-loop-region
decreases-loop-region l = most_regions - l.known.count
