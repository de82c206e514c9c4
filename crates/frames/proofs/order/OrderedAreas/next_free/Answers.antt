-- `frames::order::OrderedAreas::next_free` meets its contract: the stretch's own places first, and then from its end on. Assumes nothing.
use Prim.Native.Nat.{ℕ, ◌-◌}
use native.Mathlib.Nat.{le_refl}
use native.Mathlib.Omega.{arith}
use mathlib.Core.Path.{refl, sym, ◌∙◌}
use Rattle.search.proofs.Lowest.{Least, lowest_least}
use lib.ListN.{length}
use Rattle.frames.specs.Marks.{has_kind, free}
use Rattle.frames.specs.Scans.{marked, is_free_ordinary}
use Rattle.frames.specs.Walk.{Walks}
use Rattle.frames.specs.Steps.Stretches.{Within, OrdinaryStretch}
use Rattle.frames.proofs.PlaceFacts.{below_some, below_none}
use Rattle.frames.proofs.ScanFacts.{Seeking, seek_start}
use Rattle.frames.proofs.StretchFacts.{stretch_hit, stretch_skip}
use Rattle.frames.proofs.order.OrderedAreas.next_free.Goals as goal

pub returns-then-end-from : goal.returns-then-end-from
returns-then-end-from c n ord walks = c.free_stretch.ensures n ord walks.next (λ p h. omega (arith, walks.passed p h, c.min.ensures, c.if-end-from.true))

pub returns-in-Some : goal.returns-in-Some
returns-in-Some c n ord walks =
    let within : Within c.args.stretch.from.0 (length c.args.marks.now) c.args.stretch.from.0 c.min.result = let end = c.min.ensures in record { low = le_refl _; ordered = omega arith; more = omega arith; high = omega arith } in
    let known : (n : ℕ) → Walks c.args.self.now.base c.args.self.now.areas.now n (length c.args.marks.now) c.args.self.now.order c.args.stretch
    → OrdinaryStretch c.args.self.now.base c.args.self.now.areas.now n c.args.stretch.from.0 c.args.stretch.from.0 c.min.result = λ n walks. let end = c.min.ensures in record { held = λ k a b. absurd (omega arith); clear = λ k a b. walks.ordinary k a (omega arith) } in
    let at = below_some _ _ c.first_met.ensures c.in-Some.is in
    let x = c.args in
    let end = c.min.ensures in
    let l : Least (marked (has_kind free) x.marks.now) x.stretch.from.0 (c.min.result - x.stretch.from.0) c.in-Some.at.0 =
    rw (at.is) (lowest_least (marked (has_kind free) x.marks.now) x.stretch.from.0 (c.min.result - x.stretch.from.0))
    in
    record {
      found = stretch_hit x.marks.now within (known n walks) c.in-Some.at.0 seek_start at.is at.high;
      walks = record {
        ordinary = λ k low high. walks.ordinary k (omega (arith, l.low)) (omega arith);
        next = walks.next;
        passed = λ p h. omega (arith, walks.passed p h);
      };
    }

pub returns : goal.returns
returns c n ord walks =
    let within : Within c.args.stretch.from.0 (length c.args.marks.now) c.args.stretch.from.0 c.min.result = let end = c.min.ensures in record { low = le_refl _; ordered = omega arith; more = omega arith; high = omega arith } in
    let known : (n : ℕ) → Walks c.args.self.now.base c.args.self.now.areas.now n (length c.args.marks.now) c.args.self.now.order c.args.stretch
    → OrdinaryStretch c.args.self.now.base c.args.self.now.areas.now n c.args.stretch.from.0 c.args.stretch.from.0 c.min.result = λ n walks. let end = c.min.ensures in record { held = λ k a b. absurd (omega arith); clear = λ k a b. walks.ordinary k a (omega arith) } in
    let x = c.args in
    let end = c.min.ensures in
    let rest : Seeking (is_free_ordinary x.marks.now x.self.now.base x.self.now.areas.now n) x.stretch.from.0 (length x.marks.now) c.min.result =
    stretch_skip x.marks.now within (known n walks) _ seek_start refl (below_none _ _ c.first_met.ensures c.in_default.is)
    in
    let after = c.free_stretch-2.ensures n ord walks.next (λ p h. omega (arith, walks.passed p h)) in
    record { found = after.found ∙ sym rest.rest; walks = after.walks }
