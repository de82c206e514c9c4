-- `shape::room_around` meets its contract: the loop's room holds the area, and is free of each area below k; so the area is apart from all of them
-- where it comes to the end. Assumes nothing.
use Prim.Native.Nat.{ℕ, ◌+◌, ◌*◌, ◌/◌, ◌≤◌, min}
use native.Mathlib.Omega.{arith}
use mathlib.Core.Path.{◌≡◌, sym, ap, ◌∙◌}
use mathlib.Core.List.{List}
use lib.ListN.{length, get_or-eq_default}
use Rattle.search.proofs.Bools.{below_or_not}
use Rattle.frames.specs.declared.Area.{Area}
use Rattle.search.proofs.Ranges.{every_miss}
use Rattle.frames.specs.Areas.{area_in, are_disjoint}
use Rattle.shape.proofs.Rooms.{in_free, part_free}
use Rattle.shape.proofs.room_around.Goals as goal

-- where an area has a frame, the numbers of all areas before it are there
all_there : (areas : List ℕ) (i : ℕ) {a : Area} → a ≡ area_in areas i → 1 ≤ a.count → min i (length areas / 3) ≡ i
all_there areas i e some =
    let count = ap (λ (x : Area). x.count) e in
    below_or_not (3 * i + 1) (length areas) (λ l. omega (arith, l)) (λ l. absurd (omega (arith, some, count, get_or-eq_default areas 0 l)))

pub returns-then-not-apart : goal.returns-then-not-apart
returns-then-not-apart c =
    let areas = c.args.areas.now in
    record {
      apart = sym
          (every_miss (λ k. are_disjoint (area_in areas k) (area_in areas c.args.i)) 0 c.args.i c.loop-k.k (omega arith) (omega arith)
          (sym (rw (c.area_at-other.ensures, c.requires.0) at c.apart.ensures) ∙ c.if-not-apart.true));
      room = tt;
    }

pub loop-k-preserved : goal.loop-k-preserved
loop-k-preserved c = (
  part_free c.args.areas.now c.loop-k.k c.loop-k.room c.past_other-room.result c.loop-k.invariant.0 (rw c.area_at-other.ensures at c.past_other-room.ensures.part_beside),
  c.past_other-room.ensures.result_value,
)

pub returns : goal.returns
returns c =
    let v = c.loop-k.invariant in
    let inside = rw c.requires.0 at v.1 in
    let all = all_there c.args.areas.now c.args.i c.requires.0 c.requires.1 in
    record {
      apart = sym (in_free c.args.areas.now c.args.i c.loop-k.room (λ k l. v.0 k (omega (arith, all))) inside);
      room = (λ k l. v.0 k (omega (arith, all)), inside);
    }
