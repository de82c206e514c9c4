-- A walk from one stretch of ordinary places to the next, past the areas in their order. Assumes nothing.
--     Underway                        what holds after the areas before `next` were passed; underway_start, underway_on
--     underway_stop, underway_end     the next area begins after the place; there is no more area
use Prim.Native.Nat.{ℕ, ◌+◌, ◌-◌, ◌≤◌, ◌<◌, min, max}
use native.Mathlib.Nat.{le_refl}
use native.Mathlib.Omega.{arith}
use mathlib.Core.Bool.{true, false}
use mathlib.Core.List.{List}
use mathlib.Core.Path.{◌≡◌, subst}
use lib.ListN.{get_or}
use Rattle.search.proofs.Bools.{below_or_not}
use Rattle.frames.specs.declared.Area.{Area}
use Rattle.frames.specs.declared.Frame.{Frame}
use Rattle.frames.specs.declared.order.Order.{Order}
use Rattle.frames.specs.declared.walk.Stretch.{Stretch}
use Rattle.frames.specs.Units.{frame}
use Rattle.frames.specs.Areas.{holds_frame, end_of, area_in}
use Rattle.frames.specs.Scans.{in_areas_at}
use Rattle.frames.specs.Orders.{in_use, Ordered}
use Rattle.frames.specs.Walk.{Behind}
use Rattle.frames.specs.Steps.Stretches.{NextStretch}
use Rattle.frames.proofs.AreaFacts.{holds_yes, holds_below, holds_above, in_area, out_of_areas}

module _ (base : Frame) (areas : List ℕ) (n : ℕ) (o : Order) (len : ℕ) (ord : Ordered areas (in_use areas n) o) (at : ℕ) where
  -- the area that is k-th
  abbrev nth : ℕ → Area
  nth k = area_in areas (get_or o.list k 0)

  pub record Underway (from next : ℕ) : Type 0 where
    pub low : at ≤ from
    pub high : from ≤ len
    pub few : next ≤ in_use areas n
    pub held : (q : ℕ) → at ≤ q → q < from → in_areas_at base areas n q ≡ true
    pub passed : Behind base areas o len from next

  pub underway_start : (k : ℕ) → at < len → k ≤ in_use areas n → Behind base areas o len at k → Underway at k
  underway_start k h few passed = record { low = le_refl at; high = omega arith; few = few; held = λ q a b. absurd (omega arith); passed = passed }

  module _ {from next : ℕ} (g : Underway from next) where
    pub underway_on : next < in_use areas n → (nth next).base.0 - base.0 ≤ from → (after : ℕ) → after ≡ max from (min (end_of (nth next) - base.0) len) → Underway after (next + 1)
    underway_on room start after e =
        record {
          low = omega (arith, g.low);
          high = omega (arith, g.high);
          few = omega arith;
          held = λ q a b.
              below_or_not q from (λ h. g.held q a h)
              (λ h.
              in_area areas n (frame (base.0 + q)) (get_or o.list next 0) (omega (arith, ord.known next room))
              (holds_yes (nth next) (base.0 + q) (omega arith) (omega arith)));
          passed = λ p h.
              below_or_not p next (λ w. omega (arith, g.passed p w))
              (λ w. let same : next ≡ p = omega arith in subst (λ (k : ℕ). min (end_of (nth k) - base.0) len ≤ after) same (omega arith));
        }

    -- the areas passed hold no place from `from` on
    behind : (q p : ℕ) → from ≤ q → q < len → p < next → holds_frame (nth p) (frame (base.0 + q)) ≡ false
    behind q p h l w = holds_above (nth p) (base.0 + q) (omega (arith, g.passed p w))

    -- so a place is ordinary where the others do not hold it
    ordinary :
        (q : ℕ) → from ≤ q → q < len → ((p : ℕ) → next ≤ p → p < in_use areas n → holds_frame (nth p) (frame (base.0 + q)) ≡ false)
        → in_areas_at base areas n q ≡ false
    ordinary q h l rest =
        out_of_areas areas n (frame (base.0 + q))
        (λ i w.
        let found = ord.all i w in
        subst (λ (j : ℕ). holds_frame (area_in areas j) (frame (base.0 + q)) ≡ false) found.is
        (below_or_not found.at next (λ v. behind q found.at h l v) (λ v. rest found.at v found.low)))

    pub underway_stop :
        next < in_use areas n → from < (nth next).base.0 - base.0 → (r : Stretch) → r.from.0 ≡ from → r.end.0 ≡ min ((nth next).base.0 - base.0) len → r.next ≡ next
        → NextStretch base areas n o at len r
    underway_stop room start r e f k =
        record {
          stretch = record {
            held = λ q a b. g.held q a (omega arith);
            clear = λ q a b.
                ordinary q (omega arith) (omega arith)
                (λ p w v.
                holds_below (nth p) (base.0 + q)
                (below_or_not next p (λ u. omega (arith, ord.sorted next p u v)) (λ u. let same : next ≡ p = omega arith in subst (λ (k : ℕ). base.0 + q < (nth k).base.0) same (omega arith))));
          };
          next = omega (arith, g.few);
          passed = λ p h. omega (arith, g.high, g.passed p (omega arith));
        }

    pub underway_end : in_use areas n ≤ next → (r : Stretch) → r.from.0 ≡ from → r.end.0 ≡ len → r.next ≡ next → NextStretch base areas n o at len r
    underway_end all r e f k =
        record {
          stretch = record {
            held = λ q a b. g.held q a (omega arith);
            clear = λ q a b. ordinary q (omega arith) (omega arith) (λ p w v. absurd (omega arith));
          };
          next = omega (arith, g.few);
          passed = λ p h. omega (arith, g.high, g.passed p (omega arith));
        }
