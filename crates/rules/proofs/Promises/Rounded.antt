-- The amounts of a request, rounded: up to A, down to A, and the limit. Assumes nothing.
use Rattle.std.proofs.Common.{ℕ, ◌*◌, ◌/◌, ◌^◌, ◌<◌, eqb, ltb, refl, inl, inr, ⊎_elim, arith, le-ltb, lt-ltb, eq-eqb, ne_eqb}
use Rattle.search.proofs.Bools.{below_or_not, or_left_true, or_right_true, or_neither}
use Rattle.frames.specs.Areas.{ceiling}
use Rattle.rules.specs.Declare.{round_up, round_down, alignment_for, base_for, size_for, limit_rounded, limit_for, end_byte}
use Rattle.rules.specs.Promises.Rounded.{RoundedUp, RoundedDown, AmountsRound, LimitRounds}
use Rattle.rules.proofs.Divisions.{up_low, up_high, down_low, down_high}
use Rattle.rules.proofs.Rounding.{alignment_some}

rounded_up : (x d : ℕ) → 0 < d → RoundedUp x d (round_up x d)
rounded_up x d h = record { multiple = (ceiling x d, refl); above = up_low x d h; near = up_high x d h }

rounded_down : (x d : ℕ) → 0 < d → RoundedDown x d (round_down x d)
rounded_down x d h = record { multiple = (x / d, refl); below = down_low x d h; near = down_high x d h }

pub amounts_round : AmountsRound
unfolding alignment_for base_for size_for
amounts_round m r =
    let block = 4096 * 2 ^ m.memory.block_order in
    record {
      as_asked = omega arith;
      a_block = omega arith;
      one_of_them = below_or_not r.alignment block (λ l. inr (omega arith)) (λ l. inl (omega arith));
      base = rounded_up r.base (alignment_for m r) (alignment_some m r);
      size = rounded_up r.size (alignment_for m r) (alignment_some m r);
    }

pub limit_rounds : LimitRounds
unfolding limit_for
limit_rounds m r =
    let R = limit_rounded m r in (
      R,
      record {
        rounded = rounded_down r.limit (alignment_for m r) (alignment_some m r);
        becomes_end =
            ⊎_elim (λ z. rw (or_left_true (eqb R 0) (ltb (end_byte m) R) (eq-eqb R 0 z)))
            (λ l. rw (or_right_true (eqb R 0) (ltb (end_byte m) R) (lt-ltb (end_byte m) R l)));
        stays = λ n l. rw (or_neither (eqb R 0) (ltb (end_byte m) R) (ne_eqb R 0 n) (le-ltb (end_byte m) R l));
      },
    )
