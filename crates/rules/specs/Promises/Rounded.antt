-- How a declaration rounds what is asked, in plain quantifiers: up to A, down to A, and what A and the limit are.
use Rattle.std.specs.Prelude.{◌≡◌, ℕ, ◌+◌, ◌*◌, ◌^◌, ◌<◌, ◌≤◌, ◌≢◌, ◌⊎◌}
use Rattle.rules.specs.declared.Request.{Request}
use Rattle.rules.specs.declared.Record.{Record}
use Rattle.rules.specs.Declare.{alignment_for, base_for, size_for, limit_for}

abbrev pub Divides : ℕ → ℕ → Type 0
Divides d y = (c : ℕ) × (y ≡ c * d)

-- y is x rounded up to d, and rounded down to d
pub record RoundedUp (x d y : ℕ) : Type 0 where
  pub multiple : Divides d y
  pub above : x ≤ y
  pub near : y < x + d

pub record RoundedDown (x d y : ℕ) : Type 0 where
  pub multiple : Divides d y
  pub below : y ≤ x
  pub near : x < y + d

-- A is the larger of the alignment and a block; base and size round up to it
pub record AmountsAre (m : Record) (r : Request) : Type 0 where
  pub as_asked : r.alignment ≤ alignment_for m r
  pub a_block : 4096 * 2 ^ m.memory.block_order ≤ alignment_for m r
  pub one_of_them : (alignment_for m r ≡ r.alignment) ⊎ (alignment_for m r ≡ 4096 * 2 ^ m.memory.block_order)
  pub base : RoundedUp r.base (alignment_for m r) (base_for m r)
  pub size : RoundedUp r.size (alignment_for m r) (size_for m r)

abbrev pub AmountsRound : Type 0
AmountsRound = (m : Record) (r : Request) → AmountsAre m r

-- the limit given rounds down to R: one that is now 0, or past the end of memory, becomes the end. (Of those that round to 0 only one given as 0
-- is not refused before.)
pub record LimitIs (m : Record) (r : Request) (R : ℕ) : Type 0 where
  pub rounded : RoundedDown r.limit (alignment_for m r) R
  pub becomes_end : (R ≡ 0) ⊎ ((m.memory.base.0 + m.memory.frames) * 4096 < R) → limit_for m r ≡ (m.memory.base.0 + m.memory.frames) * 4096
  pub stays : R ≢ 0 → R ≤ (m.memory.base.0 + m.memory.frames) * 4096 → limit_for m r ≡ R

abbrev pub LimitRounds : Type 0
LimitRounds = (m : Record) (r : Request) → (R : ℕ) × LimitIs m r R
