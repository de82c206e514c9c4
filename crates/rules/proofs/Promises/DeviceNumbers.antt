-- The conditions of the device calls' numbers. Assumes nothing.
use Rattle.std.proofs.Common.{◌≡◌, ℕ, suc, ◌+◌, ◌-◌, ◌<◌, Bool, not, ◌||◌, eqb, ltb, leb, inl, inr, arith, leb-false}
use Rattle.search.specs.Search.{lowest}
use Rattle.search.proofs.Bools.{below_or_not}
use Rattle.frames.specs.declared.Frame.{Frame}
use Rattle.frames.specs.Units.{place, bit}
use Rattle.frames.specs.Marks.{has_kind, field_of, is_granted, head, later}
use Rattle.frames.specs.Areas.{bit_count, end_of}
use Rattle.frames.specs.Tables.{Tables, mark_at, owner_at}
use Rattle.rules.specs.declared.Record.{Record}
use Rattle.rules.specs.Record.{area_at, place_of, end_frame}
use Rattle.rules.specs.Limits.{most_align_order}
use Rattle.rules.specs.DeviceCalls.{bad_device, not_owner, is_unknown, is_grantable, chosen, place_of_bit, movers, outside_area, off_bit, later_frames, outside_memory}
use Rattle.rules.specs.Promises.Changes.{kind_at, field_at}
use Rattle.rules.specs.Targets.{targets}
use Rattle.rules.proofs.Targets.{room_is}
use Rattle.rules.specs.Promises.Grants.{Grantable, room_for, moved, NoRun, NoTargets}
use Rattle.rules.specs.Promises.Numbers.{BadDevice, BadGrant, BadRelease, NoGrant, NotOwner, Disagrees, BadFrame, NotGranted}
use Rattle.rules.proofs.Says.{Says, says_is, says_false, says_ltb, says_leb, says_eqb, says_not, says_or, says_right, says_not_every, says_missed, says_lowest}
use Rattle.rules.proofs.Promises.Grants.{grantable_says, in_range}

-- a device's number
bad_device_lem : (device : ℕ) → Says (bad_device device) (BadDevice device)
bad_device_lem device = says_or (says_ltb device 1) (λ _. says_ltb 65535 device)

-- the owner of a frame
pub not_owner_lem : (m : Record) (t : Tables) (f : Frame) (device : ℕ) → Says (not_owner m t f device) (NotOwner m t f.0 device)
not_owner_lem m t f device = says_not (says_eqb (owner_at t (place (f.0 - m.memory.base.0))) device)

-- ---- grant
module _ (m : Record) (t : Tables) (i count align_order device : ℕ) where
  pub bad_grant : Says (is_unknown m.memory i || eqb count 0 || ltb most_align_order align_order || bad_device device) (BadGrant m i count align_order device)
  bad_grant =
      says_right
      (says_right
      (says_or (says_or (says_or (says_leb m.memory.declared i) (λ _. says_eqb count 0)) (λ _. says_ltb 16 align_order)) (λ _. bad_device_lem device)))

  module _ (good : BadGrant m i count align_order device → ⊥) where
    abbrev bits : ℕ
    bits = bit_count (area_at m i)

    abbrev grantable : ℕ → Bool
    grantable j = is_grantable m t i count align_order (bit j)

    known : i < m.memory.declared
    known = below_or_not i m.memory.declared (λ h. h) (λ h. absurd (good (inl h)))

    some : 0 < count
    some = below_or_not 0 count (λ h. h) (λ h. absurd (good (inr (inl (omega arith)))))

    pub no_run : Says (leb bits (chosen m t i count align_order).0) (NoRun m t i count align_order)
    unfolding chosen
    no_run = says_missed grantable bits (Grantable m t i count align_order) (λ j _. grantable_says m t i count align_order j) (in_range m t i count align_order some)

    pub no_targets :
        (NoRun m t i count align_order → ⊥) →
        Says (ltb (targets m t i) (movers t (place_of_bit m i (chosen m t i count align_order)) count)) (NoTargets m t i count align_order)
    unfolding chosen movers
    no_targets run =
        rw (room_is m i known t)
        (says_is (λ w. (w.0, record { grantable = w.1.0; lowest = w.1.1 }, w.2)) (λ w. (w.0, (w.1.grantable, w.1.lowest), w.2))
        (says_lowest grantable bits (Grantable m t i count align_order) (λ j _. grantable_says m t i count align_order j) (in_range m t i count align_order some)
        (λ j. ltb (room_for m t i) (moved m t i count align_order j))
        (λ j. room_for m t i < moved m t i count align_order j) (λ j. says_ltb (room_for m t i) (moved m t i count align_order j))
        (leb-false bits (lowest grantable bits) (says_false no_run run))))

-- ---- release
module _ (m : Record) (t : Tables) (i : ℕ) (f : Frame) (count device : ℕ) where
  pub bad_release : Says (is_unknown m.memory i || eqb count 0 || outside_area (area_at m i) f count || bad_device device) (BadRelease m i f.0 count device)
  bad_release =
      says_right
      (says_right
      (says_or
      (says_or (says_or (says_leb m.memory.declared i) (λ _. says_eqb count 0))
      (λ _. says_or (says_ltb f.0 (area_at m i).base.0) (λ _. says_ltb (end_of (area_at m i)) (f.0 + count))))
      (λ _. bad_device_lem device)))

  pub no_grant : Says (off_bit (area_at m i) f || not (has_kind head (mark_at t (place_of m f)))) (NoGrant m t i f.0)
  no_grant = says_or (says_not (says_eqb _ 0)) (λ _. says_not (says_eqb (kind_at t (f.0 - m.memory.base.0)) 4))

  pub disagrees :
      Says (not (eqb (field_of (mark_at t (place_of m f))) count) || not (later_frames t (place_of m f) count)) (Disagrees m t f.0 count)
  unfolding later_frames
  disagrees =
      let p = f.0 - m.memory.base.0 in
      says_or (says_not (says_eqb (field_at t p) count))
      (λ _.
      says_is (λ w. (w.0, w.1, omega (arith, w.1, w.2), w.3)) (λ w. (w.0, w.1, omega (arith, w.1, w.2), w.3))
      (says_not_every (λ q. has_kind later (mark_at t (place q))) (λ q. kind_at t q ≡ 5) (suc p) (count - 1) (λ q. says_eqb (kind_at t q) 5)))

-- ---- device store, device read
module _ (m : Record) (t : Tables) (f : Frame) (device : ℕ) where
  pub bad_frame : Says (outside_memory m.memory f || bad_device device) (BadFrame m f.0 device)
  bad_frame = says_or (says_or (says_ltb f.0 m.memory.base.0) (λ _. says_leb (end_frame m) f.0)) (λ _. bad_device_lem device)

  pub not_granted : Says (not (is_granted (mark_at t (place_of m f)))) (NotGranted m t f.0)
  not_granted = says_not (says_or (says_eqb (kind_at t (f.0 - m.memory.base.0)) 4) (λ _. says_eqb (kind_at t (f.0 - m.memory.base.0)) 5))
