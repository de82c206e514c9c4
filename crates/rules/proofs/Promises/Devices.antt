-- An accepted device store changes the frame's word alone, and an accepted device read answers it. Assumes nothing.
use Rattle.std.proofs.Common.{◌≡◌, ℕ, eqb, ltb, leb, refl, arith, ltb-false, eqb-true, leb-false}
use Rattle.search.proofs.Bools.{or_left, or_right, not_flips}
use Rattle.answer.specs.Answers.{done}
use Rattle.frames.specs.declared.Frame.{Frame}
use Rattle.frames.specs.Units.{place}
use Rattle.frames.specs.Marks.{is_granted, head, later}
use Rattle.frames.specs.Tables.{Tables, mark_at, word_at, owner_at}
use Rattle.rules.specs.declared.Record.{Record}
use Rattle.rules.specs.Record.{place_of, end_frame}
use Rattle.rules.specs.Shape.{shape_right}
use Rattle.rules.specs.Outcomes.{outcome, Passed}
use Rattle.rules.specs.DeviceCalls.{bad_device, outside_memory, device_checks, device_store, device_read}
use Rattle.rules.specs.Promises.Changes.{kind_at}
use Rattle.rules.specs.Promises.Devices.{GrantedAt, DeviceStoreDoes, AcceptedDeviceStore, AcceptedDeviceRead}
use Rattle.rules.proofs.Checks.{accepted_does}
use Rattle.rules.proofs.Says.{says_eqb, says_or}
use Rattle.rules.proofs.Shapes.{shape_known}
use Rattle.rules.proofs.Promises.Changes.{set_only}

module _ (m : Record) (f : Frame) (device : ℕ) (t : Tables) (passed : Passed (device_checks m f device t)) where
  abbrev p : ℕ
  p = (place_of m f).0

  granted_at : GrantedAt m t f device p
  granted_at =
      let below = ltb f.0 m.memory.base.0 in
      let beyond = leb (end_frame m) f.0 in
      let outside = or_left (outside_memory m.memory f) (bad_device device) passed.1.0 in
      let low = ltb-false f.0 m.memory.base.0 (or_left below beyond outside) in
      let high = leb-false (end_frame m) f.0 (or_right below beyond outside) in
      record {
        at = omega arith;
        in_memory = omega arith;
        granted =
            (says_or (says_eqb (kind_at t p) head) (λ _. says_eqb (kind_at t p) later)).fact
            (not_flips (is_granted (mark_at t (place_of m f))) passed.1.1.0);
        owner = eqb-true (owner_at t (place_of m f)) device (not_flips (eqb (owner_at t (place_of m f)) device) passed.1.1.1.0);
      }

pub accepted_device_store : AcceptedDeviceStore
unfolding device_store
accepted_device_store m f word device t accepted =
    accepted_does (λ o. (p : ℕ) × DeviceStoreDoes m f word device t o p) m t (device_checks m f device t) _ refl accepted
    (λ passed.
    let here = granted_at m f device t passed in (
      (place_of m f).0,
      record {
        place_of = here;
        answer = refl;
        page =
            set_only m t (shape_known m t (not_flips (shape_right m t) passed.0)) (place_of m f).0 (mark_at t (place_of m f)) word here.in_memory;
        machine = refl;
      },
    ))

pub accepted_device_read : AcceptedDeviceRead
unfolding device_read
accepted_device_read m f device t accepted =
    accepted_does (λ o. (p : ℕ) × GrantedAt m t f device p × (o ≡ outcome m (done (word_at t (place p)) 0) t)) m t (device_checks m f device t) _ refl accepted
    (λ passed. ((place_of m f).0, granted_at m f device t passed, refl))
