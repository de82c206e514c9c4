-- What a device's store and read do, from what their checks found. Assumes nothing.
use Prim.Native.Nat.{ℕ, ◌-◌, ◌≤◌, ◌<◌}
use native.Mathlib.Omega.{arith}
use mathlib.Core.Path.{◌≡◌, sym, ap, subst, ◌∙◌}
use mathlib.Core.Bool.{true, false, ◌||◌}
use lib.Dec.{leb, ltb}
use lib.ListN.{length, set}
use lib.Seq.{set-get_or}
use borrow.Author.Tests.{ltb-false, leb-false}
use Rattle.search.proofs.Bools.{or_left, or_right, not_flips}
use Rattle.answer.specs.Answers.{done}
use Rattle.frames.specs.declared.Frame.{Frame}
use Rattle.frames.specs.declared.Place.{Place}
use Rattle.frames.specs.Units.{place}
use Rattle.frames.specs.Tables.{Tables, tables, mark_at, word_at, set_page}
use Rattle.rules.specs.declared.Record.{Record}
use Rattle.rules.specs.Record.{place_of, end_frame}
use Rattle.rules.specs.Shape.{shape_right}
use Rattle.rules.specs.Outcomes.{outcome, refuse, First, Passed}
use Rattle.rules.specs.DeviceCalls.{bad_device, outside_memory, device_checks, device_store, device_read}
use Rattle.rules.proofs.Checks.{checked_first, checked_passed}
use Rattle.rules.proofs.Shapes.{shape_known}

-- a frame of memory
record InMemory (m : Record) (f : Frame) : Type 0 where
  pub low : m.memory.base.0 ≤ f.0
  pub high : f.0 < end_frame m

in_memory : (m : Record) (f : Frame) → outside_memory m.memory f ≡ false → InMemory m f
in_memory m f e =
    record {
      low = ltb-false f.0 m.memory.base.0 (or_left (ltb f.0 m.memory.base.0) (leb (end_frame m) f.0) e);
      high = leb-false (end_frame m) f.0 (or_right (ltb f.0 m.memory.base.0) (leb (end_frame m) f.0) e);
    }

-- a place below a bound
pub place_below : {p : Place} {n k : ℕ} → p ≡ place n → n < k → p.0 < k
place_below {k = k} e h = subst (λ (q : Place). q.0 < k) (sym e) h

module _ (m : Record) (f : Frame) (device : ℕ) (t : Tables) where
  -- a frame of memory has a mark, a word and an owner
  pub record Tabled : Type 0 where
    pub in_marks : f.0 - m.memory.base.0 < length t.marks
    pub in_words : f.0 - m.memory.base.0 < length t.words
    pub in_owners : f.0 - m.memory.base.0 < length t.owners

  pub tabled : shape_right m t ≡ true → (outside_memory m.memory f || bad_device device) ≡ false → Tabled
  tabled s o =
      let k = shape_known m t s in
      let i = in_memory m f (or_left (outside_memory m.memory f) (bad_device device) o) in
      record {
        in_marks = omega (arith, i.low, i.high, k.marks_length);
        in_words = omega (arith, i.low, i.high, k.words_length);
        in_owners = omega (arith, i.low, i.high, k.owners_length);
      }

  -- what is known of a frame that a device may use
  pub record Granted : Type 0 where
    pub passed : Passed (device_checks m f device t)
    pub has : Tabled

  pub granted_known : Passed (device_checks m f device t) → Granted
  granted_known p = record { passed = p; has = tabled (not_flips (shape_right m t) p.0) p.1.0 }

  pub store_refused : (word : ℕ) {n : ℕ} → First (device_checks m f device t) n → device_store m f word device t ≡ refuse m t n
  unfolding device_store
  store_refused word e = checked_first m t _ e

  pub read_refused : {n : ℕ} → First (device_checks m f device t) n → device_read m f device t ≡ refuse m t n
  unfolding device_read
  read_refused e = checked_first m t _ e

  -- it is done, at the frame's place
  module _ (p : Place) (e : p ≡ place_of m f) (g : Granted) where
    pub store_done : (word : ℕ) → device_store m f word device t ≡ outcome m (done 0 0) (tables t.marks (set t.words p.0 word) t.bitmap t.owners)
    unfolding device_store
    store_done word =
        checked_passed m t _ _ g.passed ∙
        ap (λ (q : Place). outcome m (done 0 0) (set_page t q (mark_at t q) word)) (sym e) ∙
        ap (λ ms. outcome m (done 0 0) (tables ms (set t.words p.0 word) t.bitmap t.owners)) (set-get_or t.marks p.0 0)

    pub read_done : device_read m f device t ≡ outcome m (done (word_at t p) 0) t
    unfolding device_read
    read_done = checked_passed m t _ _ g.passed ∙ ap (λ (q : Place). outcome m (done (word_at t q) 0) t) (sym e)
