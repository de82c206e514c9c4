-- What the invariant says of a state: parts (1) to (5) and (7) of demand 3, of which (2) says more of the list. Assumes nothing.
use Rattle.std.proofs.Common.{◌≡◌, ℕ, ◌+◌, ◌-◌, ◌<◌, ◌≤◌, Bool, true, false, not, ◌&&◌, ◌||◌, eqb, ltb, leb, ◌≢◌, sym, refl, ap, ◌∙◌, arith, ltb-false, ltb-true, le-ltb, lt-ltb, eq-eqb, ne_eqb, eqb-true}
use borrow.Author.Tests.{lt-leb, not-false}
use Rattle.std.specs.Prelude.{if◌then◌else◌}
use Rattle.search.proofs.Bools.{by_cases, below_or_not, clash, or_neither, or_left, or_right, and_left, and_right, and_both}
use Rattle.answer.specs.Answers.{done}
use Rattle.frames.specs.declared.Frame.{Frame}
use Rattle.frames.specs.Units.{frame, place}
use Rattle.frames.specs.Marks.{kind_of, mark_of, has_kind, is_page_of, is_granted, pinned, fixed, later}
use Rattle.frames.specs.Tables.{Tables, mark_at, word_at, owner_at}
use Rattle.rules.specs.declared.Record.{Record}
use Rattle.rules.specs.Record.{place_of, frame_at, is_ordinary, end_frame}
use Rattle.rules.specs.Outcomes.{Outcome, outcome, checked, Passed, here, there}
use Rattle.rules.specs.PageCalls.{page_at, is_live, read_page}
use Rattle.rules.specs.DeviceCalls.{bad_device, outside_memory, device_checks, device_store, device_read, release}
use Rattle.rules.specs.Ledger.Ledger.{grants_at}
use Rattle.rules.specs.Ledger.Lists.{State, is_refused}
use Rattle.rules.specs.Ledger.Statement.{is_live_frame, device_of, mark_of_page, ReadsRight, PinsRight, GrantsRight, DeviceWordsRight, OwnersRight, FixedOutside}
use Rattle.rules.proofs.AreaRight.{in_area}
use Rattle.rules.proofs.Checks.{checked_cases, checked_first, checked_passed}
use Rattle.rules.proofs.Ledger.Marks.{has_kind_lem, kind_has, page_field}
use Rattle.rules.proofs.Ledger.Names.{live_is}
use Rattle.rules.proofs.Ledger.Grants.{at_among, takes_low, takes_high}
use Rattle.rules.proofs.Ledger.Kept.{refused_number}
use Rattle.rules.proofs.Ledger.PageCalls.{FoundPage, live_page}
use Rattle.rules.proofs.Ledger.DeviceWords.{memory_low, memory_high}
use Rattle.rules.proofs.Ledger.Release.{releasable}
use Rattle.rules.proofs.Ledger.Histories.{SoundState}

module _ (s : State) (sound : SoundState s) where
  abbrev m : Record
  m = s.machine

  abbrev t : Tables
  t = s.own

  -- ---- (1) page reads

  module _ (name : ℕ) where
    live_same : is_live m t name ≡ s.ledger.live name
    live_same = live_is m t name s.ledger (sound.names name)

    read_done : s.ledger.live name ≡ true → read_page m name t ≡ outcome m (done (frame_at m (page_at m t name)).0 (word_at t (page_at m t name))) t
    unfolding read_page
    read_done live = checked_passed m t _ _ (ap not sound.shape, ((sound.names name).allowed live, (ap not (live_same ∙ live), tt)))

    read_refused : s.ledger.live name ≡ false → is_refused (read_page m name t) ≡ true
    unfolding read_page
    read_refused dead =
        checked_cases (λ o. is_refused o ≡ true) m t _ _ refl (refused_number m t)
        (λ passed. clash (is_live m t name) (not-false (is_live m t name) passed.1.1.0) (live_same ∙ dead))

    found : s.ledger.live name ≡ true → FoundPage m t s.ledger name
    found live = live_page m t s.ledger sound name (live_same ∙ live)

    read_only : (p : ℕ) → p < m.memory.frames → is_page_of name (mark_at t (place p)) ≡ true → s.ledger.live name ≡ true
    read_only p h e =
        by_cases (s.ledger.live name) (λ y. y) (λ n. clash (is_page_of name (mark_at t (place p))) e ((sound.names name).absent n p h))

  pub reads_right : ReadsRight s
  reads_right =
      record {
        accepted = λ name.
            by_cases (s.ledger.live name) (λ live. ap (λ (o : Outcome). not (is_refused o)) (read_done name live) ∙ sym live)
            (λ dead. ap not (read_refused name dead) ∙ sym dead);
        word = λ name live. ap (λ (o : Outcome). o.answer.second) (read_done name live) ∙ (found name live).word;
        stands = λ name live.
            let answer : (read_page m name t).answer.first ≡ m.memory.base.0 + (page_at m t name).0 = ap (λ (o : Outcome). o.answer.first) (read_done name live) in
            let back : (read_page m name t).answer.first - m.memory.base.0 ≡ (page_at m t name).0 = omega arith in
            ap (λ (x : ℕ). is_page_of name (mark_at t (place x))) back ∙ (found name live).here;
        only_frame = λ name p h e.
            let live = read_only name p h e in
            ap (λ (x : ℕ). m.memory.base.0 + x) ((found name live).only p h e) ∙ sym (ap (λ (o : Outcome). o.answer.first) (read_done name live));
      }

  -- ---- (2) pinned pages

  module _ (name : ℕ) where
    page_mark : mark_of_page s name ≡ mark_at t (page_at m t name)
    page_mark =
        let back : m.memory.base.0 + (page_at m t name).0 - m.memory.base.0 ≡ (page_at m t name).0 = omega arith in
        ap (λ (x : ℕ). mark_at t (place x)) back

    pin_found : s.ledger.pinned name ≡ true → FoundPage m t s.ledger name
    pin_found e = found name ((sound.names name).pinned_live e)

    pin_marked : s.ledger.pinned name ≡ true → mark_of_page s name ≡ mark_of name pinned
    pin_marked e =
        let mark = mark_at t (page_at m t name) in
        let kind = has_kind_lem pinned mark ((pin_found e).pinned ∙ e) in
        let field = page_field name mark (pin_found e).here in
        let same = page_mark in
        omega arith

    not_marked : s.ledger.live name ≡ true → s.ledger.pinned name ≡ false → kind_of (mark_of_page s name) ≢ pinned
    not_marked live e k =
        clash (has_kind pinned (mark_of_page s name)) (kind_has pinned (mark_of_page s name) k)
        (ap (has_kind pinned) page_mark ∙ (found name live).pinned ∙ e)

  pub pins_right : PinsRight s
  pins_right =
      record {
        live = λ name. (sound.names name).pinned_live;
        inside = λ name e. let h = (pin_found name e).inside in (omega arith, omega arith);
        marked = pin_marked;
        unmarked = not_marked;
      }

  -- ---- (3) grants

  -- a frame of a live grant lies in memory
  live_inside : (f : Frame) → 0 < grants_at s.ledger.grants f → (m.memory.base.0 ≤ f.0) × (f.0 < end_frame m)
  live_inside f h =
      let w = at_among s.ledger.grants f h in
      let g = sound.grants w.by w.among in
      let low = g.low in
      let high = g.high in
      let a = takes_low w.by f w.taken in
      let b = takes_high w.by f w.taken in
      (omega arith, omega arith)

  abbrev one_if : Bool → ℕ
  one_if b = if b then 1 else 0

  one_least : (b : Bool) → one_if b ≤ 1
  one_least true = omega arith
  one_least false = omega arith

  at_frame : (f : Frame) → m.memory.base.0 ≤ f.0 → f.0 < end_frame m → grants_at s.ledger.grants f ≡ one_if (is_granted (mark_at t (place_of m f)))
  at_frame f low high =
      let same : m.memory.base.0 + (f.0 - m.memory.base.0) ≡ f.0 = omega arith in
      ap (λ (x : ℕ). grants_at s.ledger.grants (frame x)) (sym same) ∙ sound.covered (f.0 - m.memory.base.0) (omega arith)

  marked_live : (b : Bool) (n : ℕ) → n ≡ one_if b → ltb 0 n ≡ b
  marked_live true n e = lt-ltb 0 n (omega arith)
  marked_live false n e = le-ltb 0 n (omega arith)

  pub grants_right : GrantsRight s
  grants_right =
      record {
        apart = λ f.
            below_or_not 0 (grants_at s.ledger.grants f)
            (λ h.
            let inside = live_inside f h in
            let e = at_frame f inside.0 inside.1 in
            let least = one_least (is_granted (mark_at t (place_of m f))) in
            omega arith)
            (λ h. omega arith);
        inside = λ f e. live_inside f (ltb-true 0 (grants_at s.ledger.grants f) e);
        marked = λ p h.
            sym (marked_live (is_granted (mark_at t (place p))) (grants_at s.ledger.grants (frame_at m (place p))) (sound.covered p h));
        total = sound.total;
      }

  -- ---- (4) device words

  module _ (f : Frame) where
    live_granted : is_live_frame s f ≡ true → is_granted (mark_at t (place_of m f)) ≡ true
    live_granted e =
        let inside = live_inside f (ltb-true 0 (grants_at s.ledger.grants f) e) in
        sym (marked_live (is_granted (mark_at t (place_of m f))) (grants_at s.ledger.grants f) (at_frame f inside.0 inside.1)) ∙ e

    live_word : is_live_frame s f ≡ true → word_at t (place_of m f) ≡ s.ledger.device_word f.0
    live_word e =
        let inside = live_inside f (ltb-true 0 (grants_at s.ledger.grants f) e) in
        let low = inside.0 in
        let high = inside.1 in
        let same : m.memory.base.0 + (f.0 - m.memory.base.0) ≡ f.0 = omega arith in
        (sound.places (f.0 - m.memory.base.0) (omega arith)).granted (live_granted e) ∙ ap s.ledger.device_word same

    live_owner : is_live_frame s f ≡ true → owner_at t (place_of m f) ≡ device_of s f
    live_owner e =
        let inside = live_inside f (ltb-true 0 (grants_at s.ledger.grants f) e) in
        let low = inside.0 in
        let high = inside.1 in
        let same : m.memory.base.0 + (f.0 - m.memory.base.0) ≡ f.0 = omega arith in
        (sound.owners (f.0 - m.memory.base.0) (omega arith)).owned (live_granted e) ∙ ap s.ledger.device same

    live_device : is_live_frame s f ≡ true → bad_device (device_of s f) ≡ false
    live_device e =
        let inside = live_inside f (ltb-true 0 (grants_at s.ledger.grants f) e) in
        let low = inside.0 in
        let high = inside.1 in
        ap bad_device (sym (live_owner e)) ∙ (sound.owners (f.0 - m.memory.base.0) (omega arith)).known (live_granted e)

    -- a granted frame of memory is one of a live grant
    granted_live : m.memory.base.0 ≤ f.0 → f.0 < end_frame m → is_granted (mark_at t (place_of m f)) ≡ true → is_live_frame s f ≡ true
    granted_live low high granted =
        marked_live (is_granted (mark_at t (place_of m f))) (grants_at s.ledger.grants f) (at_frame f low high) ∙ granted

    -- ---- the checks of a device store or a device read

    module _ (device : ℕ) where
      range_passed : is_live_frame s f ≡ true → bad_device device ≡ false → (outside_memory m.memory f || bad_device device) ≡ false
      range_passed e known =
          let inside = live_inside f (ltb-true 0 (grants_at s.ledger.grants f) e) in
          or_neither (outside_memory m.memory f) (bad_device device)
          (or_neither (ltb f.0 m.memory.base.0) (leb (end_frame m) f.0) (le-ltb f.0 m.memory.base.0 inside.0) (lt-leb (end_frame m) f.0 inside.1))
          known

      owner_passes : is_live_frame s f ≡ true → device ≡ device_of s f → Passed (device_checks m f device t)
      owner_passes e is = (
        ap not sound.shape,
        (
          range_passed e (ap bad_device is ∙ live_device e),
          (ap not (live_granted e), (ap not (eq-eqb (owner_at t (place_of m f)) device (live_owner e ∙ sym is)), tt)),
        ),
      )

      passed_owner : Passed (device_checks m f device t) → (is_live_frame s f && eqb device (device_of s f)) ≡ true
      passed_owner passed =
          let inside = or_left (outside_memory m.memory f) (bad_device device) passed.1.0 in
          let granted = not-false (is_granted (mark_at t (place_of m f))) passed.1.1.0 in
          let live = granted_live (memory_low m f inside) (memory_high m f inside) granted in
          let owner = eqb-true (owner_at t (place_of m f)) device (not-false (eqb (owner_at t (place_of m f)) device) passed.1.1.1.0) in
          and_both (is_live_frame s f) (eqb device (device_of s f)) live (eq-eqb device (device_of s f) (sym owner ∙ live_owner live))

      -- accepted just for a frame of a live grant and by its owner
      owner_only :
          (o : Outcome) → o.answer.refusal ≡ 0 → not (is_refused (checked m t (device_checks m f device t) o)) ≡ (is_live_frame s f && eqb device (device_of s f))
      owner_only o accepted =
          by_cases (is_live_frame s f && eqb device (device_of s f))
          (λ y.
          let live = and_left (is_live_frame s f) (eqb device (device_of s f)) y in
          let is = eqb-true device (device_of s f) (and_right (is_live_frame s f) (eqb device (device_of s f)) y) in
          ap (λ (x : Outcome). not (is_refused x)) (checked_passed m t _ o (owner_passes live is)) ∙ ap (λ (n : ℕ). not (not (eqb n 0))) accepted ∙ sym y)
          (λ n.
          ap not
          (checked_cases (λ x. is_refused x ≡ true) m t _ o refl (refused_number m t)
          (λ passed. clash (is_live_frame s f && eqb device (device_of s f)) (passed_owner passed) n)) ∙
          sym n)

  pub device_words_right : DeviceWordsRight s
  unfolding device_read
  device_words_right =
      record {
        word = live_word;
        accepted = λ f device. owner_only f device _ refl;
        given = λ f e.
            ap (λ (o : Outcome). o.answer.first) (checked_passed m t _ _ (owner_passes f (device_of s f) e refl)) ∙ live_word f e;
        others = λ f device e least most other.
            ap (λ (o : Outcome). o.answer.refusal)
            (checked_first m t _
            (there (ap not sound.shape)
            (there (range_passed f device e (or_neither (ltb device 1) (ltb 65535 device) (le-ltb device 1 least) (le-ltb 65535 device most)))
            (there (ap not (live_granted f e))
            (here (ap not (ne_eqb (owner_at t (place_of m f)) device (λ is. other (sym is ∙ live_owner f e)))))))));
      }

  -- ---- (5) owners

  -- a device's number
  device_number : (device : ℕ) → bad_device device ≡ false → (1 ≤ device) × (device ≤ 65535)
  device_number device e = (
    ltb-false device 1 (or_left (ltb device 1) (ltb 65535 device) e),
    ltb-false 65535 device (or_right (ltb device 1) (ltb 65535 device) e),
  )

  -- what a refusal leaves
  abbrev Refused : Outcome → Type 0
  Refused o = (is_refused o ≡ true) × (o.machine ≡ m) × (o.left ≡ t)

  release_refused :
      (i : ℕ) (f : Frame) (count device : ℕ) → (is_live_frame s f ≡ true → device ≢ device_of s f) → Refused (release m i f count device t)
  unfolding release
  release_refused i f count device other =
      checked_cases Refused m t _ _ refl (λ number h. (refused_number m t number h, refl, refl))
      (λ passed.
      let ok = releasable m t s.ledger sound i f count device passed.1.0 passed.1.1.0 passed.1.1.1.1.0 in
      let high = ok.high in
      let some = ok.some in
      let granted = ap (λ (b : Bool). b || has_kind later (mark_at t (place_of m f))) ok.first in
      let live = granted_live f ok.low (omega arith) granted in
      let owner = eqb-true (owner_at t (place_of m f)) device (not-false (eqb (owner_at t (place_of m f)) device) passed.1.1.1.0) in
      absurd (other live (sym owner ∙ live_owner f live)))

  pub owners_right : OwnersRight s
  unfolding device_store
  owners_right =
      record {
        device = λ f e. device_number (device_of s f) (live_device f e);
        owner = live_owner;
        none = λ p h e. (sound.owners p h).none (sym (marked_live (is_granted (mark_at t (place p))) (grants_at s.ledger.grants (frame_at m (place p))) (sound.covered p h)) ∙ e);
        stores = λ f word device. owner_only f device _ refl;
        releases = λ i f count device other. release_refused i f count device other;
      }

  -- ---- (7) fixed pages
  pub fixed_outside : FixedOutside s
  fixed_outside =
      record {
        outside = λ p i h e w.
            clash (is_ordinary m (place p)) ((sound.places p h).ordinary (eq-eqb (kind_of (mark_at t (place p))) fixed e)) (in_area m i p w.declared w.low w.high);
      }
