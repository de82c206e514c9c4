-- Every call keeps the invariant and the frames of pinned pages, and so does every admitted list. Assumes nothing.
use Rattle.std.proofs.Common.{◌≡◌, ℕ, ◌+◌, Bool, true, false, not, ◌&&◌, ◌||◌, List, [], ◌∷◌, sym, refl, ap, ◌∙◌, subst, arith}
use Rattle.std.specs.Prelude.{if◌then◌else◌}
use Rattle.search.proofs.Bools.{by_cases, clash, and_left, and_right}
use Rattle.frames.specs.declared.Place.{Place}
use Rattle.frames.specs.Tables.{Tables}
use Rattle.rules.specs.declared.Call.{Call}
use Rattle.rules.specs.declared.Counters.{Counters}
use Rattle.rules.specs.declared.Record.{Record}
use Rattle.rules.specs.PageCalls.{page_at}
use Rattle.rules.specs.Calls.{perform}
use Rattle.rules.specs.Ledger.Ledger.{Ledger}
use Rattle.rules.specs.Ledger.Roles.{role_of}
use Rattle.rules.specs.Ledger.Lists.{own, Item, item_with, State, is_refused, outcome_in, next, after, may_pass, admitted, frame_of_page, last_pin_frame}
use Rattle.rules.specs.Steps.Invariant.{Sound}
use Rattle.rules.proofs.Ledger.Kept.{Kept}
use Rattle.rules.proofs.Ledger.PutCalls.{put_kept}
use Rattle.rules.proofs.Ledger.PageCalls.{drop_kept, pin_kept, unpin_kept, store_kept, read_kept}
use Rattle.rules.proofs.Ledger.DeviceWords.{device_store_kept, device_read_kept}
use Rattle.rules.proofs.Ledger.Release.{release_kept}
use Rattle.rules.proofs.Ledger.GrantCall.{grant_kept}
use Rattle.rules.proofs.Ledger.DeclareCall.{declare_kept}
use Rattle.rules.proofs.Ledger.ReportCall.{report_kept}
use Rattle.rules.proofs.Ledger.Items.{with_counters, counters_after, refused_item, item_cases}

-- ---- one call

module _ (m : Record) (t : Tables) (l : Ledger) (s : Sound m t l) where
  pub perform_kept : (c : Call) (bytes : List ℕ) → (role_of c).is_boot ≡ false → Kept c m t l (perform c bytes m t)
  perform_kept (Call.PutMovable name) bytes e =
      put_kept m t l s name (Call.PutMovable name) 1 (record { small = omega arith; page = refl; pin = refl; full = refl; ungranted = refl })
      (λ k. clash false k refl) (λ _. refl)
  perform_kept (Call.PutFixed name) bytes e =
      put_kept m t l s name (Call.PutFixed name) 3 (record { small = omega arith; page = refl; pin = refl; full = refl; ungranted = refl }) (λ _. refl)
      (λ _. refl)
  perform_kept (Call.Drop name) bytes e = drop_kept m t l s name
  perform_kept (Call.Pin name) bytes e = pin_kept m t l s name
  perform_kept (Call.Unpin name) bytes e = unpin_kept m t l s name
  perform_kept (Call.Store name word) bytes e = store_kept m t l s name word
  perform_kept (Call.Read name) bytes e = read_kept m t l s name
  perform_kept (Call.Grant area count align_order device) bytes e = grant_kept m t l s area count device align_order
  perform_kept (Call.Release area f count device) bytes e = release_kept m t l s area f count device
  perform_kept (Call.DeviceStore f word device) bytes e = device_store_kept m t l s f word device
  perform_kept (Call.DeviceRead f device) bytes e = device_read_kept m t l s f device
  perform_kept (Call.Declare request) bytes e = declare_kept m request t l s
  perform_kept (Call.Boot base frames block_order) bytes e = clash true refl e
  perform_kept Call.Report bytes e = report_kept m t l s bytes

-- ---- one item

abbrev pub SoundState : State → Type 0
SoundState s = Sound s.machine s.own s.ledger

-- the item is an accepted pin of that name
abbrev pub pins_now : State → Item → ℕ → Bool
pins_now s x name = (role_of x.call).pins name && not (is_refused (outcome_in s x))

pub record ItemKept (s : State) (x : Item) : Type 0 where
  pub sound : SoundState (next s x)
  pub was_pinned : (name : ℕ) → pins_now s x name ≡ false → (next s x).ledger.pinned name ≡ true → s.ledger.pinned name ≡ true
  pub stays : (name : ℕ) → pins_now s x name ≡ false → (next s x).ledger.pinned name ≡ true → frame_of_page (next s x) name ≡ frame_of_page s name

-- a state that is the same but for its counters
same_kept : (s : State) (x : Item) (c : Counters) → SoundState s → next s x ≡ with_counters s c → ItemKept s x
same_kept s x c sound same =
    record {
      sound = subst SoundState (sym same) sound;
      was_pinned = λ name a b. sym (ap (λ (k : State). k.ledger.pinned name) same) ∙ b;
      stays = λ name a b. ap (λ (k : State). frame_of_page k name) same;
    }

call_kept : (s : State) (c : Call) (bytes : List ℕ) → SoundState s → (role_of c).is_boot ≡ false → ItemKept s (item_with c bytes own own own own)
unfolding next
call_kept s c bytes sound e =
    let kept = perform_kept s.machine s.own s.ledger sound c bytes e in
    record {
      sound = kept.sound;
      was_pinned = λ name a b. (kept.pins name a b).was_pinned;
      stays = λ name a b.
          let k = kept.pins name a b in
          ap (λ (p : Place). (perform c bytes s.machine s.own).machine.memory.base.0 + p.0) k.place ∙
          ap (λ (x : ℕ). x + (page_at s.machine s.own name).0) k.base;
    }

pub item_kept : (s : State) (x : Item) → SoundState s → (is_refused (outcome_in s x) || may_pass x) ≡ true → ItemKept s x
item_kept s x sound e = item_cases (ItemKept s) s x e (λ r. same_kept s x (counters_after s x) sound (refused_item s x r)) (call_kept s x.call x.bytes sound)

-- ---- a list

pub list_sound : (items : List Item) (s : State) → SoundState s → admitted s items ≡ true → SoundState (after s items)
unfolding after admitted
list_sound [] s sound e = sound
list_sound (x ∷ xs) s sound e =
    let ok = is_refused (outcome_in s x) || may_pass x in
    list_sound xs (next s x) (item_kept s x sound (and_left ok (admitted (next s x) xs) e)).sound (and_right ok (admitted (next s x) xs) e)

-- a pinned page stands where it stood at its last accepted pin, where that is known of the list's start
pub list_pins :
    (name : ℕ) (items : List Item) (s : State) (before : ℕ) →
    SoundState s →
    admitted s items ≡ true →
    (s.ledger.pinned name ≡ true → frame_of_page s name ≡ before) →
    (after s items).ledger.pinned name ≡ true → frame_of_page (after s items) name ≡ last_pin_frame name before s items
unfolding after admitted last_pin_frame
list_pins name [] s before sound e known p = known p
list_pins name (x ∷ xs) s before sound e known p =
    let ok = is_refused (outcome_in s x) || may_pass x in
    let kept = item_kept s x sound (and_left ok (admitted (next s x) xs) e) in
    list_pins name xs (next s x) (if pins_now s x name then frame_of_page (next s x) name else before) kept.sound (and_right ok (admitted (next s x) xs) e)
    (λ b.
    by_cases (pins_now s x name) (λ y. rw y)
    (λ n. rw n (kept.stays name n b ∙ known (kept.was_pinned name n b))))
    p
