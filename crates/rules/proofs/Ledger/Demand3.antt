-- Demand 3: the theorem of specs/Ledger/Statement.antt. Assumes nothing.
use Rattle.std.proofs.Common.{◌≡◌, ℕ, Bool, true, false, eqb, List, length, sym, refl, ◌∙◌, subst, arith, eqb-true}
use Rattle.std.specs.Prelude.{if◌then◌else◌}
use lib.ListN.{length-replicate}
use borrow.Author.Tests.{not-false}
use Rattle.search.proofs.Bools.{clash}
use Rattle.frames.specs.Tables.{Tables}
use Rattle.text.specs.Reading.{Read, gives, refuses}
use Rattle.rules.specs.declared.Counters.{Counters}
use Rattle.rules.specs.declared.Record.{Record}
use Rattle.rules.specs.Counters.{no_grants}
use Rattle.rules.specs.Boot.{zero_tables, boot_record, booted, boot}
use Rattle.rules.proofs.Shapes.{shape_known}
use Rattle.rules.specs.Promises.Changes.{SameLengths}
use Rattle.rules.specs.Ledger.Lists.{Item, is_refused, start_of, after, admitted}
use Rattle.rules.specs.Ledger.Statement.{Boot, outcome_of_boot, start_of_boot, SameBoot, Theorem}
use Rattle.rules.proofs.Promises.Boots.{zero_lengths, record_lengths}
use Rattle.rules.proofs.Ledger.BootCall.{Fine, boot_fine, boot_sound}
use Rattle.rules.proofs.Ledger.Histories.{SoundState, list_sound, list_pins}
use Rattle.rules.proofs.Ledger.Conclusions.{reads_right, pins_right, grants_right, device_words_right, owners_right, fixed_outside}
use Rattle.rules.proofs.Ledger.CallsAlike.{zero_alike}
use Rattle.rules.proofs.Ledger.Counting.{Small, counters_right}
use Rattle.rules.proofs.Ledger.TwoRuns.{StatesAlike, lists_agree}

-- the counters after a boot that came to this
abbrev boot_counters : Record → Tables → Counters → Read Record → Counters
boot_counters given t c r = if eqb (booted given t r).answer.refusal 0 then no_grants else c

-- two accepted boots that make the same record, lent tables of the same lengths
outcome_alike :
    (hides : ℕ → Bool) (given given' : Record) (t t' : Tables) (c c' : Counters) →
    SameLengths t t' →
    (r : Read Record) →
    Fine (zero_tables t) r →
    is_refused (booted given t r) ≡ false → StatesAlike hides (start_of (booted given t r) (boot_counters given t c r)) (start_of (booted given' t' r) (boot_counters given' t' c' r))
outcome_alike hides given given' t t' c c' l (gives m at) fine e =
    let shaped = shape_known m (zero_tables t) fine.0 in
    let square : length t.marks ≡ length t.words =
    sym (length-replicate (length t.marks) 0) ∙ shaped.marks_length ∙ sym shaped.words_length ∙ length-replicate (length t.words) 0
    in
    record {
      machine = refl;
      counters = refl;
      own = record {
        words = (zero_tables t).words;
        is = zero_lengths t t' l;
        alike = zero_alike hides t square;
      };
    }
outcome_alike hides given given' t t' c c' l (refuses number at) fine e = let none = eqb-true number 0 (not-false (eqb number 0) e) in absurd (omega arith)

start_alike :
    (hides : ℕ → Bool) (b c : Boot) → SameBoot b c → is_refused (outcome_of_boot b) ≡ false → StatesAlike hides (start_of_boot b) (start_of_boot c)
unfolding boot
start_alike hides b c same e =
    let record_same : boot_record c.base c.frames c.block_order c.text c.lent ≡ boot_record b.base b.frames b.block_order b.text b.lent =
    rw (same.base, same.frames, same.block_order, same.text)
    (record_lengths b.lent c.lent same.lengths c.base c.frames c.block_order c.text)
    in
    subst
    (λ (r : Read Record). StatesAlike hides (start_of_boot b) (start_of (booted c.given c.lent r) (boot_counters c.given c.lent c.counters r)))
    (sym record_same)
    (outcome_alike hides b.given c.given b.lent c.lent b.counters c.counters same.lengths (boot_record b.base b.frames b.block_order b.text b.lent)
    (boot_fine b.base b.frames b.block_order b.text b.lent) e)

-- the invariant holds after an accepted boot and after every admitted list
pub invariant :
    (b : Boot) (items : List Item) → is_refused (outcome_of_boot b) ≡ false → admitted (start_of_boot b) items ≡ true → SoundState (after (start_of_boot b) items)
invariant b items accepted ok =
    list_sound items (start_of_boot b) (boot_sound b.given b.base b.frames b.block_order b.text b.lent accepted) ok

-- an accepted boot leaves both counters at 0
start_small : (b : Boot) → is_refused (outcome_of_boot b) ≡ false → Small (start_of_boot b).counters
start_small b e =
    rw (not-false (eqb (outcome_of_boot b).answer.refusal 0) e) (record { granted = omega arith; refused = omega arith })

pub theorem : Theorem
theorem b items accepted ok =
    let start = boot_sound b.given b.base b.frames b.block_order b.text b.lent accepted in
    let sound = invariant b items accepted ok in
    record {
      reads = reads_right (after (start_of_boot b) items) sound;
      pinned = pins_right (after (start_of_boot b) items) sound;
      pins = record { stays = λ name none. list_pins name items (start_of_boot b) none start ok (λ e. clash false e refl) };
      grants = grants_right (after (start_of_boot b) items) sound;
      device_words = device_words_right (after (start_of_boot b) items) sound;
      owners = owners_right (after (start_of_boot b) items) sound;
      counters = counters_right (start_of_boot b) items (start_small b accepted) ok;
      fixed = fixed_outside (after (start_of_boot b) items) sound;
      runs = λ c same.
          record {
            agree = λ chosen items' list.
                lists_agree chosen list (start_of_boot b) (start_of_boot c) (start_alike chosen b c same accepted) ok;
          };
    }
