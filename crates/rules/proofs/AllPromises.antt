-- The calls keep all their promises. Assumes nothing. Modules are checked in the order of their names, each after those that it uses: this
-- one comes first, so that a wrong definition is refused by the promise that it breaks, before the ledger's theorem.
use Rattle.rules.specs.Promises.All.{AllPromises}
use Rattle.rules.proofs.Promises.Bitmaps.{area_layout, bitmap_layout}
use Rattle.rules.proofs.Promises.BootNumbers.{boot_answers_place}
use Rattle.rules.proofs.Promises.Boots.{boot_looks_at_lengths, accepted_boot}
use Rattle.rules.proofs.Promises.DeclaredShape.{declare_keeps_shape}
use Rattle.rules.proofs.Promises.Declares.{declare_keeps_to_limit, accepted_declare}
use Rattle.rules.proofs.Promises.HighestPlace.{declare_takes_highest}
use Rattle.rules.proofs.Promises.Numbers.{refused_exactly, refusal_has_zeros}
use Rattle.rules.proofs.Promises.Places.{base_zero_cancels_fixed}
use Rattle.rules.proofs.Promises.Rounded.{amounts_round, limit_rounds}
use Rattle.rules.proofs.Promises.Shapes.{shape_is_right}
use Rattle.rules.proofs.Promises.Devices.{accepted_device_store, accepted_device_read}
use Rattle.rules.proofs.Promises.Grants.{grant_is_first_fit}
use Rattle.rules.proofs.Promises.Pages.{free_is_meant, accepted_put_movable, accepted_put_fixed, live_if_stands, accepted_drop, accepted_pin, accepted_unpin, accepted_store, accepted_read, store_then_read, pinned_pages_stay}
use Rattle.rules.proofs.Promises.Releases.{accepted_release}
use Rattle.rules.proofs.Promises.Reports.{report_figures, report_lines, accepted_report, report_without_words}
use Rattle.rules.proofs.Promises.Taken.{accepted_grant, freed_room_is_used}
use Rattle.rules.proofs.Promises.Unchanged.{refusal_changes_nothing, accepted_counts, bytes_beside, owners_stay}

pub all_promises : AllPromises
all_promises =
    record {
      shape = shape_is_right;
      areas = area_layout;
      bitmaps = bitmap_layout;
      numbers = refused_exactly;
      refusal_zeros = refusal_has_zeros;
      boot_place = boot_answers_place;
      refusal = refusal_changes_nothing;
      counts = accepted_counts;
      bytes = bytes_beside;
      owners = owners_stay;
      free = free_is_meant;
      put_movable = accepted_put_movable;
      put_fixed = accepted_put_fixed;
      live = live_if_stands;
      drop = accepted_drop;
      pin = accepted_pin;
      unpin = accepted_unpin;
      store = accepted_store;
      read = accepted_read;
      store_then_read = store_then_read;
      pinned = pinned_pages_stay;
      first_fit = grant_is_first_fit;
      grant = accepted_grant;
      release = accepted_release;
      freed_room = freed_room_is_used;
      device_store = accepted_device_store;
      device_read = accepted_device_read;
      amounts = amounts_round;
      limit = limit_rounds;
      base_zero = base_zero_cancels_fixed;
      highest = declare_takes_highest;
      reach = declare_keeps_to_limit;
      declare = accepted_declare;
      shape_kept = declare_keeps_shape;
      boot_lengths = boot_looks_at_lengths;
      boot = accepted_boot;
      figures = report_figures;
      lines = report_lines;
      report = accepted_report;
      report_words = report_without_words;
    }
