-- The listing of the areas one by one: the loop's invariant and its turn. Assumes nothing.
--     Listing, listing_start    the first n areas are listed; none yet
--     Found, found              what is found of the next area
--     Small, listing_small      it keeps to the limits, there is room for its line, and the sums are far from their ends
--     listing_turn              one area more
use Prim.Native.Nat.{ℕ, ◌+◌, ◌-◌, ◌*◌, ◌≤◌, ◌<◌}
use native.Mathlib.Omega.{arith}
use mathlib.Core.Path.{◌≡◌, sym, ◌∙◌}
use lib.ListN.{length, length-append}
use Rattle.search.specs.Search.{how_many, longest}
use Rattle.bitmap.specs.Bits.{is_clear}
use Rattle.frames.specs.declared.Area.{Area}
use Rattle.frames.specs.declared.Place.{Place}
use Rattle.frames.specs.Units.{place}
use Rattle.frames.specs.Marks.{is_granted}
use Rattle.frames.specs.Areas.{area_in, per_bit, bit_count, word_count, first_word}
use Rattle.frames.specs.Scans.{marked}
use Rattle.frames.specs.Tables.{Tables}
use Rattle.frames.proofs.AreaFacts.{first_word_zero, first_word_next}
use Rattle.text.specs.declared.writing.Writer.{Writer}
use Rattle.text.specs.Writing.{Appends}
use Rattle.rules.specs.declared.Record.{Record}
use Rattle.rules.specs.Limits.{most_frames, most_block_order, most_areas}
use Rattle.rules.specs.Report.{count_of, used_of, free_of, max_chunk, area_line, line_of_area, lines_over}
use Rattle.report.specs.declared.Totals.{Totals}
use Rattle.report.specs.Steps.Listing.{Bounded, Lists}
use Rattle.report.proofs.Fronts.{appends_none, appends_then, kept_length, next_length}
use Rattle.report.proofs.Lines.{line_most, lines_none, lines_next, lines_most}
use Rattle.report.proofs.OverAreas.{sum_none, sum_next, total_most, free_most, word_most}

abbrev totals : ℕ → ℕ → Totals
totals total free = record { total = total; free = free }

module _ (m : Record) (t : Tables) (n : ℕ) where
  -- the first n areas are listed, from what a writer had written, and the next one's bitmap begins at this word
  pub record Listing (before now : Writer) (total free start : ℕ) : Type 0 where
    pub lists : Lists m t n before now (totals total free)
    pub next_start : start ≡ first_word m.areas n

  -- what is found of area n
  pub record Found (area : Area) (used chunk : ℕ) : Type 0 where
    pub is_area : area ≡ area_in m.areas n
    pub is_used : used ≡ used_of m t n
    pub is_chunk : chunk ≡ max_chunk m t n

  pub found :
      (area : Area) (from : Place) (used start chunk : ℕ) → area ≡ area_in m.areas n → from ≡ place (area.base.0 - m.memory.base.0) →
      used ≡ how_many (marked is_granted t.marks) from.0 area.count → start ≡ first_word m.areas n →
      chunk ≡ per_bit area * longest (is_clear t.bitmap start) 0 (bit_count area) → Found area used chunk
  unfolding used_of max_chunk
  found area from used start chunk a p u w k = record { is_area = a; is_used = u ∙ rw (p, a); is_chunk = k ∙ rw (w, a) }

pub listing_start : (m : Record) (t : Tables) (w : Writer) → w.length ≡ 0 → Listing m t 0 w w 0 0 0
listing_start m t w e =
    record {
      lists = record { total = sym (sum_none _); free = sym (sum_none _); lines = rw lines_none (appends_none w e) };
      next_start = sym (first_word_zero m.areas);
    }

-- an area keeps to the limits, there is room for a line more, and the sums are far from their ends
pub record Small (now : Writer) (total free start : ℕ) (area : Area) : Type 0 where
  pub few : area.count ≤ most_frames
  pub low_order : area.order_per_bit ≤ most_block_order
  pub room : now.length + 89 ≤ length now.buffer.now
  pub total_low : total ≤ most_areas * most_frames
  pub free_low : free ≤ most_areas * most_frames
  pub start_low : start ≤ most_areas * most_frames

-- in a place that has room for all lines
module _
    {m : Record} {t : Tables} {n : ℕ} {before now : Writer} {total free start : ℕ} (b : Bounded m.memory m.areas) (h : n < m.memory.declared)
    (empty : before.length ≡ 0) (long : length before.buffer.now ≡ 5696) (l : Listing m t n before now total free start)
  where
    few : length (lines_over (line_of_area m t) n) ≤ n * 89
    few = lines_most m t n

    pub listing_small : {area : Area} → area ≡ area_in m.areas n → Small now total free start area
    listing_small e =
        record {
          few = rw e (b.counts n h);
          low_order = rw e (b.orders n h);
          room = omega (arith, few, empty, long, b.few, kept_length l.lists.lines, next_length l.lists.lines (omega (arith, few, empty, long, b.few)));
          total_low = omega (arith, l.lists.total, b.few, total_most m.memory m.areas b n (omega arith));
          free_low = omega (arith, l.lists.free, b.few, free_most m.memory m.areas b n (omega arith) t);
          start_low = omega (arith, l.next_start, b.few, word_most m.memory m.areas b n (omega arith));
        }

    pub listing_turn :
        (area : Area) (used chunk words : ℕ) (after : Writer) → Found m t n area used chunk →
        Appends (area_line n area.count used chunk) now after → words ≡ word_count area →
        Listing m t (n + 1) before after (total + area.count) (free + (area.count - used)) (start + words)
    listing_turn area used chunk words after f a w =
        let here : Appends (line_of_area m t n) now after = rw (f.is_area, f.is_used, f.is_chunk) at a in
        let size : length (line_of_area m t n) ≤ 89 = line_most n (count_of m n) (used_of m t n) (max_chunk m t n) in
        record {
          lists = record {
            total = rw f.is_area (omega (arith, l.lists.total, sum_next (count_of m) n));
            free = rw (f.is_area, f.is_used) (omega (arith, l.lists.free, sum_next (free_of m t) n));
            lines = rw lines_next (appends_then l.lists.lines here (omega (arith, few, size, empty, long, b.few, length-append (lines_over (line_of_area m t) n) (line_of_area m t n))));
          };
          next_start = rw (w, f.is_area, first_word_next, l.next_start);
        }
