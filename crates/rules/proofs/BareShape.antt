-- The record that a boot begins with, which has no areas, has the right shape. Assumes nothing.
use Rattle.std.proofs.Common.{◌≡◌, ℕ, true, ◌&&◌, length, ◌∙◌, arith}
use lib.ListN.{length-replicate}
use Rattle.search.proofs.Bools.{and_left, and_right}
use Rattle.search.proofs.Ranges.{every_none}
use Rattle.frames.specs.Areas.{first_word}
use Rattle.frames.specs.Tables.{Tables}
use Rattle.rules.specs.Shape.{memory_right, lengths_right, area_fits, shape_right}
use Rattle.rules.specs.Boot.{zero_tables}
use Rattle.rules.specs.Record.{bare_record}
use Rattle.rules.proofs.ShapeFacts.{facts_shape, lengths_facts}

-- the record with no areas, on tables that are zero
pub bare_shape :
    (base frames block_order : ℕ) (t : Tables) →
    (memory_right base frames block_order && lengths_right frames t) ≡ true → shape_right (bare_record base frames block_order) (zero_tables t) ≡ true
unfolding first_word
bare_shape base frames block_order t e =
    let b = bare_record base frames block_order in
    let lengths = lengths_facts b t (and_right (memory_right base frames block_order) (lengths_right frames t) e) in
    facts_shape b (zero_tables t)
    (record {
      memory = and_left (memory_right base frames block_order) (lengths_right frames t) e;
      declared = omega arith;
      marks = length-replicate (length t.marks) 0 ∙ lengths.0;
      words = length-replicate (length t.words) 0 ∙ lengths.1;
      owners = length-replicate (length t.owners) 0 ∙ lengths.2;
      areas = every_none (area_fits b) 0;
      bitmap = omega arith;
    })
