-- The tables as a contract names them: what slices hold that are lent to be changed or only to be read, and that a call leaves the same ones lent.
use Rattle.std.specs.Prelude.{◌≡◌}
use Rattle.frames.specs.Tables.{Tables, tables}
use Rattle.frames.specs.declared.LentTables.{LentTables}
use Rattle.frames.specs.declared.ReadTables.{ReadTables}

-- what they hold
abbrev pub tables_in : LentTables → Tables
tables_in t = tables t.marks.now t.words.now t.bitmap.now t.owners.now

-- the same of tables that are lent to be read
abbrev pub tables_read : ReadTables → Tables
tables_read t = tables t.marks.now t.words.now t.bitmap.now t.owners.now

-- of two moments: the same four slices, whatever they hold
abbrev pub SameSlices : LentTables → LentTables → Type 0
SameSlices before after =
    (after.marks.ghost_name ≡ before.marks.ghost_name) × (after.words.ghost_name ≡ before.words.ghost_name) ×
    (after.bitmap.ghost_name ≡ before.bitmap.ghost_name) × (after.owners.ghost_name ≡ before.owners.ghost_name)
