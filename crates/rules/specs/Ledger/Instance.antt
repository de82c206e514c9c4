-- A boot and a list after it, to which the theorem is put: the theorem is not empty, and what it says can be computed.
use Rattle.std.specs.Prelude.{ℕ, Bool, false, ◌||◌, List, [], ◌∷◌, ◌++◌, replicate, ◌==◌}
use Rattle.frames.specs.Units.{frame}
use Rattle.frames.specs.Tables.{Tables, tables}
use Rattle.rules.specs.declared.Call.TheVariants as Call
use Rattle.rules.specs.declared.Request.{Request}
use Rattle.rules.specs.Record.{fresh_record}
use Rattle.rules.specs.Counters.{counters}
use Rattle.rules.specs.Ledger.Lists.{Source, own, another, Item, item_with, item, on_own}
use Rattle.rules.specs.Ledger.Statement.{Boot}

-- tables of 12 frames and 3 bitmap words, filled with a number
abbrev pub tables_of : ℕ → Tables
tables_of v = tables (replicate 12 v) (replicate 12 v) (replicate 3 v) (replicate 12 v)

-- frames 4 to 15, blocks of 4, and the text a=16K@32768: one area, frames 8 to 11
abbrev pub instance_boot : ℕ → Boot
instance_boot v =
    record {
      base = 4;
      frames = 12;
      block_order = 2;
      text = 97 ∷ 61 ∷ 49 ∷ 54 ∷ 75 ∷ 64 ∷ 51 ∷ 50 ∷ 55 ∷ 54 ∷ 56 ∷ [];
      given = fresh_record;
      counters = counters v v;
      lent = tables_of v;
    }

abbrev pub any_frames : Request
any_frames = record { base = 0; size = 1; limit = 0; alignment = 0; order_per_bit = 0; fixed = false }

abbrev pub no_frames : Request
no_frames = record { base = 0; size = 0; limit = 0; alignment = 0; order_per_bit = 0; fixed = false }

-- other tables of the right lengths, filled with a number, and one that is too short
abbrev pub per_frame : ℕ → Source
per_frame v = another (replicate 12 v)

abbrev pub per_word : ℕ → Source
per_word v = another (replicate 3 v)

abbrev pub empty : Source
empty = another []

-- a second area is declared at frames 12 to 15. Pages 1 to 4, of which 3 is fixed, take the ordinary frames 4 to 7, and 5 and 6 the first area's 8
-- and 9. Page 5 is pinned, and page 6 no longer. The second area is granted whole
abbrev pub placed : List Item
placed =
    on_own (Call.Declare any_frames) ∷
    on_own (Call.PutMovable 1) ∷
    on_own (Call.PutMovable 2) ∷
    on_own (Call.PutFixed 3) ∷
    on_own (Call.PutMovable 4) ∷
    on_own (Call.PutMovable 5) ∷
    on_own (Call.PutMovable 6) ∷
    on_own (Call.Pin 5) ∷
    on_own (Call.Pin 6) ∷
    on_own (Call.Unpin 6) ∷
    on_own (Call.Grant 1 4 0 8) ∷
    []

-- the stores in which two runs may differ: the second is refused, for page 5 is pinned, and so is the third, which is lent another bitmap
abbrev pub stored : ℕ → List Item
stored word =
    on_own (Call.Store 6 word) ∷
    on_own (Call.Store 5 word) ∷
    item (Call.Store 6 word) own own empty own ∷
    []

-- every call, refused on the boot's own tables; the grant is of frame 9, whose page has nowhere to go
abbrev pub refused_on_own : List Item
refused_on_own =
    on_own (Call.PutMovable 1) ∷
    on_own (Call.PutFixed 7) ∷
    on_own (Call.Drop 5) ∷
    on_own (Call.Pin 5) ∷
    on_own (Call.Unpin 6) ∷
    on_own (Call.Store 7 1) ∷
    on_own (Call.Read 7) ∷
    on_own (Call.Grant 0 1 0 7) ∷
    on_own (Call.Release 0 (frame 8) 1 7) ∷
    on_own (Call.DeviceStore (frame 8) 1 7) ∷
    on_own (Call.DeviceRead (frame 16) 7) ∷
    on_own (Call.Declare no_frames) ∷
    on_own (Call.Boot (frame 0) 12 2) ∷
    on_own Call.Report ∷
    []

-- every call, refused where one table that it is lent, or more, or all four are others: by what those hold, or by their lengths
abbrev pub refused_on_others : List Item
refused_on_others =
    -- marks of a fixed page 1 in every frame: no frame is free, and the name is live
    item (Call.PutMovable 7) (per_frame 11) own own own ∷
    item (Call.PutFixed 1) (per_frame 11) own (per_word 0) (per_frame 0) ∷
    -- free frames alone: no such page
    item (Call.Drop 6) (per_frame 0) (per_frame 0) own own ∷
    item (Call.Unpin 5) (per_frame 0) (per_frame 0) (per_word 0) (per_frame 0) ∷
    -- the own marks, with other words, another bitmap or other owners: the page is pinned, no words, no owners, bits that are set, no
    -- room for a third area's bits
    item (Call.Pin 5) own (per_frame 1) own own ∷
    item (Call.Store 1 1) own empty own own ∷
    item (Call.Read 6) own own own empty ∷
    item (Call.Grant 0 1 0 7) own own (per_word 15) own ∷
    item (Call.Declare any_frames) own (per_frame 1) (another (0 ∷ 0 ∷ [])) own ∷
    -- marks that begin a grant of two frames, each of them, and another owner, or the right one; no grant; tables with no entries
    item (Call.Release 0 (frame 9) 2 7) (per_frame 20) own own (per_frame 8) ∷
    item (Call.Release 0 (frame 9) 1 7) (per_frame 20) own own (per_frame 7) ∷
    item (Call.DeviceStore (frame 9) 1 7) (per_frame 0) own (per_word 0) own ∷
    item (Call.DeviceRead (frame 9) 7) empty empty empty empty ∷
    -- a text that starts with ;
    item_with (Call.Boot (frame 4) 12 2) (59 ∷ []) (per_frame 7) own (per_word 7) own ∷
    -- marks with no entries
    item_with Call.Report (replicate 60 0) empty own own own ∷
    []

-- the second area's grant is released, once its four frames are counted and its own device asks. Page 2 leaves frame 5 to page 7, so no ordinary
-- frame is free: the grant of frame 9 moves page 6 to the other area, to frame 12, and the next grant, there, moves it back, to frame 10
abbrev pub granted : List Item
granted =
    on_own (Call.Drop 2) ∷
    on_own (Call.Store 3 33) ∷
    on_own (Call.DeviceStore (frame 13) 66 8) ∷
    on_own (Call.Release 1 (frame 12) 1 8) ∷
    on_own (Call.Release 1 (frame 12) 4 7) ∷
    on_own (Call.Release 1 (frame 12) 4 8) ∷
    on_own (Call.PutMovable 7) ∷
    on_own (Call.Grant 0 1 0 7) ∷
    on_own (Call.Read 6) ∷
    on_own (Call.Grant 1 2 0 8) ∷
    on_own (Call.DeviceStore (frame 9) 55 7) ∷
    on_own (Call.DeviceStore (frame 9) 56 8) ∷
    on_own (Call.Release 1 (frame 12) 2 8) ∷
    on_own (Call.Read 6) ∷
    on_own (Call.Read 3) ∷
    on_own (Call.DeviceRead (frame 9) 8) ∷
    on_own (Call.DeviceRead (frame 9) 7) ∷
    []

abbrev pub after_stores : List Item
after_stores = refused_on_own ++ refused_on_others ++ granted

-- a report to a buffer of 60 bytes, which two runs may find filled with other bytes
abbrev pub report_to : ℕ → Item
report_to byte = item_with Call.Report (replicate 60 byte) own own own own

abbrev pub instance_list : ℕ → List Item
instance_list word = placed ++ stored word ++ after_stores ++ (report_to word ∷ [])

-- the chosen set of names
abbrev pub five_and_six : ℕ → Bool
five_and_six name = name == 5 || name == 6
