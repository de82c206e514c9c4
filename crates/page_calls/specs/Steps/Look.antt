-- What the page calls share: their first two checks, and where the page stands; those and the third of the calls on a live page; and the place
-- that a put takes, where there is one.
use Rattle.std.specs.Prelude.{ℕ, not, if◌then◌else◌, Option, Some, None, Result, Ok, Err}
use Rattle.answer.specs.declared.refusal.Refusal.{Refusal}
use Rattle.answer.specs.declared.refusal.Refusal.TheVariants.{WrongShape, OutOfRange, NotLive}
use Rattle.frames.specs.declared.Place.{Place}
use Rattle.frames.specs.Tables.{Tables}
use Rattle.rules.specs.declared.Record.{Record}
use Rattle.rules.specs.Shape.{shape_wrong}
use Rattle.rules.specs.PageCalls.{bad_name, page_at, is_live, put_at, is_place}

unfoldable pub find_named : Record → ℕ → Tables → Result (Option Place) Refusal
find_named m name t =
    if shape_wrong m t then Err WrongShape else
    if bad_name name then Err OutOfRange else
    Ok (if is_live m t name then Some (page_at m t name) else None)

unfoldable pub look_up : Record → ℕ → Tables → Result Place Refusal
look_up m name t =
    if shape_wrong m t then Err WrongShape else
    if bad_name name then Err OutOfRange else
    if not (is_live m t name) then Err NotLive else Ok (page_at m t name)

abbrev pub place_for : ℕ → Record → Tables → Option Place
place_for kind m t = if is_place m (put_at kind m t) then Some (put_at kind m t) else None
