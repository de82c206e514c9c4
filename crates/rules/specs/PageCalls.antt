-- Document 01, "Page calls".
use Rattle.std.specs.Prelude.{ℕ, Bool, not, ◌&&◌, ◌||◌, List, [], ◌∷◌, ◌==◌, nat_lt, if◌then◌else◌}
use Rattle.search.specs.Search.{lowest}
use Rattle.answer.specs.Answers.{done}
use Rattle.frames.specs.declared.Place.{Place}
use Rattle.frames.specs.Units.{place}
use Rattle.frames.specs.Marks.{mark_of, has_kind, is_page_of, free, movable, pinned, fixed}
use Rattle.frames.specs.Tables.{Tables, mark_at, word_at, set_page}
use Rattle.rules.specs.declared.Record.{Record}
use Rattle.rules.specs.Record.{frame_at, is_ordinary}
use Rattle.rules.specs.Limits.{least_name, most_name}
use Rattle.rules.specs.Shape.{shape_wrong}
use Rattle.rules.specs.Outcomes.{Outcome, outcome, Check, ◌⇒◌, checked}

-- a place is one of the machine's: a search that finds nothing gives the place after the last
abbrev pub is_place : Record → Place → Bool
is_place m p = nat_lt p.0 m.memory.frames

abbrev pub lowest_place : Record → (Place → Bool) → Place
lowest_place m test = place (lowest (λ i. test (place i)) m.memory.frames)

abbrev pub bad_name : ℕ → Bool
bad_name name = nat_lt name least_name || nat_lt most_name name

-- where a page stands: when its name stands twice, the lowest frame is meant
unfoldable pub page_at : Record → Tables → ℕ → Place
page_at m t name = lowest_place m (λ p. is_page_of name (mark_at t p))

abbrev pub is_live : Record → Tables → ℕ → Bool
is_live m t name = is_place m (page_at m t name)

abbrev pub is_free : Tables → Place → Bool
is_free t p = has_kind free (mark_at t p)

unfoldable pub free_ordinary : Record → Tables → Place → Bool
free_ordinary m t p = is_free t p && is_ordinary m p

unfoldable pub free_in_area : Record → Tables → Place → Bool
free_in_area m t p = is_free t p && not (is_ordinary m p)

-- the lowest free ordinary frame; a movable page with none left takes the lowest free area frame
unfoldable pub put_at : ℕ → Record → Tables → Place
put_at kind m t =
    let p = lowest_place m (free_ordinary m t) in
    if is_place m p || not (kind == movable) then p else lowest_place m (free_in_area m t)

-- put a page of a kind, movable or fixed
abbrev pub put_checks : ℕ → Record → ℕ → Tables → List Check
put_checks kind m name t =
    shape_wrong m t ⇒ 1 ∷
    bad_name name ⇒ 2 ∷
    is_live m t name ⇒ 4 ∷
    not (is_place m (put_at kind m t)) ⇒ 6 ∷
    []

unfoldable pub put_page : ℕ → Record → ℕ → Tables → Outcome
put_page kind m name t =
    let p = put_at kind m t in
    checked m t (put_checks kind m name t) (outcome m (done (frame_at m p).0 0) (set_page t p (mark_of name kind) 0))

abbrev pub put_movable : Record → ℕ → Tables → Outcome
put_movable = put_page movable

abbrev pub put_fixed : Record → ℕ → Tables → Outcome
put_fixed = put_page fixed

-- the page's kind, where the name is live
abbrev pub page_has : ℕ → Record → Tables → ℕ → Bool
page_has kind m t name = has_kind kind (mark_at t (page_at m t name))

-- a page that is looked up: its shape, name and place are judged first
abbrev pub live_checks : Record → ℕ → Tables → List Check → List Check
live_checks m name t more =
    shape_wrong m t ⇒ 1 ∷
    bad_name name ⇒ 2 ∷
    not (is_live m t name) ⇒ 3 ∷
    more

abbrev pub drop_checks : Record → ℕ → Tables → List Check
drop_checks m name t = live_checks m name t (page_has pinned m t name ⇒ 5 ∷ [])

unfoldable pub drop_page : Record → ℕ → Tables → Outcome
drop_page m name t = checked m t (drop_checks m name t) (outcome m (done 0 0) (set_page t (page_at m t name) 0 0))

-- a live page's kind changes, where it was the one asked
abbrev pub change_checks : ℕ → Record → ℕ → Tables → List Check
change_checks from m name t = live_checks m name t (not (page_has from m t name) ⇒ 5 ∷ [])

unfoldable pub change_kind : ℕ → ℕ → Record → ℕ → Tables → Outcome
change_kind from to m name t =
    let p = page_at m t name in
    checked m t (change_checks from m name t) (outcome m (done 0 0) (set_page t p (mark_of name to) (word_at t p)))

abbrev pub pin_page : Record → ℕ → Tables → Outcome
pin_page = change_kind movable pinned

abbrev pub unpin_page : Record → ℕ → Tables → Outcome
unpin_page = change_kind pinned movable

abbrev pub store_checks : Record → ℕ → Tables → List Check
store_checks m name t = live_checks m name t (page_has pinned m t name ⇒ 5 ∷ [])

unfoldable pub store_page : Record → ℕ → ℕ → Tables → Outcome
store_page m name word t =
    let p = page_at m t name in
    checked m t (store_checks m name t) (outcome m (done 0 0) (set_page t p (mark_at t p) word))

abbrev pub read_checks : Record → ℕ → Tables → List Check
read_checks m name t = live_checks m name t []

unfoldable pub read_page : Record → ℕ → Tables → Outcome
read_page m name t =
    let p = page_at m t name in
    checked m t (read_checks m name t) (outcome m (done (frame_at m p).0 (word_at t p)) t)
