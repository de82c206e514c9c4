-- The conditions of the page calls' numbers. Assumes nothing.
use Rattle.std.proofs.Common.{◌≡◌, ℕ, ◌<◌, not, ltb-true}
use Rattle.search.specs.Search.{lowest}
use Rattle.search.proofs.Bools.{by_cases}
use Rattle.frames.specs.Units.{place}
use Rattle.frames.specs.Marks.{has_kind, movable, fixed}
use Rattle.frames.specs.Areas.{in_areas}
use Rattle.frames.specs.Tables.{Tables, mark_at}
use Rattle.rules.specs.declared.Record.{Record}
use Rattle.rules.specs.Record.{frame_at}
use Rattle.rules.specs.PageCalls.{bad_name, page_at, is_place, lowest_place, free_ordinary, page_has, put_at}
use Rattle.rules.specs.Promises.Changes.{kind_at}
use Rattle.rules.specs.Promises.Pages.{FreeOrdinary, FreeInArea, NoneFreeOrdinary, Stands}
use Rattle.rules.specs.Promises.Numbers.{BadName, NotLive, PageIs, NoneFree}
use Rattle.rules.proofs.Says.{Says, says_is, says_no, says_yes, says_ltb, says_eqb, says_not, says_or, says_lowest}
use Rattle.rules.proofs.Promises.PlaceTests.{in_areas_lem, some_ordinary, some_in_area, names, stands, live}

pub bad_name_lem : (name : ℕ) → Says (bad_name name) (BadName name)
bad_name_lem name = says_or (says_ltb name 1) (λ _. says_ltb 536870911 name)

pub page_is :
    (m : Record) (t : Tables) (name kind : ℕ) → (NotLive m t name → ⊥) → Says (page_has kind m t name) (PageIs kind m t name)
unfolding page_at
page_is m t name kind lives =
    says_lowest (names m t name) m.memory.frames (Stands m t name) (stands m t name) (λ p s. s.in_memory)
    (λ p. has_kind kind (mark_at t (place p))) (λ p. kind_at t p ≡ kind) (λ p. says_eqb (kind_at t p) kind)
    (ltb-true (lowest (names m t name) m.memory.frames) m.memory.frames (says_yes (live m t name) lives))

-- ---- where a page can be put
module _ (m : Record) (t : Tables) where
  -- with no free ordinary frame, each free frame is in an area
  in_area : NoneFreeOrdinary m t → (p : ℕ) → p < m.memory.frames → kind_at t p ≡ 0 → FreeInArea m t p
  in_area none p h free =
      by_cases (in_areas m.areas m.memory.declared (frame_at m (place p)))
      (λ e. record { in_memory = h; is_free = free; in_area = (in_areas_lem m t p).fact e })
      (λ e.
      absurd (none p (record { in_memory = h; is_free = free; is_ordinary = λ i in_it. says_no (in_areas_lem m t p) e (i, in_it) })))

  -- a movable page goes to either, a fixed one to an ordinary frame alone
  movable_place : Says (is_place m (put_at movable m t)) ((p : ℕ) × (p < m.memory.frames) × (kind_at t p ≡ 0))
  unfolding put_at
  movable_place =
      by_cases (is_place m (lowest_place m (free_ordinary m t)))
      (λ e. rw e (record { fact = λ _. let w = (some_ordinary m t).fact e in (w.0, w.1.in_memory, w.1.is_free); test = λ _. e }))
      (λ e.
      rw e
      (record {
        fact = λ h. let w = (some_in_area m t).fact h in (w.0, w.1.in_memory, w.1.is_free);
        test = λ w. (some_in_area m t).test (w.0, in_area (λ p f. says_no (some_ordinary m t) e (p, f)) w.0 w.1 w.2);
      }))

  fixed_place : Says (is_place m (put_at fixed m t)) ((p : ℕ) × FreeOrdinary m t p)
  unfolding put_at
  fixed_place =
      by_cases (is_place m (lowest_place m (free_ordinary m t))) (λ e. rw e (some_ordinary m t)) (λ e. rw e (some_ordinary m t))

  pub put_movable_lem : Says (not (is_place m (put_at movable m t))) (NoneFree m t)
  put_movable_lem = says_is (λ none p h free. none (p, h, free)) (λ none w. none w.0 w.1 w.2) (says_not movable_place)

  pub put_fixed_lem : Says (not (is_place m (put_at fixed m t))) (NoneFreeOrdinary m t)
  put_fixed_lem = says_is (λ none p f. none (p, f)) (λ none w. none w.0 w.1) (says_not fixed_place)
