-- The tests of a place say what the paper says. Assumes nothing.
--     in_areas_lem                       the frame at a place is in an area
--     free_ordinary_lem, free_in_area_lem    it is free and ordinary; it is free and in an area
--     lowest_ordinary, lowest_in_area, some_ordinary, some_in_area    the lowest of them; there is one
--     stands, lowest_standing, live  a page of a name stands there; the lowest that does; there is one
use Rattle.std.proofs.Common.{ℕ, ◌+◌, ◌<◌, Bool, arith}
use Rattle.frames.specs.Units.{place}
use Rattle.frames.specs.Marks.{is_page_of}
use Rattle.frames.specs.Areas.{holds_frame, in_areas, end_of}
use Rattle.frames.specs.Tables.{Tables, mark_at}
use Rattle.rules.specs.declared.Record.{Record}
use Rattle.rules.specs.Record.{area_at, frame_at}
use Rattle.rules.specs.PageCalls.{page_at, is_live, is_place, lowest_place, free_ordinary, free_in_area}
use Rattle.rules.specs.Promises.Changes.{kind_at, field_at}
use Rattle.rules.specs.Promises.Shapes.{InArea}
use Rattle.rules.specs.Promises.Pages.{FreeOrdinary, FreeInArea, Lowest, Stands, Live}
use Rattle.rules.proofs.Says.{Says, says_is, says_ltb, says_leb, says_eqb, says_not, says_not_not, says_and, says_or, says_right, says_some, says_found, search_known}

module _ (m : Record) (t : Tables) where
  pub in_areas_lem : (p : ℕ) → Says (in_areas m.areas m.memory.declared (frame_at m (place p))) ((i : ℕ) × InArea m (m.memory.base.0 + p) i)
  unfolding in_areas
  in_areas_lem p =
      says_is (λ w. (w.0, record { declared = omega (arith, w.2); low = w.3.0; high = w.3.1 }))
      (λ w. (w.0, omega arith, omega (arith, w.1.declared), (w.1.low, w.1.high)))
      (says_some (λ i. holds_frame (area_at m i) (frame_at m (place p))) _ 0 m.memory.declared
      (λ i. says_and (says_leb (area_at m i).base.0 (m.memory.base.0 + p)) (λ _. says_ltb (m.memory.base.0 + p) (end_of (area_at m i)))))

  pub free_ordinary_lem : (p : ℕ) → p < m.memory.frames → Says (free_ordinary m t (place p)) (FreeOrdinary m t p)
  unfolding free_ordinary
  free_ordinary_lem p h =
      says_is (λ w. record { in_memory = h; is_free = w.0; is_ordinary = λ i in_it. w.1 (i, in_it) })
      (λ f. (f.is_free, λ w. f.is_ordinary w.0 w.1))
      (says_and (says_eqb (kind_at t p) 0) (λ _. says_not (in_areas_lem p)))

  pub free_in_area_lem : (p : ℕ) → p < m.memory.frames → Says (free_in_area m t (place p)) (FreeInArea m t p)
  unfolding free_in_area
  free_in_area_lem p h =
      says_is (λ w. record { in_memory = h; is_free = w.0; in_area = w.1 }) (λ f. (f.is_free, f.in_area))
      (says_and (says_eqb (kind_at t p) 0) (λ _. says_not_not (in_areas_lem p)))

  -- what a search finds
  pub lowest_ordinary : (lowest_place m (free_ordinary m t)).0 < m.memory.frames → Lowest (FreeOrdinary m t) (lowest_place m (free_ordinary m t)).0
  lowest_ordinary = search_known (λ p. free_ordinary m t (place p)) m.memory.frames (FreeOrdinary m t) free_ordinary_lem (λ p f. f.in_memory)

  pub lowest_in_area : (lowest_place m (free_in_area m t)).0 < m.memory.frames → Lowest (FreeInArea m t) (lowest_place m (free_in_area m t)).0
  lowest_in_area = search_known (λ p. free_in_area m t (place p)) m.memory.frames (FreeInArea m t) free_in_area_lem (λ p f. f.in_memory)

  pub some_ordinary : Says (is_place m (lowest_place m (free_ordinary m t))) ((p : ℕ) × FreeOrdinary m t p)
  some_ordinary = says_found (λ p. free_ordinary m t (place p)) m.memory.frames (FreeOrdinary m t) free_ordinary_lem (λ p f. f.in_memory)

  pub some_in_area : Says (is_place m (lowest_place m (free_in_area m t))) ((p : ℕ) × FreeInArea m t p)
  some_in_area = says_found (λ p. free_in_area m t (place p)) m.memory.frames (FreeInArea m t) free_in_area_lem (λ p f. f.in_memory)

-- ---- where a name stands
module _ (m : Record) (t : Tables) (name : ℕ) where
  abbrev pub names : ℕ → Bool
  names p = is_page_of name (mark_at t (place p))

  pub stands : (p : ℕ) → p < m.memory.frames → Says (names p) (Stands m t name p)
  stands p h =
      says_is (λ w. record { in_memory = h; kind = w.0; field = w.1 }) (λ s. (s.kind, s.field))
      (says_and
      (says_right (says_or (says_or (says_eqb (kind_at t p) 1) (λ _. says_eqb (kind_at t p) 2)) (λ _. says_eqb (kind_at t p) 3)))
      (λ _. says_eqb (field_at t p) name))

  pub lowest_standing : (page_at m t name).0 < m.memory.frames → Lowest (Stands m t name) (page_at m t name).0
  unfolding page_at
  lowest_standing = search_known names m.memory.frames (Stands m t name) stands (λ p s. s.in_memory)

  pub live : Says (is_live m t name) (Live m t name)
  unfolding page_at
  live = says_found names m.memory.frames (Stands m t name) stands (λ p s. s.in_memory)
