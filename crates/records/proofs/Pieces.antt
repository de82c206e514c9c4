-- A record goes by its own bytes alone, wherever they stand and whatever follows them: in which pieces the bytes come does not matter.
-- Assumes nothing.
--     Same              n bytes of a text are those of another
--     rest_after        what is left of a text, as code takes it
--     body_after        a body is read the same there
--     decode_same       what is not cut is decoded the same where the bytes stand in another text
--     decode_more       so also where more bytes follow
--     decode_moved      and where the bytes before it are gone; what is cut is cut there too
use Prim.Native.Nat.{ℕ, zero, suc, ◌+◌, ◌-◌, ◌≤◌, ◌<◌}
use native.Mathlib.Nat.{add-zero, zero-add}
use native.Mathlib.Omega.{arith}
use mathlib.Core.Path.{◌≡◌, refl, sym, ap, ◌∙◌}
use Rattle.std.specs.Prelude.{Result, Ok, Err}
use mathlib.Core.List.{List, [], ◌∷◌, ◌++◌}
use lib.ListN.{length, get_or, take, drop, length-append, length-drop, get_or-append}
use lib.Seq.{get_or-drop, take-length}
use lib.Dec.{eqb}
use borrow.Author.Tests.{eqb-true, eqb-false}
use Rattle.search.proofs.Bools.{by_cases, below_or_not}
use Rattle.rules.specs.declared.Call.{Call}
use Rattle.records.specs.declared.Undecoded.{Undecoded}
use Rattle.records.specs.declared.Undecoded.TheVariants.{Unknown, Cut}
use Rattle.records.specs.Records.{little, numbers, sum, body_of, body_length, body_at, decode_at}
use Rattle.records.proofs.Little.{little_none, little_more}
use Rattle.records.proofs.Decoding.{decode_past, decode_unknown, decode_cut, decode_whole}

abbrev pub Same : List ℕ → ℕ → List ℕ → ℕ → ℕ → Type 0
Same s at t bt n = (o : ℕ) → o < n → get_or s (at + o) 0 ≡ get_or t (bt + o) 0

module _ (s t : List ℕ) where
  -- a part of the same bytes
  same_part : (at bt n o w : ℕ) → o + w ≤ n → Same s at t bt n → Same s (at + o) t (bt + o) w
  same_part at bt n o w h same k l =
      let a : (at + o) + k ≡ at + (o + k) = omega arith in
      let b : (bt + o) + k ≡ bt + (o + k) = omega arith in
      rw (a, b) (same (o + k) (omega arith))

  little_same : (at bt n : ℕ) → Same s at t bt n → little s at n ≡ little t bt n
  little_same at bt zero same = rw (little_none, little_none)
  little_same at bt (suc n) same =
      let here : get_or s at 0 ≡ get_or t bt 0 = rw (add-zero, add-zero) at (same 0 (omega arith)) in
      let e : at + 1 ≡ suc at = omega arith in
      let f : bt + 1 ≡ suc bt = omega arith in
      let rest : Same s (suc at) t (suc bt) n = rw (e, f) at (same_part at bt (suc n) 1 n (omega arith) same) in
      rw (little_more, little_more, here, little_same (suc at) (suc bt) n rest)

  numbers_same : (at bt o : ℕ) (ws : List ℕ) → Same s at t bt (o + sum ws) → numbers s at o ws ≡ numbers t bt o ws
  unfolding numbers sum
  numbers_same at bt o [] same = refl
  numbers_same at bt o (w ∷ ws) same =
      let here = little_same (at + o) (bt + o) w (same_part at bt (o + (w + sum ws)) o w (omega arith) same) in
      let rest = numbers_same at bt (o + w) ws (λ k h. same k (omega arith)) in
      cc

body_local : (kind : ℕ) (s t : List ℕ) (at bt : ℕ) → Same s at t bt (body_length kind) → body_at kind s at ≡ body_at kind t bt
unfolding body_length body_at
body_local kind s t at bt same =
    ap (λ (ns : List ℕ). (body_of kind).gives (λ i. get_or ns i 0)) (numbers_same s t at bt 0 (body_of kind).widths (λ k h. same k (omega arith)))

-- what is left of a text, as code takes it
pub rest_after : (at : ℕ) (s : List ℕ) → take (length s - at) (drop at s) ≡ drop at s
rest_after at s = ap (λ (n : ℕ). take n (drop at s)) (sym (length-drop at s)) ∙ take-length (drop at s)

pub body_after : (kind at : ℕ) (s : List ℕ) → body_at kind (take (length s - at) (drop at s)) 0 ≡ body_at kind s at
body_after kind at s = rw rest_after (body_local kind (drop at s) s 0 at (λ o h. rw zero-add (get_or-drop at s o 0)))

-- all that is left of s from `at` on stands in t from bt on
module _ (s t : List ℕ) (at bt : ℕ) (long : length s - at ≤ length t - bt) (same : Same s at t bt (length s - at)) where
  abbrev size : ℕ
  size = body_length (get_or s at 0)

  kind_same : at < length s → get_or t bt 0 ≡ get_or s at 0
  kind_same h = sym (rw (add-zero, add-zero) at (same 0 (omega arith)))

  size_same : at < length s → body_length (get_or t bt 0) ≡ size
  size_same h = ap body_length (kind_same h)

  whole_same : at < length s → size ≤ length s - (at + 1) → body_at (get_or t bt 0) t (bt + 1) ≡ body_at (get_or s at 0) s (at + 1)
  whole_same h l =
      ap (λ (k : ℕ). body_at k t (bt + 1)) (kind_same h)
      ∙ sym (body_local (get_or s at 0) s t (at + 1) (bt + 1) (same_part s t at bt (length s - at) 1 size (omega arith) same))

  pub decode_same : (decode_at s at ≡ Err Cut → ⊥) → decode_at t bt ≡ decode_at s at
  decode_same whole =
      below_or_not at (length s)
      (λ h.
      by_cases (eqb size 0)
      (λ z.
      let e = eqb-true size 0 z in
      decode_unknown t bt (omega arith) (size_same h ∙ e) ∙ sym (decode_unknown s at h e))
      (λ z.
      let n = eqb-false size 0 z in
      below_or_not (length s - (at + 1)) size (λ l. absurd (whole (decode_cut s at h n l)))
      (λ l.
      decode_whole t bt (omega arith) (λ e. n (sym (size_same h) ∙ e)) (omega (arith, size_same h))
      ∙ rw (whole_same h l, size_same h) (sym (decode_whole s at h n l)))))
      (λ h. absurd (whole (decode_past s at h)))

  -- nothing more is left of t, so what is cut is cut there too
  pub decode_cut_same : length t - bt ≤ length s - at → decode_at s at ≡ Err Cut → decode_at t bt ≡ Err Cut
  decode_cut_same short cut =
      below_or_not at (length s)
      (λ h.
      by_cases (eqb size 0)
      (λ z. absurd (let u = decode_unknown s at h (eqb-true size 0 z) in let f : ◌≡◌ {A = ℕ} 0 1 = cc in omega arith))
      (λ z.
      let n = eqb-false size 0 z in
      below_or_not (length s - (at + 1)) size
      (λ l. decode_cut t bt (omega arith) (λ e. n (sym (size_same h) ∙ e)) (omega (arith, size_same h)))
      (λ l. absurd (let u = decode_whole s at h n l in let f : ◌≡◌ {A = ℕ} 0 1 = cc in omega arith))))
      (λ h. decode_past t bt (omega arith))

by_cut {ℓ} : {P : Type ℓ} (d : Result (Call × ℕ) Undecoded) → (d ≡ Err Cut → P) → ((d ≡ Err Cut → ⊥) → P) → P
by_cut (Err Cut) at_cut other = at_cut refl
by_cut (Err Unknown) at_cut other = other (λ e. let f : ◌≡◌ {A = ℕ} 0 1 = cc in omega arith)
by_cut (Ok d) at_cut other = other (λ e. let f : ◌≡◌ {A = ℕ} 0 1 = cc in omega arith)

pub decode_more : (s t : List ℕ) (at : ℕ) → (decode_at s at ≡ Err Cut → ⊥) → decode_at (s ++ t) at ≡ decode_at s at
decode_more s t at =
    decode_same s (s ++ t) at at (simp length-append (omega arith)) (λ o h. sym (get_or-append s t 0 (at + o) (omega arith)))

pub decode_moved : (s : List ℕ) (n at : ℕ) → decode_at (drop n s) at ≡ decode_at s (n + at)
decode_moved s n at =
    let same : Same s (n + at) (drop n s) at (length s - (n + at)) = λ o h. sym (get_or-drop n s (at + o) 0 ∙ ap (λ (k : ℕ). get_or s k 0) (omega arith)) in
    let long : length s - (n + at) ≤ length (drop n s) - at = simp length-drop (omega arith) in
    by_cut (decode_at s (n + at)) (λ e. decode_cut_same s (drop n s) (n + at) at long same (simp length-drop (omega arith)) e ∙ sym e)
    (decode_same s (drop n s) (n + at) at long same)
