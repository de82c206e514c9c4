-- The four ways that a record can be decoded. Assumes nothing.
--     decode_past       no byte stands at the offset
--     decode_unknown    a byte that is no kind
--     decode_cut        fewer bytes follow than the body has
--     decode_whole      all of the body is there
--     kind_cut, kind_whole    so of a kind by name
--     whole_within      a whole record lies within the bytes, and has at most 35 of them
use Prim.Native.Nat.{ℕ, ◌+◌, ◌-◌, ◌≤◌, ◌<◌}
use native.Mathlib.Omega.{arith}
use mathlib.Core.Path.{◌≡◌, ap}
use mathlib.Core.List.{List}
use Rattle.std.specs.Prelude.{Ok, Err}
use lib.ListN.{length, get_or}
use lib.Dec.{eqb}
use borrow.Author.Tests.{le-leb, lt-leb, eq-eqb, ne_eqb, lt-ltb, le-ltb, eqb-true, eqb-false}
use Rattle.search.proofs.Bools.{by_cases, below_or_not}
use Rattle.records.specs.Records.{byte_of, body_length, body_at, decode_at}
use Rattle.records.specs.declared.Kind.{Kind}
use Rattle.records.proofs.Bodies.{some_length, body_most}
use Rattle.rules.specs.declared.Call.{Call}
use Rattle.records.specs.declared.Undecoded.TheVariants.{Unknown, Cut}

module _ (s : List ℕ) (at : ℕ) where
  pub decode_past : length s ≤ at → decode_at s at ≡ Err Cut
  unfolding decode_at
  decode_past h = rw (le-leb (length s) at h)

  abbrev size : ℕ
  size = body_length (get_or s at 0)

  pub decode_unknown : at < length s → size ≡ 0 → decode_at s at ≡ Err Unknown
  unfolding decode_at
  decode_unknown h e = rw (lt-leb (length s) at h, eq-eqb size 0 e)

  pub decode_cut : at < length s → (size ≡ 0 → ⊥) → length s - (at + 1) < size → decode_at s at ≡ Err Cut
  unfolding decode_at
  decode_cut h n l = rw (lt-leb (length s) at h, ne_eqb size 0 n, lt-ltb (length s - (at + 1)) size l)

  pub decode_whole :
      at < length s → (size ≡ 0 → ⊥) → size ≤ length s - (at + 1)
      → decode_at s at ≡ Ok (body_at (get_or s at 0) s (at + 1), size + 1)
  unfolding decode_at
  decode_whole h n l = rw (lt-leb (length s) at h, ne_eqb size 0 n, le-ltb (length s - (at + 1)) size l)

  pub record Within (n : ℕ) : Type 0 where
    pub some : 2 ≤ n
    pub most : n ≤ 35
    pub inside : at + n ≤ length s

  within : {r : Call} {n : ℕ} → at < length s → (size ≡ 0 → ⊥) → size ≤ length s - (at + 1) → decode_at s at ≡ Ok (r, n) → Within n
  within {r} {n} h ne l e =
      let w = decode_whole h ne l in
      let found : ◌≡◌ {A = Call × ℕ} (body_at (get_or s at 0) s (at + 1), size + 1) (r, n) = cc in
      let m : size + 1 ≡ n = ap (λ (d : Call × ℕ). d.1) found in
      let some : 0 < size = below_or_not 0 size (λ z. z) (λ z. absurd (ne (omega arith))) in
      record { some = omega arith; most = omega (arith, body_most (get_or s at 0)); inside = omega arith }

  pub whole_within : {r : Call} {n : ℕ} → decode_at s at ≡ Ok (r, n) → Within n
  whole_within {r} {n} e =
      below_or_not at (length s)
      (λ h.
      by_cases (eqb size 0)
      (λ z. absurd (let u = decode_unknown h (eqb-true size 0 z) in let f : ◌≡◌ {A = ℕ} 0 1 = cc in omega arith))
      (λ z.
      below_or_not (length s - (at + 1)) size
      (λ l. absurd (let u = decode_cut h (eqb-false size 0 z) l in let f : ◌≡◌ {A = ℕ} 0 1 = cc in omega arith))
      (λ l. within h (eqb-false size 0 z) l e)))
      (λ h. absurd (let u = decode_past h in let f : ◌≡◌ {A = ℕ} 0 1 = cc in omega arith))

-- a record whose kind is known by name
module _ (s : List ℕ) (at : ℕ) (kind : Kind) (more : at < length s) (first : byte_of kind ≡ get_or s at 0) where
  abbrev named_size : ℕ
  named_size = body_length (byte_of kind)

  same_size : named_size ≡ body_length (get_or s at 0)
  same_size = ap body_length first

  not_empty : body_length (get_or s at 0) ≡ 0 → ⊥
  not_empty e = omega (arith, some_length kind, same_size)

  pub kind_cut : length s - (at + 1) < named_size → decode_at s at ≡ Err Cut
  kind_cut l = decode_cut s at more not_empty (omega (arith, same_size))

  pub kind_whole : named_size ≤ length s - (at + 1) → decode_at s at ≡ Ok (body_at (byte_of kind) s (at + 1), named_size + 1)
  kind_whole l = rw first (decode_whole s at more not_empty (omega (arith, same_size)))
