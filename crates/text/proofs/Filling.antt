-- The last digits of a number, written from the last one back. Assumes nothing.
--     filled_more    one digit more
--     part_filled    a part of a buffer that they fill
use Prim.Native.Nat.{ℕ, suc, ◌+◌, ◌-◌, ◌/◌, ◌%◌, ◌<◌, ◌≤◌}
use native.Mathlib.Omega.{arith}
use mathlib.Core.Path.{◌≡◌, sym, ap, ◌∙◌}
use mathlib.Core.List.{List, ◌∷◌, ◌++◌}
use lib.ListN.{length, set, take, drop}
use lib.Seq.{sets, append_snoc}
use borrow.Rule.Slice.PartMut.{put_mid}
use Rattle.std.proofs.lemmas.List.{drop-set, length-drop, length-take-le}
use Rattle.text.specs.Writing.{last_digits}
use Rattle.text.proofs.Buffer.{copied}
use Rattle.text.proofs.Decimal.{last_length}

pub filled_more : (value count : ℕ) (digits : List ℕ) (i rest : ℕ) → 0 < i → i ≤ length digits
    → last_digits i rest ++ drop i digits ≡ last_digits count value
    → last_digits (i - 1) (rest / 10) ++ drop (i - 1) (set digits (i - 1) (48 + rest % 10)) ≡ last_digits count value
filled_more value count digits i rest more within filled =
    let k = i - 1 in
    let one : i ≡ suc k = omega arith in
    let next : i ≡ k + 1 = omega arith in
    ap (λ (l : List ℕ). last_digits k (rest / 10) ++ l) (drop-set digits k (48 + rest % 10) (omega arith))
    ∙ ap (λ (n : ℕ). last_digits k (rest / 10) ++ ((48 + rest % 10) ∷ drop n digits)) (sym next)
    ∙ sym (append_snoc (last_digits k (rest / 10)) (48 + rest % 10) (drop i digits))
    ∙ ap (λ (n : ℕ). last_digits n rest ++ drop i digits) (sym one)
    ∙ filled

pub part_filled : (l : List ℕ) (at count k value : ℕ) (part : List ℕ) → part ≡ last_digits (length (take k (drop at l))) value → k ≡ count → at + count ≤ length l
    → put_mid at k l part ≡ sets l at (last_digits count value)
part_filled l at count k value part e size h =
    let digits : length (last_digits count value) ≡ count = last_length count value in
    let long : length (take k (drop at l)) ≡ count = length-take-le k (drop at l) (simp length-drop (omega arith)) ∙ size in
    copied l at k (last_digits count value) part (e ∙ ap (λ (n : ℕ). last_digits n value) long) (size ∙ sym digits) (omega arith)
