-- `text::writing::Writer::put_digits` meets its contract: where they have room, the digits are stored and then the byte. Assumes nothing.
use Prim.Native.Nat.{ℕ, ◌+◌}
use native.Mathlib.Omega.{arith}
use mathlib.Core.Path.{◌≡◌, refl, ap, sym, ◌∙◌}
use mathlib.Core.List.{List, [], ◌∷◌, ◌++◌}
use lib.ListN.{length, set, length-append}
use Rattle.text.specs.Writing.{last_digits}
use Rattle.text.proofs.Buffer.{set_after, appended, not_appended}
use Rattle.text.proofs.Decimal.{last_length}
use Rattle.text.proofs.Filling.{part_filled}
use Rattle.text.proofs.writing.Writer.put_digits.Goals as goal

-- the digits and the byte after them
size : (count value end : ℕ) → length (last_digits count value ++ (end ∷ [])) ≡ count + 1
size count value end = simp (length-append, last_length) (omega arith)

pub returns-then-saturating_sub-count : goal.returns-then-saturating_sub-count
returns-then-saturating_sub-count c =
    let a = c.args in
    let w = a.self.now in
    record {
      slice = refl;
      appended =
          not_appended w.buffer.now w.length (last_digits a.count a.value ++ (a.end ∷ []))
          (omega (arith, size a.count a.value a.end));
    }

pub returns : goal.returns
returns c =
    let a = c.args in
    let w = a.self.now in
    let text = last_digits a.count a.value in
    let long = size a.count a.value a.end in
    let digits : length text ≡ a.count = last_length a.count a.value in
    record {
      slice = refl;
      appended =
          appended w.buffer.now w.length (text ++ (a.end ∷ [])) _ _ (omega (arith, long))
          (ap (λ (o : List ℕ). set o (w.length + a.count) a.end) (part_filled w.buffer.now w.length a.count _ a.value c.fill.new.digits c.fill.ensures (omega arith) (omega arith))
          ∙ set_after w.buffer.now w.length text a.end (w.length + a.count) (ap (λ (n : ℕ). w.length + n) (sym digits)))
          (omega (arith, long));
    }
