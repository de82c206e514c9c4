-- The areas' bits are set just where a frame of theirs is granted, and stay so. Assumes nothing.
--     bits_kept       no granted mark and no bit changes
--     bits_run        a run of frames and its bits change together
use Rattle.std.proofs.Common.{◌≡◌, ℕ, ◌+◌, ◌*◌, ◌<◌, ◌≤◌, true, not, eqb, List, sym, ap, ◌∙◌, subst, mul-le-mul_right, arith}
use Rattle.search.specs.Search.{some}
use Rattle.search.proofs.Bools.{not_not}
use Rattle.search.proofs.Ranges.{some_cong, some_hit}
use Rattle.bitmap.specs.Bits.{is_clear, change_bits}
use Rattle.frames.specs.Units.{place, bit}
use Rattle.frames.specs.Marks.{is_granted}
use Rattle.frames.specs.Areas.{end_of, per_bit, bit_count, bits_for}
use Rattle.frames.specs.Tables.{Tables, mark_at}
use Rattle.rules.specs.declared.Record.{Record}
use Rattle.rules.specs.Record.{area_at}
use Rattle.rules.specs.Shape.{shape_right}
use Rattle.rules.specs.DeviceCalls.{bitmap_of, place_of_bit}
use Rattle.rules.specs.Steps.Invariant.{has_granted, BitsSound}
use Rattle.rules.proofs.Ledger.Names.{same_or_not}
use Rattle.rules.proofs.Ledger.FrameRuns.{in_run_or_not}
use Rattle.rules.proofs.Ledger.Grants.{GrantsKept, granted_same}
use Rattle.rules.proofs.AreaRight.{area_facts}
use Rattle.bitmap.proofs.Word.{Change}
use Rattle.rules.proofs.Ledger.BitRuns.{place_inside, run_here, run_else, bit_apart, first_in_run, per_positive}

-- the frames of a bit are granted in one just where they are in the other
pub granted_cong :
    (m : Record) (t t' : Tables) (i j : ℕ) →
    ((q : ℕ) →
    (place_of_bit m i (bit j)).0 ≤ q → q < (place_of_bit m i (bit j)).0 + per_bit (area_at m i) → is_granted (mark_at t' (place q)) ≡ is_granted (mark_at t (place q))) →
    has_granted m t' i j ≡ has_granted m t i j
granted_cong m t t' i j same =
    some_cong (λ p. is_granted (mark_at t' (place p))) (λ p. is_granted (mark_at t (place p))) (place_of_bit m i (bit j)).0 (per_bit (area_at m i)) same

pub bits_kept :
    (m : Record) (t t' : Tables) → shape_right m t ≡ true → GrantsKept m t t' → t'.bitmap ≡ t.bitmap → BitsSound m t → BitsSound m t'
bits_kept m t t' shape kept bitmap old =
    record {
      clear = λ i j h b.
          ap (λ (ws : List ℕ). is_clear ws (bitmap_of m i) j) bitmap ∙
          old.clear i j h b ∙
          ap not (sym (granted_cong m t t' i j (λ q u v. granted_same m t t' kept q (place_inside m t shape i j q h b v))));
    }

-- the run of count frames from bit j of area i on
module _ (m : Record) (t t' : Tables) (shape : shape_right m t ≡ true) (i j count : ℕ) (declared : i < m.memory.declared) (fits : j + bits_for (area_at m i) count ≤ bit_count (area_at m i)) (ends : (area_at m i).base.0 + j * per_bit (area_at m i) + count ≤ end_of (area_at m i)) where
  pub bits_run :
      (f : ℕ → ℕ → ℕ) (x : ℕ) →
      Change f x →
      t'.bitmap ≡ change_bits f t.bitmap (bitmap_of m i) j (bits_for (area_at m i) count) →
      ((q : ℕ) → ((place_of_bit m i (bit j)).0 ≤ q → q < (place_of_bit m i (bit j)).0 + count → ⊥) → mark_at t' (place q) ≡ mark_at t (place q)) →
      ((k : ℕ) → j ≤ k → k < j + bits_for (area_at m i) count → has_granted m t' i k ≡ not (eqb x 0)) → BitsSound m t → BitsSound m t'
  bits_run f x c bitmap outside inside old =
      record {
        clear = λ i' k h b.
            ap (λ (ws : List ℕ). is_clear ws (bitmap_of m i') k) bitmap ∙
            same_or_not i i'
            (λ e.
            in_run_or_not k j (bits_for (area_at m i) count)
            (λ u v. subst (λ (z : ℕ). is_clear new_bits (bitmap_of m z) k ≡ not (has_granted m t' z k)) e (here k u v))
            (λ o. else_where i' k h b (λ _ u v. o u v)))
            (λ n. else_where i' k h b (λ e _ _. n e));
      }
    where
      new_bits : List ℕ
      new_bits = change_bits f t.bitmap (bitmap_of m i) j (bits_for (area_at m i) count)

      here : (k : ℕ) → j ≤ k → k < j + bits_for (area_at m i) count → is_clear new_bits (bitmap_of m i) k ≡ not (has_granted m t' i k)
      here k u v =
          run_here m t shape i j (bits_for (area_at m i) count) declared fits f x c k u v ∙
          sym (ap not (inside k u v) ∙ not_not (eqb x 0))

      else_where :
          (i' k : ℕ) →
          i' < m.memory.declared →
          k < bit_count (area_at m i') →
          (i ≡ i' → j ≤ k → k < j + bits_for (area_at m i) count → ⊥) → is_clear new_bits (bitmap_of m i') k ≡ not (has_granted m t' i' k)
      else_where i' k h b apart =
          run_else m t shape i j (bits_for (area_at m i) count) declared fits f x c i' k b apart ∙
          old.clear i' k h b ∙
          ap not
          (sym
          (granted_cong m t t' i' k
          (λ q u v. ap is_granted (outside q (bit_apart m t shape i j count declared ends i' k h b apart q u v)))))

  -- a granted run has a granted frame in each of its bits
  pub run_granted :
      1 ≤ count →
      ((q : ℕ) → (place_of_bit m i (bit j)).0 ≤ q → q < (place_of_bit m i (bit j)).0 + count → is_granted (mark_at t' (place q)) ≡ true) →
      (k : ℕ) → j ≤ k → k < j + bits_for (area_at m i) count → has_granted m t' i k ≡ true
  run_granted some all k u v =
      let low = (area_facts m t shape i declared).low in
      let begins = first_in_run (area_at m i) j count some k v in
      let positive = per_positive (area_at m i) in
      let wide : j * per_bit (area_at m i) ≤ k * per_bit (area_at m i) = mul-le-mul_right (per_bit (area_at m i)) u in
      some_hit (λ p. is_granted (mark_at t' (place p))) (place_of_bit m i (bit k)).0 (per_bit (area_at m i)) (place_of_bit m i (bit k)).0 (omega arith) (omega arith)
      (all (place_of_bit m i (bit k)).0 (omega arith) (omega arith))
