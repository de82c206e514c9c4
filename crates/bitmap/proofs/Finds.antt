-- The search of a bitmap, walked by words as the code does. Assumes nothing.
--     lowest_beyond      a search whose first numbers do not pass goes on behind them
--     span_some          how many words hold some bits
--     span_to, span_past     to a bit of the word at hand; as far or further
--     Passing            what holds at the head of the loop: what is left of the search, and how many words were looked at
--     pass_start, pass_out, pass_found, pass_turn, pass_end
--     open_bits, set_bits_lem    what is found, in the bitmap's own words
--     out_here, out_next, out_none    past the words' end: in the rest of the word at hand; in the next; nowhere
use Prim.Native.Nat.{ℕ, zero, suc, ◌+◌, ◌-◌, ◌*◌, ◌/◌, ◌%◌, ◌^◌, ◌≤◌, ◌<◌, min, max}
use native.Mathlib.Omega.{arith}
use mathlib.Core.Path.{◌≡◌, refl, sym, ap, ◌∙◌}
use mathlib.Core.Bool.{Bool, true, false, not, ◌&&◌}
use mathlib.Core.List.{List}
use lib.Dec.{eqb}
use lib.ListN.{length, get_or, get_or-eq_default}
use borrow.Author.Tests.{ne_eqb}
use Rattle.search.specs.Search.{lowest}
use Rattle.search.proofs.Bools.{below_or_not}
use Rattle.search.proofs.Lowest.{found_passes, found_low, found_is, found_none, found_cong, lowest_le}
use Rattle.search.proofs.Ranges.{every_move}
use Rattle.bitmap.specs.Bits.{bit_of, is_clear, is_start, opens, spanned}
use Rattle.bitmap.specs.declared.looks.Found.{Found}
use Rattle.bitmap.specs.Steps.Looks.{wanted_in, wanted, Hits, Finds}
use Rattle.bitmap.proofs.Promises.{none_spanned, spanned_words}
use Rattle.bitmap.proofs.Smears.{ones_set}

-- ---- a search whose first d numbers do not pass
lowest_beyond : (p : ℕ → Bool) (n d : ℕ) → d ≤ n → ((k : ℕ) → k < d → p k ≡ false) → lowest p n ≡ d + lowest (λ k. p (d + k)) (n - d)
lowest_beyond p n d h none =
    let q : ℕ → Bool = λ k. p (d + k) in
    let r = lowest q (n - d) in
    let below : (i : ℕ) → i < d + r → p i ≡ false =
    λ i l. below_or_not i d (none i) (λ a. let same : i ≡ d + (i - d) = omega arith in ap p same ∙ found_low q (n - d) (i - d) (omega arith))
    in
    below_or_not r (n - d) (λ l. found_is p n (d + r) (omega arith) (found_passes q (n - d) l) below)
    (λ l. found_none p n (λ k a. below k (omega arith)) ∙ omega (arith, lowest_le q (n - d)))

-- ---- how many words hold n bits
span_some : (j n : ℕ) → 0 < n → spanned j n ≡ (j % 64 + n + 63) / 64
span_some j zero h = absurd (omega arith)
span_some j (suc n) h = omega (arith, spanned_words j n)

-- from bit j on, where bit `low` of the word `looks` words on is `passed` bits on
module _ (j passed looks low : ℕ) (even : 64 * looks + low ≡ j % 64 + passed) where
  span_to : (d : ℕ) → 0 < d → low + d ≤ 64 → spanned j (passed + d) ≡ looks + 1
  span_to d some h = omega (arith, span_some j (passed + d) (omega arith))

  span_past : (n : ℕ) → passed < n → looks ≤ spanned j n
  span_past n h = omega (arith, span_some j n (omega arith))

-- ---- what is wanted, word by word
module _ (run starts : ℕ) (ws : List ℕ) where
  -- q words on, and 64 bits fewer for each
  wanted_shift : (st q k : ℕ) → wanted run starts ws st (64 * q + k) ≡ wanted run starts ws (st + q) k
  unfolding wanted
  wanted_shift st q k =
      let word : st + (64 * q + k) / 64 ≡ st + q + k / 64 = omega arith in
      let bit : (64 * q + k) % 64 ≡ k % 64 = omega arith in
      rw (word, bit)

  wanted_word : (at s : ℕ) → s < 64 → wanted run starts ws at s ≡ wanted_in run starts (get_or ws at 0) s
  unfolding wanted
  wanted_word at s h =
      let word : at + s / 64 ≡ at = omega arith in
      let bit : s % 64 ≡ s = omega arith in
      rw (word, bit)

  -- past the words' end every bit is clear
  wanted_out : (at k : ℕ) → length ws ≤ at + k / 64 → wanted run starts ws at k ≡ wanted_in run starts 0 (k % 64)
  unfolding wanted
  wanted_out at k far = rw (get_or-eq_default ws 0 far)

-- ---- the walk
module _ (run starts : ℕ) (ws : List ℕ) (start from count : ℕ) where
  abbrev goal : ℕ
  goal = lowest (λ k. wanted run starts ws start (from + k)) count

  -- of the bits that are left, from a bit of a word on
  abbrev rest : ℕ → ℕ → ℕ → ℕ
  rest at low left = lowest (λ k. wanted run starts ws at (low + k)) left

  pub record Passing (at low left looks : ℕ) : Type 0 where
    pub in_word : low < 64
    pub high : left ≤ count
    pub is : goal ≡ count - left + rest at low left
    pub words : length ws - (start + from / 64) ≡ looks + (length ws - at)
    pub even : 0 < left → 64 * looks + low ≡ from % 64 + (count - left)
    pub spans : looks ≡ spanned from (count - left)

  -- from the word on that holds the first bit, or from one past the words' end
  pub pass_start : (at most : ℕ) → at ≡ min (start + from / 64) most → length ws ≤ most → Passing at (from % 64) count 0
  pass_start at most e h =
      let none : count - count ≡ 0 = omega arith in
      record {
        in_word = omega arith;
        high = omega arith;
        is = omega (arith, found_cong (λ k. wanted run starts ws start (from + k)) (λ k. wanted run starts ws at (from % 64 + k)) count (λ k l. same k));
        words = omega arith;
        even = λ l. omega arith;
        spans = rw none (sym (none_spanned from));
      }
    where
      same : (k : ℕ) → wanted run starts ws start (from + k) ≡ wanted run starts ws at (from % 64 + k)
      same k =
          below_or_not at (length ws)
          (λ inside.
          let place : from + k ≡ 64 * (from / 64) + (from % 64 + k) = omega arith in
          let here : start + from / 64 ≡ at = omega arith in
          ap (wanted run starts ws start) place ∙ wanted_shift run starts ws start (from / 64) (from % 64 + k) ∙
          ap (λ (x : ℕ). wanted run starts ws x (from % 64 + k)) here)
          (λ out.
          let bit : (from + k) % 64 ≡ (from % 64 + k) % 64 = omega arith in
          wanted_out run starts ws start (from + k) (omega arith) ∙ ap (wanted_in run starts 0) bit ∙
          sym (wanted_out run starts ws at (from % 64 + k) (omega arith)))

  module _ (at low left looks : ℕ) (p : Passing at low left looks) where
    -- a step's result, from what it passed and the words it looked at
    finds :
        (r : Found) (n : ℕ) → r.bits ≡ goal → min (suc r.bits) count ≡ n → r.looks ≡ min (spanned from n) (length ws - (start + from / 64)) →
        Finds run starts ws start from count r
    finds r n e m l = record { bits = e; looks = rw m l }

    pub pass_end : (r : Found) → left ≡ 0 → r.bits ≡ count → r.looks ≡ looks → Finds run starts ws start from count r
    pass_end r h b l =
        let none : rest at low left ≡ 0 = omega (arith, lowest_le (λ k. wanted run starts ws at (low + k)) left) in
        finds r (count - left) (omega (arith, p.is, p.high)) (omega (arith, p.high)) (omega (arith, p.spans, p.words))

    -- all words to the slice's end were looked at
    pub pass_out :
        (r : Found) (far : ℕ) → length ws ≤ at → far ≡ lowest (λ k. wanted_in run starts 0 ((low + k) % 64)) left →
        r.bits ≡ count - left + far → r.looks ≡ looks → Finds run starts ws start from count r
    pass_out r far h f b l =
        let same : far ≡ rest at low left =
        f ∙
        found_cong (λ k. wanted_in run starts 0 ((low + k) % 64)) (λ k. wanted run starts ws at (low + k)) left
        (λ k a. sym (wanted_out run starts ws at (low + k) (omega arith)))
        in
        below_or_not 0 left
        (λ more. finds r _ (omega (arith, p.is)) refl (l ∙ ended more (min (suc r.bits) count) (omega (arith, p.high))))
        (λ all. pass_end r (omega arith) (omega (arith, p.high, same, lowest_le (λ k. wanted run starts ws at (low + k)) left)) l)
      where
        ended : 0 < left → (n : ℕ) → count - left < n → looks ≡ min (spanned from n) (length ws - (start + from / 64))
        ended more n l = omega (arith, span_past from (count - left) looks low (p.even more) n l, p.words)

    -- the word's bits that are looked at, and where the first one wanted of them is
    module _
        (more : 0 < left) (inside : at < length ws) (word hits part near : ℕ) (w : word ≡ get_or ws at 0) (told : Hits run starts word hits)
        (e : part ≡ min left (64 - low)) (n : near ≡ lowest (λ k. not (eqb (bit_of hits (low + k)) 0)) part) where
      abbrev here : ℕ → Bool
      here k = wanted run starts ws at (low + k)

      same : near ≡ lowest here part
      same =
          n ∙
          found_cong (λ k. not (eqb (bit_of hits (low + k)) 0)) here part
          (λ k l.
          told (low + k) (omega (arith, p.in_word)) ∙ ap (λ (x : ℕ). wanted_in run starts x (low + k)) w ∙
          sym (wanted_word run starts ws at (low + k) (omega (arith, p.in_word))))

      pub pass_found : (r : Found) → near < part → r.bits ≡ count - left + near → r.looks ≡ looks + 1 → Finds run starts ws start from count r
      pass_found r h b l =
          let s = same in
          let found : rest at low left ≡ lowest here part =
          found_is here left (lowest here part) (omega arith) (found_passes here part (omega arith)) (found_low here part)
          in
          let words = span_to from (count - left) looks low (p.even more) (near + 1) (omega arith) (omega (arith, p.in_word)) in
          finds r (count - left + (near + 1)) (omega (arith, p.is)) (omega (arith, p.high)) (omega (arith, p.words))

      pub pass_turn : (seen : ℕ) → part ≤ near → seen ≡ looks + 1 → Passing (at + 1) 0 (left - part) seen
      pass_turn seen h c =
          let s = same in
          let on : count - (left - part) ≡ count - left + part = omega (arith, p.high) in
          record {
            in_word = omega arith;
            high = omega (arith, p.high);
            is = omega (arith, p.is, p.high, lowest_beyond here left part (omega arith) (λ k l. found_low here part k (omega arith)), next);
            words = omega (arith, p.words);
            even = λ l. omega (arith, p.even more, p.in_word, p.high);
            spans = rw on (c ∙ sym (span_to from (count - left) looks low (p.even more) part (omega (arith, p.in_word)) (omega (arith, p.in_word))));
          }
        where
          next : lowest (λ k. here (part + k)) (left - part) ≡ rest (at + 1) 0 (left - part)
          next =
              found_cong (λ k. here (part + k)) (λ k. wanted run starts ws (at + 1) (0 + k)) (left - part)
              (λ k l.
              let end : low + (part + k) ≡ 64 * 1 + (0 + k) = omega (arith, p.in_word) in
              ap (wanted run starts ws at) end ∙ wanted_shift run starts ws at 1 (0 + k))

-- ---- in the bitmap's own words
pub open_bits :
    (run starts : ℕ) (ws : List ℕ) (start from count : ℕ) (r : Found) → Finds (max run 1) starts ws start from count r →
    r.bits ≡ lowest (λ k. opens ws start run starts (from + k)) count
unfolding wanted wanted_in opens is_start is_clear
open_bits run starts ws start from count r f =
    f.bits ∙
    found_cong (λ k. wanted (max run 1) starts ws start (from + k)) (λ k. opens ws start run starts (from + k)) count
    (λ k l.
    let j = from + k in
    rw (ne_eqb (max run 1) 0 (λ z. omega arith))
    (ap (λ (b : Bool). is_start starts j && b)
    (every_move (λ b. eqb (bit_of (get_or ws (start + j / 64) 0) b) 0) (is_clear ws start) (j % 64) j (min (max run 1) (64 - j % 64))
    (λ b h.
    let word : (j + b) / 64 ≡ j / 64 = omega arith in
    let bit : (j + b) % 64 ≡ j % 64 + b = omega arith in
    rw (word, bit)))))

pub set_bits_lem :
    (ws : List ℕ) (start from count : ℕ) (r : Found) → Finds 0 (2 ^ 64 - 1) ws start from count r →
    r.bits ≡ lowest (λ k. not (is_clear ws start (from + k))) count
unfolding wanted wanted_in is_clear
set_bits_lem ws start from count r f =
    f.bits ∙
    found_cong (λ k. wanted 0 (2 ^ 64 - 1) ws start (from + k)) (λ k. not (is_clear ws start (from + k))) count
    (λ k l. rw (ones_set ((from + k) % 64) (omega arith)))

-- ---- past the words' end, where the same empty word comes again and again: `hits` has, set, the bits of it that are wanted
module _
    (run starts hits low left here near : ℕ) (short : low < 64) (told : Hits run starts 0 hits) (e : here ≡ min left (64 - low))
    (n : near ≡ lowest (λ k. not (eqb (bit_of hits (low + k)) 0)) here) where
  abbrev hit : ℕ → Bool
  hit s = not (eqb (bit_of hits s) 0)

  abbrev empty : ℕ → Bool
  empty k = wanted_in run starts 0 ((low + k) % 64)

  at_place : (k s : ℕ) → (low + k) % 64 ≡ s → hit s ≡ empty k
  at_place k s same = told s (omega arith) ∙ ap (wanted_in run starts 0) (sym same)

  -- in the rest of the word at hand
  in_rest : (k : ℕ) → k < near → k < here → empty k ≡ false
  in_rest k l h = sym (at_place k (low + k) (omega arith)) ∙ found_low (λ k. hit (low + k)) here k (omega arith)

  pub out_here : near < here → near ≡ lowest empty left
  out_here h =
      let found : hit (low + near) ≡ true = rw n (found_passes (λ k. hit (low + k)) here (omega arith)) in
      sym (found_is empty left near (omega arith) (sym (at_place near (low + near) (omega arith)) ∙ found) (λ k l. in_rest k l (omega arith)))

  -- in the next, and so in any
  module _
      (next far : ℕ) (m : next ≡ min (left - here) (64 - 0)) (f : far ≡ lowest (λ k. not (eqb (bit_of hits (0 + k)) 0)) next) (past : here ≤ near) where
    in_next : (k : ℕ) → here ≤ k → k < left → (k - here) % 64 < far → empty k ≡ false
    in_next k a l h =
        let s = (k - here) % 64 in
        sym (at_place k (0 + s) (omega arith)) ∙ found_low (λ k. hit (0 + k)) next s (omega arith)

    pub out_next : far < next → here + far ≡ lowest empty left
    out_next h =
        let found : hit (0 + far) ≡ true = rw f (found_passes (λ k. hit (0 + k)) next (omega arith)) in
        sym
        (found_is empty left (here + far) (omega arith) (sym (at_place (here + far) (0 + far) (omega arith)) ∙ found)
        (λ k l. below_or_not k here (λ a. in_rest k (omega arith) a) (λ a. in_next k a (omega arith) (omega arith))))

    pub out_none : next ≤ far → left ≡ lowest empty left
    out_none h = sym (found_none empty left (λ k l. below_or_not k here (λ a. in_rest k (omega arith) a) (λ a. in_next k a l (omega arith))))
