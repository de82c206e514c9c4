-- What the definitions of the search mean, in plain quantifiers.
use Rattle.std.specs.Prelude.{ℕ, suc, ◌+◌, ◌-◌, ◌/◌, ◌≤◌, ◌<◌, max, ◌≡◌, true, false, ◌&&◌, List}
use Rattle.search.specs.Search.{every}
use Rattle.bitmap.specs.Bits.{is_clear, is_start, opens, spanned}

-- a run of one opens just where it may begin and the bit is clear: for it the next open bit is the next such clear one
abbrev pub OneBitOpens : Type 0
OneBitOpens = (ws : List ℕ) (start starts j : ℕ) → opens ws start 1 starts j ≡ (is_start starts j && is_clear ws start j)

-- a run opens where it may begin and all its bits are clear: no such run is passed over
abbrev pub ClearRunOpens : Type 0
ClearRunOpens =
    (ws : List ℕ) (start run starts j : ℕ) → 0 < run → is_start starts j ≡ true → every (is_clear ws start) j run ≡ true →
    opens ws start run starts j ≡ true

-- no run opens at a bit from which one of the run's bits, in the same word, is set: a word whose bits are all set is passed
abbrev pub SetBitIsPassed : Type 0
SetBitIsPassed =
    (ws : List ℕ) (start run starts j s : ℕ) → j ≤ s → s < j + max run 1 → s / 64 ≡ j / 64 → is_clear ws start s ≡ false →
    opens ws start run starts j ≡ false

-- no run opens at a bit at which none may begin
abbrev pub OtherBitIsPassed : Type 0
OtherBitIsPassed = (ws : List ℕ) (start run starts j : ℕ) → is_start starts j ≡ false → opens ws start run starts j ≡ false

-- no bits span no word
abbrev pub NoneSpanned : Type 0
NoneSpanned = (j : ℕ) → spanned j 0 ≡ 0

-- bits span the words from that of the first bit to that of the last
abbrev pub SpannedWords : Type 0
SpannedWords = (j n : ℕ) → spanned j (suc n) ≡ (j + n) / 64 - j / 64 + 1
