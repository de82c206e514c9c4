-- What the definitions of the search mean. Assumes nothing.
use native.Mathlib.Omega.{arith}
use mathlib.Core.Path.{◌≡◌, refl, sym, ◌∙◌}
use Rattle.search.proofs.Bools.{by_cases, and_both, and_left_false, and_right_false}
use Rattle.search.proofs.Ranges.{all_every, every_miss, every_part}
use Rattle.bitmap.specs.Bits.{is_clear, is_start, opens, spanned}
use Rattle.bitmap.specs.Promises.{OneBitOpens, ClearRunOpens, SetBitIsPassed, OtherBitIsPassed, NoneSpanned, SpannedWords}

pub clear_run_opens : ClearRunOpens
unfolding opens
clear_run_opens ws start run starts j some may e = and_both _ _ may (every_part (is_clear ws start) j run j _ (omega arith) (omega arith) e)

pub set_bit_is_passed : SetBitIsPassed
unfolding opens
set_bit_is_passed ws start run starts j s low high near e =
    and_right_false (is_start starts j) _ (every_miss (is_clear ws start) j _ s low (omega arith) e)

pub other_bit_is_passed : OtherBitIsPassed
unfolding opens
other_bit_is_passed ws start run starts j e = and_left_false _ _ e

pub one_bit_opens : OneBitOpens
one_bit_opens ws start starts j =
    by_cases (is_start starts j)
    (λ may.
    by_cases (is_clear ws start j)
    (λ t.
    clear_run_opens ws start 1 starts j (omega arith) may (all_every (is_clear ws start) j 1 (λ k a b. let same : k ≡ j = omega arith in rw same t)) ∙
    sym (and_both _ _ may t))
    (λ f. set_bit_is_passed ws start 1 starts j j (omega arith) (omega arith) refl f ∙ sym (and_right_false (is_start starts j) _ f)))
    (λ other. other_bit_is_passed ws start 1 starts j other ∙ sym (and_left_false _ _ other))

pub none_spanned : NoneSpanned
unfolding spanned
none_spanned j = refl

pub spanned_words : SpannedWords
unfolding spanned
spanned_words j n = omega arith
