-- `device_calls::runs::Search::bits_rule_out` meets its contract: every run over the set bit, and those before the next that could begin.
-- Assumes nothing.
use Prim.Native.Nat.{◌+◌, ◌-◌}
use native.Mathlib.Omega.{arith}
use Rattle.search.proofs.Lowest.{lowest_le}
use Rattle.bitmap.specs.Bits.{opens}
use Rattle.device_calls.proofs.Tries.{set_rules_out, open_ruled}
use Rattle.device_calls.proofs.runs.Search.bits_rule_out.Goals as goal

pub returns-then-self-next : goal.returns-then-self-next
returns-then-self-next c = let x = c.args in set_rules_out x.self.now x.bit x.set c.requires.tries_at c.requires.set_in

pub returns-then-self-gt6 : goal.returns-then-self-gt6
returns-then-self-gt6 c = let x = c.args in set_rules_out x.self.now x.bit x.set c.requires.tries_at c.requires.set_in

pub overflow_add-result : goal.overflow_add-result
overflow_add-result c =
    let s = c.args.self.now in
    omega (arith, c.next_open-open.ensures.0, lowest_le (λ k. opens s.bitmap.words.now s.bitmap.start s.bits s.starts (c.args.set + 1 + k)) (s.last + 1 - (c.args.set + 1)), c.requires.tries_at.last_high)

pub returns : goal.returns
returns c =
    let s = c.args.self.now in
    let x = c.args in
    let p = c.requires in
    let o = c.next_open-open in
    record {
      some = omega (arith, p.set_in.low);
      ruled_out = λ k low high may. open_ruled s x.bit.0 x.set _ o.result.bits p.set_in o.ensures.0 k low (omega (arith, p.set_in.low)) may;
      high = omega (arith, o.ensures.0, lowest_le (λ k. opens s.bitmap.words.now s.bitmap.start s.bits s.starts (x.set + 1 + k)) (s.last + 1 - (x.set + 1)), p.tries_at.last_high);
    }
