-- `machine::Machine::boot` meets its contract: its memory and its answer are those of what was laid out. Assumes nothing.
use native.Mathlib.Omega.{arith}
use mathlib.Core.Path.{◌≡◌}
use Rattle.std.proofs.lemmas.Grind.{common_steps}
use Rattle.setup.specs.Laid.{memory_after, numbers_in}
use Rattle.machine.proofs.Machine.boot.Goals as goal

pub returns : goal.returns
returns c =
    let memory : c.map_or-memory.result ≡ memory_after c.args.self.memory c.boot-booted.result = grind (arith, common_steps) in
    let answer : c.map-answer.result ≡ numbers_in c.boot-booted.result = grind (arith, common_steps) in
    let laid = c.boot-booted.ensures c.args.self.memory in
    ((laid.0, rw (memory, answer) laid.1), rw c.from.ensures at c.after_boot-counters.ensures)
