-- `records::call` meets its contract: each arm is its kind's line of the list of bodies. Assumes nothing.
use Rattle.records.specs.Records.{body_at, body_of, bodies, numbers}
use Rattle.records.proofs.call.Goals as goal

pub returns-in-PutFixed : goal.returns-in-PutFixed
unfolding body_at body_of bodies numbers
returns-in-PutFixed c = rw c.in-PutFixed.is (cc c.number-in-PutFixed.ensures)
