use Rattle.std.proofs.Common.{arith}
use Rattle.burst_plan.proofs.WordBeats.{given_in-upper}
use Rattle.burst_plan.proofs.write_beats.carried.Goals as goal

pub returns-then-address-ge4 : goal.returns-then-address-ge4
returns-then-address-ge4 c = λ lane below. rw c.if-bus_bytes-eq4.true (given_in-upper c.args.word c.args.address lane (omega arith) (omega arith))
