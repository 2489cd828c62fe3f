-- On a new port nothing has come.
use Rattle.tl_checker.specs.Inside.{limits_of}
use Rattle.tl_checker.proofs.PortLaws.{opening_came}
use Rattle.tl_checker.proofs.port.Port.new.Goals as goal

pub invariant_of-result : goal.invariant_of-result
invariant_of-result c = (c.requires, opening_came (limits_of c.args.client c.args.level c.args.max_size))
