-- On a cleared port nothing has come.
use Rattle.tl_checker.specs.Inside.{limits_of}
use Rattle.tl_checker.proofs.PortLaws.{opening_came}
use Rattle.tl_checker.proofs.port.Port.clear_whole.Goals as goal

pub invariant_of-self : goal.invariant_of-self
invariant_of-self c = (c.self.invariant.0, opening_came (limits_of c.self.inside.client c.self.inside.level c.self.inside.max_size))
