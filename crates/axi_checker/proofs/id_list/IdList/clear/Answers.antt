use Rattle.axi_checker.proofs.IdCounts.{none_counted}
use Rattle.axi_checker.proofs.id_list.IdList.clear.Goals as goal

pub invariant_of-self : goal.invariant_of-self
invariant_of-self g c = rw c.clear.ensures (none_counted, c.self.invariant.1)
