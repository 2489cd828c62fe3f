use Rattle.axi_checker.proofs.IdCounts.{none_counted}
use Rattle.axi_checker.proofs.id_list.IdList.of.Goals as goal

pub invariant_of-result : goal.invariant_of-result
invariant_of-result g c = (rw c.requires.none none_counted, c.requires.few)
