use Rattle.std.proofs.Common.{rules}
use Rattle.axi_checker.proofs.id_list.IdList.count.Goals as goal

pub returns : goal.returns
returns g c = search rules
