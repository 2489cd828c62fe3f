use Rattle.std.proofs.Common.{rules}
use Rattle.axi_beats.proofs.transfers.transfer_address.Goals as goal

pub returns-else-n-eq1 : goal.returns-else-n-eq1
returns-else-n-eq1 c = search rules
