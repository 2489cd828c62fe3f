use Rattle.std.proofs.Common.{rules}
use Rattle.scoreboard.proofs.tellings.bytes_compared.Goals as goal

pub returns-in-AcceptanceOrder : goal.returns-in-AcceptanceOrder
returns-in-AcceptanceOrder c = search rules
