use Rattle.std.proofs.Common.{rules}
use Rattle.flight_table.proofs.ids.Ids.holder.Goals as goal

pub returns-in-Some : goal.returns-in-Some
returns-in-Some c = search rules
