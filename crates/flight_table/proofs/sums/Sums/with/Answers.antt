use Rattle.std.proofs.Common.{rules}
use Rattle.flight_table.proofs.sums.Sums.with.Goals as goal

pub returns-clause-sums : goal.returns-clause-sums
returns-clause-sums c = search rules
