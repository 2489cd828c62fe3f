use Rattle.std.proofs.Common.{rules}
use Rattle.flight_table.proofs.rows.Rows.new.Goals as goal

pub returns-in_err-rows : goal.returns-in_err-rows
returns-in_err-rows c = search rules

pub invariant_of-result : goal.invariant_of-result
invariant_of-result c = search rules

pub returns : goal.returns
returns c = search rules
