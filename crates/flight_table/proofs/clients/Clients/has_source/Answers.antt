use Rattle.std.proofs.Common.{rules}
use Rattle.flight_table.proofs.clients.Clients.has_source.Goals as goal

pub enum_noted-own : goal.enum_noted-own
enum_noted-own c = search rules

pub way_copy_out-own : goal.way_copy_out-own
way_copy_out-own c = search rules

pub returns-in-Some : goal.returns-in-Some
returns-in-Some c = search rules

pub returns-in-None : goal.returns-in-None
returns-in-None c = search rules
