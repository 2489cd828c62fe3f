use Rattle.std.proofs.Common.{rules}
use Rattle.scoreboard.proofs.flights.Flights.is_busy.Goals as goal

pub returns-in-AcceptanceOrder-Some : goal.returns-in-AcceptanceOrder-Some
returns-in-AcceptanceOrder-Some c = search rules
