-- The replies of the clients so far, of which each has at most 257 that aren't whole.
use Rattle.std.proofs.Common.{◌≡◌, ◌*◌, ◌≤◌, take}
use Rattle.std.specs.List.{sum_by}
use Rattle.scoreboard.specs.Flights.{replies_left}
use Rattle.scoreboard.specs.InsideBoards.{flights_of}
use Rattle.scoreboard.proofs.all_clients.outstanding_of.Given as goal

abbrev pub invariant-loop-client : goal.invariant-loop-client
invariant-loop-client l = (l.count ≡ sum_by (λ client. replies_left (flights_of client.flights)) (take l.client-index l.clients)) × (l.count ≤ l.client-index * 257)
