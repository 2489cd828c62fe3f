-- Those so far have given way.
use Rattle.std.proofs.Common.{◌≡◌, ℕ, map}
use Rattle.scoreboard.specs.Boards.{client_beside}
use Rattle.scoreboard.specs.InsideBoards.{ClientsHaveRoom, client_of, footprint_of}
use Rattle.scoreboard.proofs.held.Changed.{changed_to}
use Rattle.scoreboard.proofs.all_clients.give_way.Given as goal

abbrev pub invariant-loop-client : goal.invariant-loop-client
invariant-loop-client l =
    (map client_of l.clients ≡ changed_to client_of (client_beside (footprint_of l.other)) l.fn.clients l.client-index)
    × ((room : ℕ) → ClientsHaveRoom room l.fn.clients → ClientsHaveRoom room l.clients)
