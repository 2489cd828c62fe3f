-- Those so far are reset.
use Rattle.std.proofs.Common.{◌≡◌, ℕ, map}
use Rattle.scoreboard.specs.Resets.{reset_client}
use Rattle.scoreboard.specs.InsideBoards.{ClientsHaveRoom, client_of}
use Rattle.scoreboard.proofs.held.Changed.{changed_to}
use Rattle.scoreboard.proofs.all_clients.reset.Given as goal

abbrev pub invariant-loop-client : goal.invariant-loop-client
invariant-loop-client l =
    (map client_of l.clients ≡ changed_to client_of reset_client l.fn.clients l.client-index)
    × ((room : ℕ) → ClientsHaveRoom room l.fn.clients → ClientsHaveRoom room l.clients)
