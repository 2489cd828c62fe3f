-- The clients so far are those of the first numbers.
use Rattle.std.proofs.Common.{◌≡◌, map}
use Rattle.std.specs.List.{range_with_len}
use Rattle.score_setup.specs.ScoreSetups.{limits_of}
use Rattle.scoreboard.specs.Boards.{opening_client}
use Rattle.scoreboard.specs.InsideBoards.{ClientsHaveRoom, client_of}
use Rattle.scoreboard.proofs.all_clients.opening_clients.Given as goal

abbrev pub invariant-loop-client : goal.invariant-loop-client
invariant-loop-client l =
    (map client_of l.clients.items ≡ map (opening_client (limits_of l.config)) (range_with_len 0 l.client)) × ClientsHaveRoom l.room l.clients.items
