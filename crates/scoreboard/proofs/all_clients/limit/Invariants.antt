-- What those so far may write isn't determined of it.
use Rattle.std.proofs.Common.{◌≡◌, length, map, take}
use Rattle.scoreboard.specs.Boards.{footprints_of}
use Rattle.scoreboard.specs.InsideBoards.{client_of, footprint_of}
use Rattle.scoreboard.specs.Races.{beside_all}
use Rattle.scoreboard.proofs.all_clients.limit.Given as goal

abbrev pub invariant-loop-client : goal.invariant-loop-client
invariant-loop-client l =
    (footprint_of l.joined.footprint ≡ beside_all (footprint_of l.fn.joined.footprint) (footprints_of (map client_of (take l.client-index l.clients))))
    × (length l.joined.footprint.determined ≡ length l.fn.joined.footprint.determined)
