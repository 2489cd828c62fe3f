-- Those so far have given way, whatever their replies are.
use Rattle.std.proofs.Common.{◌≡◌, ℕ, List, map}
use Rattle.tl_messages.specs.declared.DBeat.{DBeat}
use Rattle.scoreboard.specs.InsideBoards.{flight_of, footprint_of}
use Rattle.scoreboard.specs.Races.{flight_beside}
use Rattle.scoreboard.specs.Replies.{DuesHaveRoom, due_flight}
use Rattle.scoreboard.proofs.held.Changed.{changed_to}
use Rattle.scoreboard.proofs.flights.give_way_each.Given as goal

abbrev pub invariant-loop-one : goal.invariant-loop-one
invariant-loop-one l =
    ((replies : ℕ → List DBeat) → map (λ due. flight_of (due_flight replies due)) l.due ≡ changed_to (λ due. flight_of (due_flight replies due)) (flight_beside (footprint_of l.other)) l.fn.due l.one-index)
    × ((room : ℕ) → DuesHaveRoom room l.fn.due → DuesHaveRoom room l.due)
