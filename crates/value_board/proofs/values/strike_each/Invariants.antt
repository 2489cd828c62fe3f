-- Those so far keep it.
use Rattle.std.proofs.Common.{◌≡◌, map}
use Rattle.scoreboard.proofs.held.Changed.{changed_to}
use Rattle.value_board.specs.ClientValues.{ClientNumbers}
use Rattle.value_board.specs.Values.{struck_by}
use Rattle.value_board.proofs.values.strike_each.Given as goal

abbrev pub invariant-loop-client : goal.invariant-loop-client
invariant-loop-client l =
    map (λ (numbers : ClientNumbers). numbers) l.clients ≡ changed_to (λ (numbers : ClientNumbers). numbers) (struck_by l.span) l.fn.clients l.client-index
