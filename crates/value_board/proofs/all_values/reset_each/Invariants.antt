-- Those so far are reset.
use Rattle.std.proofs.Common.{◌≡◌, map}
use Rattle.scoreboard.proofs.held.Changed.{changed_to}
use Rattle.value_board.specs.ClientValues.{ClientNumbers, reset_numbers}
use Rattle.value_board.proofs.all_values.reset_each.Given as goal

abbrev pub invariant-loop-client : goal.invariant-loop-client
invariant-loop-client l =
    map (λ (numbers : ClientNumbers). numbers) l.clients ≡ changed_to (λ (numbers : ClientNumbers). numbers) reset_numbers l.fn.clients l.client-index
