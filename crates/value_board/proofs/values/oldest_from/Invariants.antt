-- The others may be older still.
use Rattle.std.proofs.Common.{◌≡◌, drop}
use Rattle.value_board.specs.Values.{oldest_from}
use Rattle.value_board.proofs.values.oldest_from.Given as goal

abbrev pub invariant-loop-client : goal.invariant-loop-client
invariant-loop-client l =
    oldest_from l.oldest (drop l.client-index l.clients) ≡ oldest_from l.fn.number l.clients
