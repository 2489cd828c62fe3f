-- So many clients so far have numbers, of which none has begun.
use Rattle.std.proofs.Common.{◌≡◌, replicate}
use Rattle.value_board.specs.ClientValues.{no_numbers}
use Rattle.value_board.proofs.all_values.opening_clients.Given as goal

abbrev pub invariant-loop-client : goal.invariant-loop-client
invariant-loop-client l = l.clients.items ≡ replicate l._client no_numbers
