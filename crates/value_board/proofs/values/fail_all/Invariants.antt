-- Those of the other clients are still to fail.
use Rattle.std.proofs.Common.{◌≡◌, drop}
use Rattle.value_memory.specs.States.{contents_of}
use Rattle.value_memory.specs.ValueMemory.{KeepsCounts}
use Rattle.value_board.specs.Values.{failed_all}
use Rattle.value_board.proofs.values.fail_all.Given as goal

abbrev pub invariant-loop-client : goal.invariant-loop-client
invariant-loop-client l =
    (failed_all l.span (drop l.client-index l.clients) (contents_of l.memory) ≡ failed_all l.span l.clients (contents_of l.fn.memory)) × KeepsCounts l.fn.memory l.memory
