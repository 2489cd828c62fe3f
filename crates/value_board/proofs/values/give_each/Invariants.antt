-- Each word so far has been given what the request gives to it.
use Rattle.std.proofs.Common.{◌≡◌}
use Rattle.value_memory.specs.States.{after_each, contents_of}
use Rattle.value_memory.specs.ValueMemory.{KeepsCounts}
use Rattle.value_board.specs.Values.{given_place}
use Rattle.value_board.proofs.values.give_each.Given as goal

abbrev pub invariant-loop-k : goal.invariant-loop-k
invariant-loop-k l =
    (contents_of l.memory ≡ after_each (given_place l.giving l.number l.range l.request l.found.hidden) l.k (contents_of l.fn.memory)) × KeepsCounts l.fn.memory l.memory
