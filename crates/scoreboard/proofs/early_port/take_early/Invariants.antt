-- What was wrong so far goes before what is wrong with the rest of the early beats.
use Rattle.std.proofs.Common.{◌≡◌, length}
use Rattle.std.specs.VecDeque.{deque_capacity}
use Rattle.scoreboard.specs.AxiPorts.{taking, wrong_first}
use Rattle.scoreboard.proofs.early_port.take_early.Given as goal

abbrev pub invariant-loop-beat : goal.invariant-loop-beat
invariant-loop-beat l = record {
  taken : wrong_first l.first (taking l.axi.port l.axi.open_bursts l.early.items) ≡ taking l.initial.axi.port l.initial.axi.open_bursts l.initial.early.items;
  limits : l.axi.port ≡ l.initial.axi.port;
  capacity : deque_capacity l.early ≡ deque_capacity l.initial.early;
}

abbrev pub decreases-loop-beat : goal.decreases-loop-beat
decreases-loop-beat l = length l.early.items
