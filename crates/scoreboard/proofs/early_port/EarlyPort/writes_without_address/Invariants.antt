-- The writes so far, with those of the beats that are left, are all of them.
use Rattle.std.proofs.Common.{◌≡◌, ◌+◌, ◌≤◌, false, length}
use Rattle.std.specs.VecDeque.Iter.{deque_iter_rest}
use Rattle.scoreboard.specs.Unanswered.{writes_among}
use Rattle.scoreboard.proofs.early_port.EarlyPort.writes_without_address.Given as goal

abbrev pub invariant-loop-beat : goal.invariant-loop-beat
invariant-loop-beat l =
    (l.count + writes_among l.begun (deque_iter_rest l.beat-iterator) ≡ writes_among false l.self.early)
    × (l.count + length (deque_iter_rest l.beat-iterator) ≤ length l.self.early)
