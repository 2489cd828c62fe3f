-- No whole request stands.
use Rattle.std.proofs.Common.{◌≡◌, None}
use Rattle.bridge_threads.proofs.ports.room_for.Given as goal

abbrev pub invariant-loop-beat : goal.invariant-loop-beat
invariant-loop-beat l = (l.port.whole ≡ None) × (l.port.limits ≡ l.fn.port.limits)
