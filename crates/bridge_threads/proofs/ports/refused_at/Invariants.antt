-- The port took the beats so far, and no whole request stands.
use Rattle.std.proofs.Common.{◌≡◌, None, Some, take}
use Rattle.bridge_threads.specs.RefusedBeats.{front_after}
use Rattle.bridge_threads.proofs.ports.refused_at.Given as goal

abbrev pub invariant-loop-beat : goal.invariant-loop-beat
invariant-loop-beat l =
    (l.port.whole ≡ None) × (l.port.limits ≡ l.fn.port.limits) × (front_after l.port.limits None (take l.beat-index (take l.index l.script)) ≡ Some l.port.front)
