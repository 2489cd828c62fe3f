-- A fault that is kept for later is that the replay differs; the ports keep their limits; what is told of the workers from here on is told of all.
use Rattle.std.proofs.Common.{◌≡◌, true, drop, None, Option}
use Rattle.std.specs.Prelude.{IfSome}
use Rattle.bridge_threads.specs.Faults.{IsTold, is_mismatch}
use Rattle.bridge_threads.specs.RefusedBeats.{limits_of_ports}
use Rattle.bridge_threads.specs.declared.threads.Fault.{Fault}
use Rattle.bridge_threads.proofs.threads.told.Given as goal

abbrev pub invariant-loop-worker : goal.invariant-loop-worker
invariant-loop-worker l =
    IfSome l.late (λ fault. is_mismatch fault ≡ true) × (limits_of_ports l.ports.items ≡ limits_of_ports l.fn.ports.items)
    × ((told : Option Fault) → IsTold l.full l.worker (drop l.worker l.faults) l.late told → IsTold l.full 0 l.faults None told)
