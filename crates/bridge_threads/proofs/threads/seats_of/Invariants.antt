-- The ports so far are those of the first clients, by number.
use Rattle.std.proofs.Common.{◌≡◌, ◌≤◌, length}
use Rattle.bridge_threads.specs.RefusedBeats.{client_limits, limits_of_ports}
use Rattle.bridge_threads.proofs.threads.seats_of.Given as goal

abbrev pub invariant-loop-script : goal.invariant-loop-script
invariant-loop-script l =
    (length l.scripts ≤ 256 → limits_of_ports l.ports.items ≡ client_limits l.setup.config l.script-index) × (l.script-index ≤ 255 → l.number ≡ l.script-index)
