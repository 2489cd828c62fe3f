-- What is counted so far and what is still to be counted make all.
use Rattle.std.proofs.Common.{◌≡◌, ◌+◌, ◌*◌, ◌≤◌, drop, length}
use Rattle.std.specs.Prelude.{sum_by}
use Rattle.subordinate.specs.FreeMemory.{performed_waiting_in}
use Rattle.subordinate.proofs.device.Device.performed_waiting.Given as goal

abbrev pub invariant-loop-burst : goal.invariant-loop-burst
invariant-loop-burst l =
    (l.count + sum_by (λ p. performed_waiting_in p) (drop l.burst-index l.burst-items) ≡ sum_by (λ p. performed_waiting_in p) l.burst-items) × (l.count ≤ 256 * l.burst-index) × (length l.burst-items ≤ 128)
