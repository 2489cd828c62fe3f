-- So much room for live requests, each over the bus.
use Rattle.std.proofs.Common.{◌≡◌, ◌≤◌}
use Rattle.std.specs.List.{AllByRecursion}
use Rattle.std.specs.Vec.{vec_capacity, vec_len}
use Rattle.bridge_core.specs.Inside.{HeldRequest}
use Rattle.bridge_core.proofs.request_table.room_for_all.Given as goal

abbrev pub invariant-loop : goal.invariant-loop
invariant-loop l = (vec_len l.held ≡ l.counter) × (64 ≤ vec_capacity l.held) × AllByRecursion (λ (held : HeldRequest). held.bus_bytes ≡ l.bus_bytes) l.held.items
