-- So many boxes so far, and the room stays.
use Rattle.std.proofs.Common.{◌≡◌, ◌≤◌}
use Rattle.std.specs.Vec.{vec_capacity, vec_len}
use Rattle.bridge_core.proofs.bridge.full_stock.Given as goal

abbrev pub invariant-loop : goal.invariant-loop
invariant-loop l = (vec_len l.stock ≡ l.counter) × (l.count ≤ vec_capacity l.stock)
