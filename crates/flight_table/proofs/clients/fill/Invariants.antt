use Rattle.std.proofs.Common.{◌≡◌, ◌≤◌, [], replicate}
use Rattle.std.specs.Vec.{vec_capacity}
use Rattle.flight_table.proofs.clients.fill.Given as goal

abbrev pub invariant-loop-client : goal.invariant-loop-client
invariant-loop-client l = record {
  clients : l.clients.items ≡ replicate l._client [];
  room : 8 ≤ vec_capacity l.clients;
}
