use Rattle.std.proofs.Common.{◌≡◌, ◌≤◌, true, None, replicate}
use Rattle.std.specs.Vec.{vec_capacity}
use Rattle.flight_table.proofs.ids.fill.Given as goal

abbrev pub invariant-loop-id : goal.invariant-loop-id
invariant-loop-id l = record {
  holders : l.holders.items ≡ replicate l._id None;
  free : l.free ≡ replicate l._id true;
  room : 16 ≤ vec_capacity l.holders;
}
