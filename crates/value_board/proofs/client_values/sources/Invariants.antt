-- So many sources have a place, and there is room for all.
use Rattle.std.proofs.Common.{◌≡◌, ◌≤◌, replicate}
use Rattle.std.specs.Vec.{vec_capacity}
use Rattle.value_board.specs.ClientValues.{never_asked}
use Rattle.value_board.proofs.client_values.sources.Given as goal

abbrev pub invariant-loop-source : goal.invariant-loop-source
invariant-loop-source l = record {
  made : l.made.items ≡ replicate l._source never_asked;
  room : 256 ≤ vec_capacity l.made;
}
