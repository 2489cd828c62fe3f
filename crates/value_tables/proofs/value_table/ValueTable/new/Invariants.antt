-- So many shelves are made, and there is room for all.
use Rattle.std.proofs.Common.{◌≡◌, ◌≤◌, replicate}
use Rattle.std.specs.Vec.{vec_capacity}
use Rattle.value_tables.specs.Shelves.{empty_shelf}
use Rattle.value_tables.proofs.value_table.ValueTable.new.Given as goal

abbrev pub invariant-loop-shelf : goal.invariant-loop-shelf
invariant-loop-shelf l = record {
  shelves : l.shelves.items ≡ replicate l._shelf empty_shelf;
  room : 256 ≤ vec_capacity l.shelves;
}
