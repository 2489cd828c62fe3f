-- Those so far are changed.
use Rattle.std.proofs.Common.{◌≡◌, ◌++◌, drop, map, take}
use Rattle.byte_values.specs.Words.{changed_word}
use Rattle.value_tables.specs.Shelves.{all_changed_on}
use Rattle.value_tables.proofs.value_table.change_each.Given as goal

abbrev pub invariant-loop-shelf : goal.invariant-loop-shelf
invariant-loop-shelf l =
    l.shelves ≡ map (all_changed_on (changed_word l.change)) (take l.shelf-index l.fn.shelves) ++ drop l.shelf-index l.fn.shelves
