-- Those so far are changed.
use Rattle.std.proofs.Common.{◌≡◌, ◌++◌, drop, map, take}
use Rattle.byte_values.specs.Words.{changed_word}
use Rattle.value_tables.proofs.shelf.change_each.Given as goal

abbrev pub invariant-loop-list : goal.invariant-loop-list
invariant-loop-list l =
    l.lists ≡ map (changed_word l.change) (take l.list-index l.fn.lists) ++ drop l.list-index l.fn.lists
