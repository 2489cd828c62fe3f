-- One more is changed.
use Rattle.std.proofs.Common.{◌≡◌, ◌∙◌, ap, sym}
use Rattle.std.proofs.lemmas.List.Edits.{map_over_more}
use Rattle.byte_values.specs.Words.{changed_word}
use Rattle.value_tables.specs.Shelves.{all_changed_on}
use Rattle.value_tables.proofs.value_table.change_each.Goals as goal

pub loop-shelf-preserved : goal.loop-shelf-preserved
loop-shelf-preserved c =
    let changed = all_changed_on (changed_word c.args.change) in
    let shelves = c.loop-shelf.shelves in
    let shelf = c.shelf-item.result in
    let new : c.change_all.new.self ≡ changed shelf = c.change_all.ensures ∙ ap changed (sym c.shelf-item.is) in
    rw new (map_over_more (all_changed_on (changed_word c.args.change))
    c.args.shelves.now shelves c.loop-shelf.shelf-index shelf c.loop-shelf-test.true c.loop-shelf.invariant c.shelf-item.is)
