-- One more is changed.
use Rattle.std.proofs.Common.{◌≡◌, ◌∙◌, ap, sym}
use Rattle.std.proofs.lemmas.List.Edits.{map_over_more}
use Rattle.byte_values.specs.Words.{changed_word}
use Rattle.value_tables.proofs.shelf.change_each.Goals as goal

pub loop-list-preserved : goal.loop-list-preserved
loop-list-preserved c =
    let lists = c.loop-list.lists in
    let list = c.list-item.result in
    let new : c.apply.new.self ≡ changed_word c.args.change list = c.apply.ensures.word ∙ ap (changed_word c.args.change) (sym c.list-item.is) in
    rw new (map_over_more (changed_word c.args.change)
    c.args.lists.now lists c.loop-list.list-index list c.loop-list-test.true c.loop-list.invariant c.list-item.is)
