-- The lists at all places.
use Rattle.byte_values.specs.Words.{changed_word}
use Rattle.value_tables.proofs.Places.{all_changed_there}
use Rattle.value_tables.proofs.shelf.Shelf.change_all.Goals as goal

pub returns : goal.returns
returns c = rw (c.change_each.ensures, ← c.self.view_is) (all_changed_there (changed_word c.args.change) c.self.inside.words c.self.inside.lists)
