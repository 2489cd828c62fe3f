-- No place is the word's.
use Rattle.value_tables.proofs.Places.{released_there}
use Rattle.value_tables.proofs.shelf.Shelf.release.Goals as goal

pub returns : goal.returns
returns c = rw (c.free_each.ensures, ← c.self.view_is) (released_there c.args.word c.self.inside.words c.self.inside.lists)
