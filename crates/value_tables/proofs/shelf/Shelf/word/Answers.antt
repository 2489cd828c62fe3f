-- The word of that place, if there is such a place.
use Rattle.std.proofs.Common.{◌≡◌, ◌≤◌, ◌<◌, length, sym, ◌∙◌, arith}
use Rattle.value_tables.proofs.Places.{word_past, word_there}
use Rattle.value_tables.proofs.shelf.Shelf.word.Goals as goal

pub returns-then-place-lt-PLACES : goal.returns-then-place-lt-PLACES
returns-then-place-lt-PLACES c =
    let inside = c.self.inside in
    let lengths : length inside.words ≡ length inside.lists = c.self.invariant.0 ∙ sym c.self.invariant.1 in
    let within : c.args.place < length inside.words = omega (arith, c.self.invariant.0, c.if-place-lt-PLACES.true) in
    rw (← c.self.view_is) (word_there inside.words inside.lists c.args.place lengths within)

pub returns-else-place-lt-PLACES : goal.returns-else-place-lt-PLACES
returns-else-place-lt-PLACES c =
    let inside = c.self.inside in
    let past : length inside.words ≤ c.args.place = omega (arith, c.self.invariant.0, c.if-place-lt-PLACES.false) in
    rw (← c.self.view_is) (word_past inside.words inside.lists c.args.place past)
