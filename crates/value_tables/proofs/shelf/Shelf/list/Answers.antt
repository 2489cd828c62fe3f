-- The list at the word's place, if it has one.
use Rattle.std.proofs.Common.{◌≡◌, None, length, sym, ◌∙◌, rules}
use Rattle.value_tables.proofs.Places.{list_missing, list_there}
use Rattle.value_tables.proofs.shelf.Shelf.list.Goals as goal

pub returns-in_err-place : goal.returns-in_err-place
returns-in_err-place c =
    let inside = c.self.inside in
    let lengths : length inside.words ≡ length inside.lists = c.self.invariant.0 ∙ sym c.self.invariant.1 in
    let nothing : c.from_residual.result ≡ None = search rules in
    rw (nothing, ← c.self.view_is) (list_missing c.args.word inside.words inside.lists lengths (sym c.place_of.ensures ∙ c.in_err-place.was))

pub returns : goal.returns
returns c =
    let inside = c.self.inside in
    let lengths : length inside.words ≡ length inside.lists = c.self.invariant.0 ∙ sym c.self.invariant.1 in
    rw (← c.self.view_is)
    (list_there c.args.word inside.words inside.lists c.in_ok-place.place c.index-self-place.result lengths (sym c.place_of.ensures ∙ c.in_ok-place.was))
