-- The list at the word's place, if it has one.
use Rattle.std.proofs.Common.{◌≡◌, length, sym, ◌∙◌}
use Rattle.byte_values.specs.Words.{changed_word}
use Rattle.value_tables.proofs.Places.{changed_missing, changed_there, no_list}
use Rattle.value_tables.proofs.shelf.Shelf.change.Goals as goal

pub returns-in_default : goal.returns-in_default
returns-in_default c =
    let inside = c.self.inside in
    let lengths : length inside.words ≡ length inside.lists = c.self.invariant.0 ∙ sym c.self.invariant.1 in
    rw (← c.self.view_is) (changed_missing (changed_word c.args.change) c.args.word inside.words inside.lists lengths
    (sym c.place_of.ensures ∙ c.in_default.is))

pub returns : goal.returns
returns c =
    let inside = c.self.inside in
    let lengths : length inside.words ≡ length inside.lists = c.self.invariant.0 ∙ sym c.self.invariant.1 in
    rw (← c.self.view_is, c.change_at.ensures no_list)
    (changed_there (changed_word c.args.change) c.args.word inside.words inside.lists c.in-Some.place no_list lengths (sym c.place_of.ensures ∙ c.in-Some.is))
