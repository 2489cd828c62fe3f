-- The list at the word's place, where it has one then.
use Rattle.std.proofs.Common.{◌≡◌, Some, is_some, length, option_map, ap, sym, ◌∙◌, arith}
use Rattle.std.specs.List.{position}
use Rattle.bus_words.proofs.FirstPlaces.{change_first-none, position_is_first}
use Rattle.byte_values.specs.Words.{begun_word}
use Rattle.value_tables.specs.InsideShelves.{is_word}
use Rattle.value_tables.specs.Shelves.{changed_on, is_of, with_held}
use Rattle.value_tables.proofs.Places.{changed_there, length_places, no_list, position_word}
use Rattle.value_tables.proofs.shelf.Shelf.begin.Goals as goal

pub returns-in_default-clause-shelf : goal.returns-in_default-clause-shelf
returns-in_default-clause-shelf c =
    let word = c.args.word in
    let begun = begun_word c.args.number c.args.lanes in
    sym (change_first-none (is_of word) (option_map (with_held begun)) c.stand.new.self (sym c.stand.ensures.place ∙ c.in_default.is))
    ∙ ap (changed_on begun word) c.stand.ensures.shelf

pub returns-in_default-clause-room : goal.returns-in_default-clause-room
returns-in_default-clause-room c = ap is_some (sym c.in_default.is) ∙ c.stand.ensures.room

pub begin_at-requires : goal.begin_at-requires
begin_at-requires c =
    let inside = c.self.inside in
    let lengths : length inside.words ≡ length inside.lists = c.self.invariant.0 ∙ sym c.self.invariant.1 in
    let at = position_is_first (is_of c.args.word) c.stand.new.self c.in-Some.place (sym c.stand.ensures.place ∙ c.in-Some.is) in
    let many : length c.stand.new.self ≡ length inside.words = ap length (sym c.self.view_is) ∙ length_places inside.words inside.lists lengths in
    omega (arith, at.within, many, lengths)

pub returns-clause-shelf : goal.returns-clause-shelf
returns-clause-shelf c =
    let inside = c.self.inside in
    let word = c.args.word in
    let lengths : length inside.words ≡ length inside.lists = c.self.invariant.0 ∙ sym c.self.invariant.1 in
    let found : position (is_word word) inside.words ≡ Some c.in-Some.place =
    sym (position_word word inside.words inside.lists lengths) ∙ ap (position (is_of word)) c.self.view_is ∙ sym c.stand.ensures.place ∙ c.in-Some.is in
    rw (c.begin_at.ensures no_list, ← c.stand.ensures.shelf, ← c.self.view_is)
    (changed_there (begun_word c.args.number c.args.lanes) word inside.words inside.lists c.in-Some.place no_list lengths found)

pub returns-clause-room : goal.returns-clause-room
returns-clause-room c = ap is_some (sym c.in-Some.is) ∙ c.stand.ensures.room
