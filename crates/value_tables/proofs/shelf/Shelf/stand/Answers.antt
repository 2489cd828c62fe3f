-- The word's place, or the first free one.
use Rattle.std.proofs.Common.{◌≡◌, None, Some, is_none, length, refl, sym, ◌∙◌, rules}
use Rattle.std.specs.List.{position}
use Rattle.value_tables.specs.Shelves.{first_list}
use Rattle.value_tables.proofs.Places.{begun_there, full_there, place_there, position_word, room_by, stands_there}
use Rattle.value_tables.proofs.shelf.Shelf.stand.Goals as goal

pub returns-in-Some-clause-shelf : goal.returns-in-Some-clause-shelf
returns-in-Some-clause-shelf c =
    let inside = c.self.inside in
    let lengths : length inside.words ≡ length inside.lists = c.self.invariant.0 ∙ sym c.self.invariant.1 in
    rw (← c.self.view_is)
    (stands_there (first_list c.args.lost c.args.known) c.args.word inside.words inside.lists c.in-Some.place lengths (sym c.place_of.ensures ∙ c.in-Some.is))

pub returns-in-Some-clause-place : goal.returns-in-Some-clause-place
returns-in-Some-clause-place c =
    let inside = c.self.inside in
    let lengths : length inside.words ≡ length inside.lists = c.self.invariant.0 ∙ sym c.self.invariant.1 in
    rw (← c.self.view_is) (sym (position_word c.args.word inside.words inside.lists lengths ∙ sym c.place_of.ensures ∙ c.in-Some.is))

pub returns-in-Some-clause-room : goal.returns-in-Some-clause-room
returns-in-Some-clause-room c =
    let inside = c.self.inside in
    let lengths : length inside.words ≡ length inside.lists = c.self.invariant.0 ∙ sym c.self.invariant.1 in
    rw (← c.self.view_is)
    (room_by c.args.word inside.words inside.lists (Some c.in-Some.place) (position is_none inside.words) lengths (sym c.place_of.ensures ∙ c.in-Some.is) refl)

pub returns-in_err-place-clause-shelf : goal.returns-in_err-place-clause-shelf
returns-in_err-place-clause-shelf c =
    let inside = c.self.inside in
    let lengths : length inside.words ≡ length inside.lists = c.self.invariant.0 ∙ sym c.self.invariant.1 in
    rw (← c.self.view_is)
    (full_there (first_list c.args.lost c.args.known) c.args.word inside.words inside.lists lengths (sym c.place_of.ensures ∙ c.in_default.is)
    (sym c.free_place.ensures ∙ c.in_err-place.was))

pub returns-in_err-place-clause-place : goal.returns-in_err-place-clause-place
returns-in_err-place-clause-place c =
    let inside = c.self.inside in
    let lengths : length inside.words ≡ length inside.lists = c.self.invariant.0 ∙ sym c.self.invariant.1 in
    let nothing : c.from_residual.result ≡ None = search rules in
    rw (nothing, ← c.self.view_is) (sym (position_word c.args.word inside.words inside.lists lengths ∙ sym c.place_of.ensures ∙ c.in_default.is))

pub returns-in_err-place-clause-room : goal.returns-in_err-place-clause-room
returns-in_err-place-clause-room c =
    let inside = c.self.inside in
    let lengths : length inside.words ≡ length inside.lists = c.self.invariant.0 ∙ sym c.self.invariant.1 in
    let nothing : c.from_residual.result ≡ None = search rules in
    rw (nothing, ← c.self.view_is) (room_by c.args.word inside.words inside.lists None None lengths (sym c.place_of.ensures ∙ c.in_default.is)
    (sym c.free_place.ensures ∙ c.in_err-place.was))

pub returns-clause-shelf : goal.returns-clause-shelf
returns-clause-shelf c =
    let inside = c.self.inside in
    let lengths : length inside.words ≡ length inside.lists = c.self.invariant.0 ∙ sym c.self.invariant.1 in
    rw (← c.self.view_is, c.first_list.ensures)
    (begun_there (first_list c.args.lost c.args.known) c.args.word inside.words inside.lists c.in_ok-place.place lengths
    (sym c.place_of.ensures ∙ c.in_default.is) (sym c.free_place.ensures ∙ c.in_ok-place.was))

pub returns-clause-place : goal.returns-clause-place
returns-clause-place c =
    let inside = c.self.inside in
    let lengths : length inside.words ≡ length inside.lists = c.self.invariant.0 ∙ sym c.self.invariant.1 in
    place_there c.first_list.result c.args.word inside.words inside.lists c.in_ok-place.place lengths (sym c.place_of.ensures ∙ c.in_default.is)
    (sym c.free_place.ensures ∙ c.in_ok-place.was)

pub returns-clause-room : goal.returns-clause-room
returns-clause-room c =
    let inside = c.self.inside in
    let lengths : length inside.words ≡ length inside.lists = c.self.invariant.0 ∙ sym c.self.invariant.1 in
    rw (← c.self.view_is)
    (room_by c.args.word inside.words inside.lists None (Some c.in_ok-place.place) lengths (sym c.place_of.ensures ∙ c.in_default.is)
    (sym c.free_place.ensures ∙ c.in_ok-place.was))
