-- The word has a place, or one is free.
use Rattle.std.proofs.Common.{◌≡◌, ◌||◌, Bool, is_none, is_some, length, ap, sym, ◌∙◌}
use Rattle.std.specs.List.{position}
use Rattle.value_tables.proofs.Places.{room_there}
use Rattle.value_tables.proofs.shelf.Shelf.has_room.Goals as goal

pub returns-then-is_some : goal.returns-then-is_some
returns-then-is_some c =
    let inside = c.self.inside in
    let lengths : length inside.words ≡ length inside.lists = c.self.invariant.0 ∙ sym c.self.invariant.1 in
    rw (← c.self.view_is)
    (c.if-is_some.true
    ∙ sym (room_there c.args.word inside.words inside.lists lengths
    ∙ ap (λ (b : Bool). b || is_some (position is_none inside.words)) (ap is_some (sym c.place_of.ensures) ∙ sym c.is_some.ensures ∙ c.if-is_some.true)))

pub returns-else-is_some : goal.returns-else-is_some
returns-else-is_some c =
    let inside = c.self.inside in
    let lengths : length inside.words ≡ length inside.lists = c.self.invariant.0 ∙ sym c.self.invariant.1 in
    rw (← c.self.view_is)
    (c.is_some-else-is_some.ensures
    ∙ ap is_some c.free_place.ensures
    ∙ sym (room_there c.args.word inside.words inside.lists lengths
    ∙ ap (λ (b : Bool). b || is_some (position is_none inside.words)) (ap is_some (sym c.place_of.ensures) ∙ sym c.is_some.ensures ∙ c.if-is_some.false)))
