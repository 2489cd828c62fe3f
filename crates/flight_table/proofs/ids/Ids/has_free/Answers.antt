use Rattle.std.proofs.Common.{is_none, is_some, ◌∙◌, ap}
use Rattle.std.specs.List.{position}
use Rattle.bus_words.proofs.MappedPlaces.{position_map}
use Rattle.flight_table.proofs.ids.Ids.has_free.Goals as goal

pub returns : goal.returns
returns c =
    c.is_some.ensures ∙ ap is_some (c.first.ensures ∙ ap (position (λ mark. mark)) c.self.invariant.0 ∙ position_map is_none (λ mark. mark) c.self.inside.holders.items ∙ ap (position is_none) c.self.view_is)
