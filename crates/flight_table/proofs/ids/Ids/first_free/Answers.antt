use Rattle.std.proofs.Common.{is_none, sym, ◌∙◌, ap}
use Rattle.std.specs.List.{position}
use Rattle.bus_words.proofs.MappedPlaces.{position_map}
use Rattle.flight_table.proofs.ids.Ids.first_free.Goals as goal

pub returns-in-Some : goal.returns-in-Some
returns-in-Some c =
    sym c.in-Some.is ∙ c.first.ensures ∙ ap (position (λ mark. mark)) c.self.invariant.0 ∙ position_map is_none (λ mark. mark) c.self.inside.holders.items ∙ ap (position is_none) c.self.view_is

pub returns-in-None : goal.returns-in-None
returns-in-None c =
    sym c.in-None.is ∙ c.first.ensures ∙ ap (position (λ mark. mark)) c.self.invariant.0 ∙ position_map is_none (λ mark. mark) c.self.inside.holders.items ∙ ap (position is_none) c.self.view_is
