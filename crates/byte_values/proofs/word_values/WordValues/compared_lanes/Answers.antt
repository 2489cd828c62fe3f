-- What is compared is what nothing unknown may be found in.
use Rattle.std.proofs.Common.{◌∙◌, ◌∷◌, ap}
use Rattle.bus_words.specs.Lanes.{has_lane}
use Rattle.byte_values.specs.Parts.{unknown_by, with_all}
use Rattle.byte_values.specs.Words.{beginning_of, compared_lanes, lanes_without}
use Rattle.byte_values.specs.contracts.word_values.WordValues.{the_view}
use Rattle.byte_values.proofs.SeenLaws.{compared_without, has_lane-compared}
use Rattle.byte_values.proofs.word_values.WordValues.compared_lanes.Goals as goal

pub returns-clause-word : goal.returns-clause-word
returns-clause-word c =
    c.without.ensures
    ∙ ap (λ lanes. lanes_without c.args.lanes lanes)
    (c.unknown_lanes-unknown.ensures
    ∙ ap (λ hs. with_all (unknown_by hs c.args.number) 0 (beginning_of c.self.inside.settled ∷ hs)) c.as_slice.ensures.value)
    ∙ compared_without (the_view c.self.inside) c.args.number c.args.lanes
    ∙ ap (λ ws. compared_lanes ws c.args.number c.args.lanes) c.self.view_is

pub returns-clause-lanes : goal.returns-clause-lanes
returns-clause-lanes c =
    λ lane below. ap (λ lanes. has_lane lanes lane) (returns-clause-word c) ∙ has_lane-compared lane below c.args.self.now c.args.number c.args.lanes
