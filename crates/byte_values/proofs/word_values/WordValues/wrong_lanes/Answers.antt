-- What is wrong is what may not be told, and that is blamed rightly.
use Rattle.std.proofs.Common.{◌∙◌, ◌∷◌, not, ap, sym}
use Rattle.std.proofs.lemmas.Bool.{and_parts, not-true}
use Rattle.bus_words.specs.Lanes.{has_lane, lane_byte}
use Rattle.byte_orders.specs.Holdings.{may_be_told}
use Rattle.byte_orders.proofs.RunsRightly.{as_whole, runs_rightly}
use Rattle.byte_orders.proofs.ShortLists.{short_rightly}
use Rattle.byte_values.specs.Parts.{told_by, with_all}
use Rattle.byte_values.specs.Words.{beginning_of, lane_list, lanes_without, wrong_lanes}
use Rattle.byte_values.specs.contracts.word_values.WordValues.{the_view}
use Rattle.byte_values.proofs.SeenLaws.{has_lane-wrong, wrong_without}
use Rattle.byte_values.proofs.word_values.WordValues.wrong_lanes.Goals as goal

pub returns-clause-word : goal.returns-clause-word
returns-clause-word c =
    c.without.ensures
    ∙ ap (λ lanes. lanes_without c.args.lanes lanes)
    (c.told_lanes-told.ensures
    ∙ ap (λ hs. with_all (told_by hs c.args.number c.args.payload) 0 (beginning_of c.self.inside.settled ∷ hs)) c.as_slice.ensures.value)
    ∙ wrong_without (the_view c.self.inside) c.args.number c.args.payload c.args.lanes
    ∙ ap (λ ws. wrong_lanes ws c.args.number c.args.payload c.args.lanes) c.self.view_is

pub returns-clause-told : goal.returns-clause-told
returns-clause-told c =
    λ lane below.
    ap (λ lanes. has_lane lanes lane) (returns-clause-word c) ∙ has_lane-wrong lane below c.args.self.now c.args.number c.args.payload c.args.lanes

pub returns-clause-rightly : goal.returns-clause-rightly
returns-clause-rightly c =
    λ lane below blamed.
    let parts =
    and_parts (has_lane c.args.lanes lane) (not (may_be_told (lane_list lane c.args.self.now) c.args.number (lane_byte c.args.payload lane)))
    (sym (returns-clause-told c lane below) ∙ blamed) in
    short_rightly (lane_list lane c.args.self.now) c.args.number (lane_byte c.args.payload lane)
    (not-true (may_be_told (lane_list lane c.args.self.now) c.args.number (lane_byte c.args.payload lane)) parts.1)

pub returns-clause-runs : goal.returns-clause-runs
returns-clause-runs c =
    λ lane below blamed.
    let parts =
    and_parts (has_lane c.args.lanes lane) (not (may_be_told (lane_list lane c.args.self.now) c.args.number (lane_byte c.args.payload lane)))
    (sym (returns-clause-told c lane below) ∙ blamed) in
    runs_rightly (lane_list lane c.args.self.now) c.args.number (lane_byte c.args.payload lane)
    (not-true (may_be_told (lane_list lane c.args.self.now) c.args.number (lane_byte c.args.payload lane)) parts.1)

pub returns-clause-whole : goal.returns-clause-whole
returns-clause-whole c = λ lane below. as_whole (lane_list lane c.args.self.now) c.args.number (lane_byte c.args.payload lane)
