-- A lane that isn't known is a crowd's.
use Rattle.std.proofs.Common.{◌≡◌, ◌∙◌, [], ◌∷◌, ◌++◌, ap, ap₂, filter}
use Rattle.byte_values.specs.Words.{crowd_of, gives_lanes, lane_list, lost_word}
use Rattle.byte_values.proofs.WordLaws.{lane_lost}
use Rattle.byte_values.proofs.word_values.WordValues.with_lost.Goals as goal

pub returns-clause-lanes : goal.returns-clause-lanes
returns-clause-lanes c =
    let items : c.keep_if_given.new.left.items ≡ (lost_word c.args.known c.args.lost).held =
    c.keep_if_given.ensures.items ∙ ap₂ (λ hs w. hs ++ filter gives_lanes (w ∷ [])) c.new-held.ensures
    (c.crowd.ensures ∙ ap (λ lanes. crowd_of c.args.lost lanes) c.without.ensures) in
    λ lane below.
    ap
    (λ hs. lane_list lane (record { settled = record { value = c.args.known.value; known = c.args.known.lanes; lanes = c.args.known.lanes }; held = hs })) items
    ∙ lane_lost lane below c.args.known c.args.lost
