-- All lanes have settled.
use Rattle.std.proofs.Common.{◌∙◌, ap}
use Rattle.byte_values.specs.Words.{lane_list}
use Rattle.byte_values.proofs.WordLaws.{lane_new}
use Rattle.byte_values.proofs.word_values.WordValues.new.Goals as goal

pub returns-clause-lanes : goal.returns-clause-lanes
returns-clause-lanes c =
    λ lane below.
    ap (λ hs. lane_list lane (record { settled = record { value = c.args.known.value; known = c.args.known.lanes; lanes = 255 }; held = hs })) c.new.ensures
    ∙ lane_new lane below c.args.known
