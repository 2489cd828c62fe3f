-- The strobes have 256 values, and each gives the lanes that it should.
use Rattle.std.proofs.Common.{ap, ◌∙◌}
use Rattle.bus_words.specs.Lanes.{lane_byte}
use Rattle.data_unit.proofs.Strobes.{spread, lane_byte-spread}
use Rattle.data_unit.proofs.words.widened.Goals as goal

pub returns : goal.returns
returns c = λ lane below. ap (λ strobes. lane_byte (spread strobes) lane) c.from.ensures ∙ lane_byte-spread c.args.strobes lane c.ranges.strobes.fits below
