-- None is determined after the last word.
use Rattle.std.proofs.Common.{◌==◌, ◌&&◌, Bool, not, ap, arith, sym, rules}
use Rattle.bus_words.specs.Lanes.{lane_byte}
use Rattle.scoreboard.proofs.held.FootprintBytes.{past_words}
use Rattle.scoreboard.proofs.in_flight.differs_in.Goals as goal

pub returns-then-from-words : goal.returns-then-from-words
returns-then-from-words c =
    sym (ap (λ (b : Bool). b && not (lane_byte c.args.due c.args.lane == lane_byte c.args.payload c.args.lane))
    (past_words c.args.footprint.now c.args.k c.args.lane c.words.ensures.range c.requires (omega arith)))

pub returns-then-has_lane : goal.returns-then-has_lane
returns-then-has_lane c = search rules
