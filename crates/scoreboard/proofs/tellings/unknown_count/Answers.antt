-- They are the lanes of the mask.
use Rattle.std.proofs.Common.{◌∙◌}
use Rattle.bus_words.specs.Lanes.{has_lane}
use Rattle.scoreboard.specs.InTurn.{is_unknown_in}
use Rattle.scoreboard.specs.InsideBoards.{footprint_of}
use Rattle.scoreboard.proofs.held.ToldLanes.{lanes_same}
use Rattle.scoreboard.proofs.tellings.unknown_count.Goals as goal

pub returns : goal.returns
returns c =
    c.lanes_in.ensures.value
    ∙ lanes_same (has_lane c.unknown_lanes.result) (is_unknown_in (footprint_of c.args.footprint.now) c.args.k c.args.due.now) c.unknown_lanes.ensures
