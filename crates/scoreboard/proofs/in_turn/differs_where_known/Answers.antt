-- It goes by the eight lanes of the mask.
use Rattle.std.proofs.Common.{not, ap, ◌∙◌}
use Rattle.bus_words.specs.Lanes.{has_lane}
use Rattle.scoreboard.specs.InTurn.{is_unknown_in}
use Rattle.scoreboard.specs.InsideBoards.{footprint_of}
use Rattle.scoreboard.proofs.acceptance_order.KnownLanes.{agrees_same}
use Rattle.scoreboard.proofs.in_turn.differs_where_known.Goals as goal

pub returns : goal.returns
returns c =
    ap not
    (c.agrees_where_known.ensures
    ∙ agrees_same c.args.due.now c.args.beat.now (has_lane c.unknown_lanes-unknown.result) (is_unknown_in (footprint_of c.args.footprint.now) c.args.k c.args.due.now) c.unknown_lanes-unknown.ensures)
