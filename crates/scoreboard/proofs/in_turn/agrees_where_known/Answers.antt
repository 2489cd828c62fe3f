-- A lane that differs is one of the eight.
use Rattle.std.proofs.Common.{arith, refl}
use Rattle.bus_words.specs.Lanes.{has_lane}
use Rattle.bus_words.proofs.Ranges.{none_passes, one_passes}
use Rattle.scoreboard.specs.InTurn.{differs_known}
use Rattle.std.proofs.Common.{ap, sym, ◌∙◌}
use Rattle.scoreboard.proofs.acceptance_order.KnownLanes.{some_lane}
use Rattle.scoreboard.proofs.in_turn.agrees_where_known.Goals as goal

pub returns-then-differs_known : goal.returns-then-differs_known
returns-then-differs_known c =
    let test = differs_known (has_lane c.args.unknown) c.args.due.now.payload c.args.beat.now.payload in
    grind (arith, one_passes test 0 8 c.loop-lane.lane c.loop-lane-test.true (ap test (omega arith) ∙ sym c.differs_known.ensures ∙ c.if-differs_known.true))

pub returns : goal.returns
returns c =
    let test = differs_known (has_lane c.args.unknown) c.args.due.now.payload c.args.beat.now.payload in
    let none = none_passes test 0 8 (λ k below. ap test (omega arith) ∙ c.loop-lane.invariant k (omega (arith, below))) in
    rw (some_lane c.args.unknown (omega arith) c.if-unknown-eq0.false, none) refl
