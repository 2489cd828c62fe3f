-- Where none has begun it is the one that is due.
use Rattle.std.proofs.Common.{◌∙◌, map, sym}
use Rattle.scoreboard.specs.InsideBoards.{flight_of}
use Rattle.scoreboard.proofs.held.Sources.{begun_due, begun_still}
use Rattle.scoreboard.proofs.flights.Flights.begin.Goals as goal

pub returns-then-has_begun-clause-flights : goal.returns-then-has_begun-clause-flights
returns-then-has_begun-clause-flights c = begun_still (map flight_of c.args.self.now.due) c.args.self.now.begun c.args.source (sym c.has_begun.ensures ∙ c.if-has_begun.true)

pub returns-clause-flights : goal.returns-clause-flights
returns-clause-flights c =
    c.begin_due.ensures.flights ∙ begun_due (map flight_of c.args.self.now.due) c.args.self.now.begun c.args.source (sym c.has_begun.ensures ∙ c.if-has_begun.false)
