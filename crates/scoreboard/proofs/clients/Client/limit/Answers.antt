-- The one that is coming comes last.
use Rattle.std.proofs.Common.{◌∙◌, ap, map}
use Rattle.scoreboard.specs.Boards.{client_footprints}
use Rattle.scoreboard.specs.Flights.{Footprint, InFlight, in_flight}
use Rattle.scoreboard.specs.InsideBoards.{ClientState, client_of, flights_of, footprint_of}
use Rattle.scoreboard.specs.Races.{beside, beside_all}
use Rattle.scoreboard.proofs.held.Others.{beside_all-last}
use Rattle.scoreboard.proofs.clients.Client.limit.Goals as goal

pub returns-clause-footprint : goal.returns-clause-footprint
returns-clause-footprint c =
    let old = footprint_of c.args.joined.now.footprint in
    let coming = footprint_of c.self.inside.coming in
    ap (λ (flight : InFlight). flight.footprint) c.give_way.ensures.flight
    ∙ ap (λ (r : Footprint). beside r coming) c.limit.ensures.footprint
    ∙ beside_all-last old (map (λ (flight : InFlight). flight.footprint) (in_flight (flights_of c.self.inside.flights))) coming
    ∙ ap (λ (client : ClientState). beside_all old (client_footprints (client_of client))) c.self.view_is
