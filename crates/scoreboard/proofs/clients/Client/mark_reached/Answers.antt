-- The one that is coming comes last.
use Rattle.std.proofs.Common.{ℕ, Bool, ◌∙◌, ◌++◌, ◌∷◌, [], List, ap, map, subst, sym}
use Rattle.serial_memory.specs.SerialMemory.{doubts_of, rooms_of}
use Rattle.scoreboard.specs.Boards.{client_footprints}
use Rattle.scoreboard.specs.FailedBursts.{after_reached}
use Rattle.scoreboard.specs.Flights.{Footprint, InFlight, in_flight}
use Rattle.scoreboard.specs.InsideBoards.{HaveRoomToWrite, ClientState, FlightsState, FootprintState, HasRoomToWrite, client_of, flights_of, footprint_of}
use Rattle.scoreboard.proofs.MappedLists.{all_parts}
use Rattle.scoreboard.proofs.held.FailedResponses.{after_reached-last}
use Rattle.scoreboard.proofs.clients.Client.mark_reached.Goals as goal

abbrev flying : FlightsState → List Footprint
flying flights = map (λ (flight : InFlight). flight.footprint) (in_flight (flights_of flights))

-- those in flight and the one that is coming are on good pages
parts : (rooms : ℕ → Bool) (flights : FlightsState) (coming : FootprintState) → HaveRoomToWrite rooms (flying flights ++ footprint_of coming ∷ [])
    → HaveRoomToWrite rooms (flying flights) × HaveRoomToWrite rooms (footprint_of coming ∷ [])
parts rooms flights coming good = all_parts (HasRoomToWrite rooms) (flying flights) (footprint_of coming ∷ []) good

good : (c : goal.After-mark_reached-arg-1) → HaveRoomToWrite (rooms_of c.args.marks.now) (flying c.self.inside.flights ++ footprint_of c.self.inside.coming ∷ [])
good c = subst (λ (client : ClientState). HaveRoomToWrite (rooms_of c.args.marks.now) (client_footprints (client_of client))) (sym c.self.view_is) c.requires.room

pub mark_reached-requires : goal.mark_reached-requires
mark_reached-requires c = record { room = (parts (rooms_of c.args.marks.now) c.self.inside.flights c.self.inside.coming (good c)).0 }

pub mark_reached-requires-2 : goal.mark_reached-requires-2
mark_reached-requires-2 c =
    let all = subst (λ (client : ClientState). HaveRoomToWrite (rooms_of c.args.marks.now) (client_footprints (client_of client))) (sym c.self.view_is) c.requires.room in
    record { room = subst (λ rooms. HasRoomToWrite rooms (footprint_of c.self.inside.coming)) (sym c.mark_reached.ensures.rest.rooms) (parts (rooms_of c.args.marks.now) c.self.inside.flights c.self.inside.coming all).1.0 }

pub returns-clause-bytes : goal.returns-clause-bytes
returns-clause-bytes c =
    let marks = doubts_of c.args.marks.now in
    let reach = c.args.reach in
    after_reached-last marks (doubts_of c.mark_reached.new.marks) (doubts_of c.mark_reached-2.new.marks) reach
    (flying c.self.inside.flights) (footprint_of c.self.inside.coming) c.mark_reached.ensures.bytes c.mark_reached-2.ensures.bytes
    ∙ ap (λ (client : ClientState). after_reached marks reach (client_footprints (client_of client))) c.self.view_is
