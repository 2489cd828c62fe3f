-- The one that is coming comes last.
use Rattle.std.proofs.Common.{ℕ, Bool, ◌∙◌, ◌++◌, ◌∷◌, [], List, ap, map, subst, sym}
use Rattle.serial_memory.specs.SerialMemory.{doubts_of, rooms_of}
use Rattle.scoreboard.specs.Boards.{client_footprints}
use Rattle.scoreboard.specs.Flights.{Footprint, InFlight, in_flight}
use Rattle.scoreboard.specs.InsideBoards.{HaveRoomToWrite, ClientState, FlightsState, FootprintState, HasRoomToWrite, client_of, flights_of, footprint_of}
use Rattle.scoreboard.specs.Races.{beside_dependent}
use Rattle.scoreboard.proofs.MappedLists.{all_parts}
use Rattle.scoreboard.proofs.held.Others.{beside_dependent-last}
use Rattle.scoreboard.proofs.clients.Client.mark.Goals as goal

abbrev flying : FlightsState → List Footprint
flying flights = map (λ (flight : InFlight). flight.footprint) (in_flight (flights_of flights))

-- those in flight and the one that is coming are on good pages
parts : (rooms : ℕ → Bool) (flights : FlightsState) (coming : FootprintState) → HaveRoomToWrite rooms (flying flights ++ footprint_of coming ∷ [])
    → HaveRoomToWrite rooms (flying flights) × HaveRoomToWrite rooms (footprint_of coming ∷ [])
parts rooms flights coming good = all_parts (HasRoomToWrite rooms) (flying flights) (footprint_of coming ∷ []) good

good : (c : goal.After-mark-arg-1) → HaveRoomToWrite (rooms_of c.args.marks.now) (flying c.self.inside.flights ++ footprint_of c.self.inside.coming ∷ [])
good c = subst (λ (client : ClientState). HaveRoomToWrite (rooms_of c.args.marks.now) (client_footprints (client_of client))) (sym c.self.view_is) c.requires.room

pub mark-requires : goal.mark-requires
mark-requires c = record { room = (parts (rooms_of c.args.marks.now) c.self.inside.flights c.self.inside.coming (good c)).0 }

pub mark_dependent-requires : goal.mark_dependent-requires
mark_dependent-requires c =
    let all = subst (λ (client : ClientState). HaveRoomToWrite (rooms_of c.args.marks.now) (client_footprints (client_of client))) (sym c.self.view_is) c.requires.room in
    record { room = subst (λ rooms. HasRoomToWrite rooms (footprint_of c.self.inside.coming)) (sym c.mark.ensures.rest.rooms) (parts (rooms_of c.args.marks.now) c.self.inside.flights c.self.inside.coming all).1.0 }

pub returns-clause-bytes : goal.returns-clause-bytes
returns-clause-bytes c =
    let marks = doubts_of c.args.marks.now in
    let other = footprint_of c.args.other.now in
    beside_dependent-last marks (doubts_of c.mark.new.marks) (doubts_of c.mark_dependent.new.marks) other
    (flying c.self.inside.flights) (footprint_of c.self.inside.coming) c.mark.ensures.bytes c.mark_dependent.ensures.bytes
    ∙ ap (λ (client : ClientState). beside_dependent marks other (client_footprints (client_of client))) c.self.view_is
