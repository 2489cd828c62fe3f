-- Those of whose reply no beat came go before the one whose reply has begun.
use Rattle.std.proofs.Common.{◌≡◌, ◌<◌, ◌≤◌, ◌+◌, ◌∙◌, ℕ, List, Option, Some, ap, ap₂, arith, length, map, option_map, refl, slice_get}
use Rattle.std.proofs.lemmas.List.{length-map}
use Rattle.std.proofs.lemmas.Option.{slice_get-map, slice_get_read}
use Rattle.scoreboard.specs.Flights.{InFlight, in_flight}
use Rattle.scoreboard.specs.InsideBoards.{FlightState, FlightsState, flight_of, flights_of}
use Rattle.scoreboard.specs.Replies.{due_flight, if_begun, reply_of}
use Rattle.scoreboard.proofs.PlacesInLists.{at_more, behind_all, behind_more, in_front}
use Rattle.scoreboard.proofs.flights.Flights.source_at.Goals as goal

-- what is at a place of a client's requests in flight
abbrev at_place : FlightsState → ℕ → Option ℕ
at_place flights place = slice_get (map (λ (flight : InFlight). flight.source) (in_flight (flights_of flights))) place

pub returns-then-place-due : goal.returns-then-place-due
returns-then-place-due c =
    let dues = c.self.inside.due.items in
    let held = due_flight (reply_of c.self.inside.replies) in
    let within : c.args.place < length dues = omega (arith, c.if-place-due.true, c.len-due.ensures) in
    let there : slice_get dues c.args.place ≡ Some c.index.result.now = slice_get_read dues (length dues) c.args.place c.index.result.now refl within c.index.ensures in
    in_front (λ (flight : InFlight). flight.source) (map flight_of (map held dues)) (option_map flight_of (if_begun c.self.inside.has_begun c.self.inside.begun)) c.args.place (flight_of (held c.index.result.now))
    (slice_get-map flight_of (map held dues) c.args.place ∙ ap (option_map flight_of) (slice_get-map held dues c.args.place ∙ ap (option_map held) there))
    ∙ ap (λ (flights : FlightsState). at_place flights c.args.place) c.self.view_is

pub returns-in_default : goal.returns-in_default
returns-in_default c =
    let dues = c.self.inside.due.items in
    let due = map (due_flight (reply_of c.self.inside.replies)) dues in
    let past : length (map flight_of due) ≤ c.args.place = omega (arith, length-map due flight_of, length-map dues (due_flight (reply_of c.self.inside.replies)), c.if-place-due.false, c.len-due.ensures) in
    behind_all (λ (flight : InFlight). flight.source) (map flight_of due) c.args.place past
    ∙ ap₂ (λ (due : List FlightState) (begun : Option FlightState). at_place (record { room = c.args.self.now.room; due = due; begun = begun }) c.args.place) (ap (λ (flights : FlightsState). flights.due) c.self.view_is) (rw c.in_default.is at c.begun.ensures)

pub returns-then-place-due-2 : goal.returns-then-place-due-2
returns-then-place-due-2 c =
    let dues = c.self.inside.due.items in
    let due = map (due_flight (reply_of c.self.inside.replies)) dues in
    let past : length (map flight_of due) + 1 ≤ c.args.place = omega (arith, length-map due flight_of, length-map dues (due_flight (reply_of c.self.inside.replies)), c.if-place-due-2.true, c.len-due.ensures) in
    behind_more (λ (flight : InFlight). flight.source) (map flight_of due) (flight_of c.in-Some.flight.now) c.args.place past
    ∙ ap₂ (λ (due : List FlightState) (begun : Option FlightState). at_place (record { room = c.args.self.now.room; due = due; begun = begun }) c.args.place) (ap (λ (flights : FlightsState). flights.due) c.self.view_is) (rw c.in-Some.is at c.begun.ensures)

pub returns : goal.returns
returns c =
    let dues = c.self.inside.due.items in
    let due = map (due_flight (reply_of c.self.inside.replies)) dues in
    let behind : c.args.place ≡ length (map flight_of due) = omega (arith, length-map due flight_of, length-map dues (due_flight (reply_of c.self.inside.replies)), c.if-place-due.false, c.if-place-due-2.false, c.len-due.ensures) in
    ap Some c.source.ensures.value
    ∙ at_more (λ (flight : InFlight). flight.source) (map flight_of due) (flight_of c.in-Some.flight.now) c.args.place behind
    ∙ ap₂ (λ (due : List FlightState) (begun : Option FlightState). at_place (record { room = c.args.self.now.room; due = due; begun = begun }) c.args.place) (ap (λ (flights : FlightsState). flights.due) c.self.view_is) (rw c.in-Some.is at c.begun.ensures)
