-- The request at the place is the one that is due.
use Rattle.std.proofs.Common.{◌≡◌, ◌<◌, ◌==◌, ◌∙◌, ◌∷◌, [], List, ap, ap₂, arith, length, length-append, map, subst, sym}
use Rattle.std.specs.Prelude.{None, Some, is_some}
use Rattle.std.specs.List.{find, position}
use Rattle.std.specs.Option.{option_map}
use Rattle.std.proofs.lemmas.List.Edits.{length-remove}
use Rattle.bus_words.specs.Places.{without_first}
use Rattle.bus_words.proofs.FirstPlaces.{position_is_first}
use Rattle.bus_words.proofs.PlaceChanges.{all-append, all-at}
use Rattle.tl_messages.specs.declared.DBeat.{DBeat}
use Rattle.scoreboard.specs.Flights.{is_of_source}
use Rattle.scoreboard.specs.InsideBoards.{FlightState, FlightsState, FootprintState, flight_of}
use Rattle.scoreboard.specs.Replies.{due_flights, reply_of}
use Rattle.scoreboard.specs.declared.flights.Due.{Due}
use Rattle.scoreboard.proofs.held.Sources.{begins, begins_none, due_at, due_without, flights_with, none_due}
use Rattle.scoreboard.proofs.flights.Flights.begin_due.Goals as goal

pub returns-in_default-clause-flights : goal.returns-in_default-clause-flights
returns-in_default-clause-flights c =
    let source = c.args.source in
    let dues = c.self.inside.due.items in
    let none = ap (position (λ (one : Due). one.source == source)) (sym c.deref.ensures.value) ∙ sym c.place_of.ensures ∙ c.in_default.is in
    let stays = λ (due : List FlightState). flights_with (map flight_of due) None ≡ flights_with (without_first (is_of_source source) (map flight_of due)) (find (is_of_source source) (map flight_of due)) in
    ap (λ begun. flights_with (map flight_of c.args.self.now.due) (option_map flight_of begun)) c.requires
    ∙ subst stays (ap (λ (flights : FlightsState). flights.due) c.self.view_is) (begins_none source (reply_of c.self.inside.replies) dues none)

pub returns-in_default-clause-begun : goal.returns-in_default-clause-begun
returns-in_default-clause-begun c =
    let source = c.args.source in
    let dues = c.self.inside.due.items in
    let none = ap (position (λ (one : Due). one.source == source)) (sym c.deref.ensures.value) ∙ sym c.place_of.ensures ∙ c.in_default.is in
    ap is_some (sym (none_due source (reply_of c.self.inside.replies) dues none))
    ∙ ap (λ (flights : FlightsState). is_some (find (is_of_source source) (map flight_of flights.due))) c.self.view_is

found : (c : goal.After-push_reserved) → position (λ one. one.source == c.args.source) c.self.inside.due.items ≡ Some c.in-Some.place
found c = ap (position (λ (one : Due). one.source == c.args.source)) (sym c.deref.ensures.value) ∙ sym c.place_of.ensures ∙ c.in-Some.is

pub invariant_of-self : goal.invariant_of-self
invariant_of-self c =
    let inside = c.self.inside in
    let dues = inside.due.items in
    let within : c.in-Some.place < length dues = (position_is_first (λ (one : Due). one.source == c.args.source) dues c.in-Some.place (found c)).within in
    let wide = λ (due : Due). length due.footprint.determined ≡ inside.room in
    let back : Due = record { source = c.remove-due.result.source; footprint = c.begin.new.footprint } in (
      rw c.remove-due.ensures.items (due_without inside.room dues c.in-Some.place c.self.invariant.0),
      ap (λ (one : FlightState). length one.footprint.determined) c.begin.ensures.flight ∙ subst wide (sym c.remove-due.ensures.value) (all-at wide dues c.in-Some.place c.remove-due.result c.self.invariant.0.rooms within),
      rw c.push_reserved.ensures.items (all-append wide inside.spare.items back c.self.invariant.2 (ap (λ (one : FootprintState). length one.determined) c.begin.ensures.other ∙ c.self.invariant.1)),
      omega (arith, c.self.invariant.3, ap length c.remove-due.ensures.items, length-remove dues c.in-Some.place within, ap length c.push_reserved.ensures.items, length-append inside.spare.items (back ∷ [])),
      omega (arith, c.self.invariant.4, c.remove-due.ensures.capacity),
      omega (arith, c.self.invariant.5, c.push_reserved.ensures.capacity),
    )

pub returns-clause-flights : goal.returns-clause-flights
returns-clause-flights c =
    let source = c.args.source in
    let due = c.remove-due.result in
    let replies = reply_of c.self.inside.replies in
    let begun : List DBeat → FlightState = λ beats. record { source = due.source; beats = beats; footprint = due.footprint } in
    ap₂ (λ (items : List Due) (flight : FlightState). flights_with (due_flights replies items) (Some (flight_of flight))) c.remove-due.ensures.items (c.begin.ensures.flight ∙ ap begun c.beats-reply.ensures.value)
    ∙ begins source replies c.self.inside.due.items c.in-Some.place due (found c) c.remove-due.ensures.value
    ∙ ap (λ (flights : FlightsState). flights_with (without_first (is_of_source source) (map flight_of flights.due)) (find (is_of_source source) (map flight_of flights.due))) c.self.view_is

pub returns-clause-begun : goal.returns-clause-begun
returns-clause-begun c =
    let source = c.args.source in
    ap is_some (sym (due_at source (reply_of c.self.inside.replies) c.self.inside.due.items c.in-Some.place c.remove-due.result (found c) c.remove-due.ensures.value))
    ∙ ap (λ (flights : FlightsState). is_some (find (is_of_source source) (map flight_of flights.due))) c.self.view_is
