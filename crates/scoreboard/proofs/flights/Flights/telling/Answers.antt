-- Where no reply has begun it is the one that is due.
use Rattle.std.proofs.Common.{◌≡◌, ℕ, ◌==◌, ◌∙◌, List, Option, ap, ap₂, map, rules, sym}
use Rattle.std.specs.Prelude.{None, Some, option_map}
use Rattle.std.specs.List.{find, position}
use Rattle.std.specs.Option.{option_or}
use Rattle.tl_messages.specs.declared.DBeat.{DBeat}
use Rattle.scoreboard.specs.Flights.{InFlight, is_of_source}
use Rattle.scoreboard.specs.InsideBoards.{FlightState, FlightsState, flight_of, footprint_of}
use Rattle.scoreboard.specs.Replies.{reply_of}
use Rattle.scoreboard.specs.Telling.{left_telling}
use Rattle.scoreboard.specs.declared.Policy.{Policy}
use Rattle.scoreboard.specs.declared.flights.Due.{Due}
use Rattle.scoreboard.specs.declared.tellings.Telling.{Telling}
use Rattle.scoreboard.proofs.held.Sources.{due_at, none_due}
use Rattle.scoreboard.proofs.flights.Flights.telling.Goals as goal

-- what the next beat of a reply tells
abbrev told : Policy → InFlight → Telling
told policy flight = left_telling policy flight.footprint flight.beats

abbrev told_next : Policy → List FlightState → Option FlightState → ℕ → Option Telling
told_next policy due begun source = option_map (told policy) (option_or (option_map flight_of begun) (find (is_of_source source) (map flight_of due)))

pub returns-in_err-place : goal.returns-in_err-place
returns-in_err-place c =
    let source = c.args.source in
    let dues = c.self.inside.due.items in
    let replies = reply_of c.self.inside.replies in
    let none : position (λ (one : Due). one.source == source) dues ≡ None =
    ap (position (λ (one : Due). one.source == source)) (sym c.deref.ensures.value) ∙ sym c.place_of.ensures ∙ c.in_err-place.was in
    let nothing : c.from_residual.result ≡ None = search rules in
    nothing
    ∙ ap (option_map (told c.args.policy)) (sym (none_due source replies dues none))
    ∙ ap₂ (λ (due : List FlightState) (begun : Option FlightState). told_next c.args.policy due begun source)
    (ap (λ (flights : FlightsState). flights.due) c.self.view_is) (rw c.in_default.is at c.begun.ensures)

pub returns : goal.returns
returns c =
    let source = c.args.source in
    let dues = c.self.inside.due.items in
    let replies = reply_of c.self.inside.replies in
    let due = c.index-due.result.now in
    let place = c.in_ok-place.place in
    let found : position (λ (one : Due). one.source == source) dues ≡ Some place =
    ap (position (λ (one : Due). one.source == source)) (sym c.deref.ensures.value) ∙ sym c.place_of.ensures ∙ c.in_ok-place.was in
    ap Some (c.left_telling.ensures ∙ ap (λ (beats : List DBeat). left_telling c.args.policy (footprint_of due.footprint) beats) c.beats-beats.ensures.value)
    ∙ ap (option_map (told c.args.policy)) (sym (due_at source replies dues place due found c.index-due.ensures))
    ∙ ap₂ (λ (due : List FlightState) (begun : Option FlightState). told_next c.args.policy due begun source)
    (ap (λ (flights : FlightsState). flights.due) c.self.view_is) (rw c.in_default.is at c.begun.ensures)
