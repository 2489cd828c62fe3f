-- A reply is due where its place is found.
use Rattle.std.proofs.Common.{◌==◌, ◌∙◌, ap, map, sym}
use Rattle.std.specs.Prelude.{is_some}
use Rattle.std.specs.List.{list_any, position}
use Rattle.scoreboard.specs.Flights.{is_of_source}
use Rattle.scoreboard.specs.InsideBoards.{FlightsState, flight_of}
use Rattle.scoreboard.specs.Replies.{due_flights, reply_of}
use Rattle.scoreboard.specs.declared.flights.Due.{Due}
use Rattle.scoreboard.proofs.held.Sources.{any_placed, placed}
use Rattle.scoreboard.proofs.flights.Flights.is_due.Goals as goal

pub returns : goal.returns
returns c =
    let source = c.args.source in
    let dues = c.self.inside.due.items in
    let replies = reply_of c.self.inside.replies in
    c.is_some.ensures
    ∙ ap is_some (c.place_of.ensures ∙ ap (position (λ (one : Due). one.source == source)) c.deref.ensures.value ∙ sym (placed source replies dues))
    ∙ any_placed (is_of_source source) (due_flights replies dues)
    ∙ ap (λ (flights : FlightsState). list_any (is_of_source source) (map flight_of flights.due)) c.self.view_is
