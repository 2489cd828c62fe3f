-- It is the one at the place of the source.
use Rattle.std.proofs.Common.{◌≡◌, ℕ, ◌==◌, ◌∙◌, List, Option, ap, map, rules, sym}
use Rattle.std.specs.Prelude.{None, Some, option_and_then}
use Rattle.std.specs.List.{find, position}
use Rattle.tl_messages.specs.declared.DBeat.{DBeat}
use Rattle.scoreboard.specs.Flights.{is_of_source}
use Rattle.scoreboard.specs.InsideBoards.{FlightState, FlightsState, flight_of, footprint_of}
use Rattle.scoreboard.specs.Replies.{reply_of}
use Rattle.scoreboard.specs.Views.{left_view, view_of}
use Rattle.scoreboard.specs.declared.flights.Due.{Due}
use Rattle.scoreboard.specs.declared.views.ReplyView.{ReplyView}
use Rattle.scoreboard.proofs.held.Sources.{due_at, none_due}
use Rattle.scoreboard.proofs.flights.Flights.due_view.Goals as goal

-- what is seen of the one that is due to a source
abbrev seen_to : ℕ → List FlightState → Option ReplyView
seen_to source due = option_and_then view_of (find (is_of_source source) (map flight_of due))

pub returns-in_err-place : goal.returns-in_err-place
returns-in_err-place c =
    let source = c.args.source in
    let dues = c.self.inside.due.items in
    let replies = reply_of c.self.inside.replies in
    let none : position (λ (one : Due). one.source == source) dues ≡ None =
    ap (position (λ (one : Due). one.source == source)) (sym c.deref.ensures.value) ∙ sym c.place_of.ensures ∙ c.in_err-place.was in
    let nothing : c.from_residual.result ≡ None = search rules in
    nothing
    ∙ ap (option_and_then view_of) (sym (none_due source replies dues none))
    ∙ ap (seen_to source) (ap (λ (flights : FlightsState). flights.due) c.self.view_is)

pub returns : goal.returns
returns c =
    let source = c.args.source in
    let dues = c.self.inside.due.items in
    let replies = reply_of c.self.inside.replies in
    let due = c.index-due.result.now in
    let place = c.in_ok-place.place in
    let found : position (λ (one : Due). one.source == source) dues ≡ Some place =
    ap (position (λ (one : Due). one.source == source)) (sym c.deref.ensures.value) ∙ sym c.place_of.ensures ∙ c.in_ok-place.was in
    c.left_view.ensures
    ∙ ap (λ (beats : List DBeat). left_view (footprint_of due.footprint) beats) c.beats-beats.ensures.value
    ∙ ap (option_and_then view_of) (sym (due_at source replies dues place due found c.index-due.ensures))
    ∙ ap (seen_to source) (ap (λ (flights : FlightsState). flights.due) c.self.view_is)
