-- Those that are due come first, and the one that has begun last.
use Rattle.std.proofs.Common.{◌∙◌, ◌++◌, Some, ap, map, sym}
use Rattle.std.specs.Option.{option_to_list}
use Rattle.scoreboard.specs.Flights.{Footprint, InFlight}
use Rattle.scoreboard.specs.InsideBoards.{FlightsState, FootprintState, footprint_of}
use Rattle.scoreboard.specs.Races.{beside, beside_all}
use Rattle.scoreboard.specs.Replies.{due_footprint, reply_of}
use Rattle.scoreboard.proofs.held.Others.{beside_all-last, footprints_due, footprints_held, footprints_in}
use Rattle.scoreboard.proofs.flights.Flights.limit.Goals as goal

pub returns-in-Some-clause-footprint : goal.returns-in-Some-clause-footprint
returns-in-Some-clause-footprint c =
    let inside = c.self.inside in
    let due = inside.due.items in
    let old = footprint_of c.args.joined.now.footprint in
    ap (λ (flight : InFlight). flight.footprint) c.give_way.ensures.flight
    ∙ ap (λ (r : Footprint). beside r (footprint_of c.footprint.result.now)) c.limit_by.ensures.footprint
    ∙ ap (λ (r : FootprintState). beside (beside_all old (map due_footprint c.deref.result.now)) (footprint_of r)) c.footprint.ensures
    ∙ beside_all-last old (map due_footprint c.deref.result.now) (footprint_of c.in-Some.flight.now.footprint)
    ∙ ap (λ due. beside_all old (map due_footprint due ++ footprints_in (option_to_list (Some c.in-Some.flight.now)))) c.deref.ensures.value
    ∙ ap (λ begun. beside_all old (map due_footprint due ++ footprints_in (option_to_list begun))) (rw c.in-Some.is at c.begun.ensures)
    ∙ ap (beside_all old) (sym (footprints_held c.args.self.now (reply_of inside.replies) due (ap (λ (flights : FlightsState). flights.due) c.self.view_is)))

pub returns-in_default-clause-footprint : goal.returns-in_default-clause-footprint
returns-in_default-clause-footprint c =
    let inside = c.self.inside in
    c.limit_by.ensures.footprint
    ∙ ap (λ due. beside_all (footprint_of c.args.joined.now.footprint) (map due_footprint due)) c.deref.ensures.value
    ∙ ap (beside_all (footprint_of c.args.joined.now.footprint)) (sym (footprints_due c.args.self.now (reply_of inside.replies) inside.due.items (ap (λ (flights : FlightsState). flights.due) c.self.view_is) (sym (rw c.in_default.is at c.begun.ensures))))
