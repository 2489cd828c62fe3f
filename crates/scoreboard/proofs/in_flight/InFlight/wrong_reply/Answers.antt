-- It is compared with the next beat, if there is one.
use Rattle.std.proofs.Common.{ℕ, ◌-◌, Some, not, true, ap, ap₂, sym, ◌∙◌}
use Rattle.std.specs.Option.{option_copied}
use Rattle.bus_words.specs.Tables.{first_broken}
use Rattle.tl_messages.specs.Operations.{beats_of}
use Rattle.scoreboard.specs.Boards.{reply_rules, unless_indeterminate, wrong_by, wrong_reply}
use Rattle.scoreboard.specs.InTurn.{agrees_where_known, is_unknown_in}
use Rattle.scoreboard.specs.InsideBoards.{FlightState, FootprintState, flight_of, footprint_of}
use Rattle.scoreboard.specs.declared.Policy.{Policy}
use Rattle.scoreboard.proofs.acceptance_order.KnownLanes.{compared, unasked}
use Rattle.scoreboard.proofs.in_flight.InFlight.wrong_reply.Goals as goal

pub returns-in_default : goal.returns-in_default
returns-in_default c = sym (unasked c.args.policy c.args.told (flight_of c.args.self.now) c.args.beat.now (sym c.next_beat.ensures ∙ ap option_copied c.in_default.is))

pub returns-in-AcceptanceOrder : goal.returns-in-AcceptanceOrder
returns-in-AcceptanceOrder c =
    let due = c.in-Some.due.now in
    let beat = c.args.beat.now in
    c.wrong_in_turn.ensures
    ∙ ap₂ (λ (footprint : FootprintState) (left : ℕ). wrong_by due
    (unless_indeterminate (not (agrees_where_known (record { beat = due; unknown = is_unknown_in (footprint_of footprint) (beats_of footprint.size true - left) due }) beat))
    (first_broken (reply_rules due beat)))) (ap (λ (flight : FlightState). flight.footprint) c.self.view_is) c.left.ensures
    ∙ compared c.args.told (flight_of c.args.self.now) due beat (sym c.next_beat.ensures ∙ ap option_copied c.in-Some.is)
    ∙ ap (λ (policy : Policy). wrong_reply policy c.args.told (Some (flight_of c.args.self.now)) beat) (sym c.in-AcceptanceOrder.is)
