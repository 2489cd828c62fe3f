-- There is a place, since no two that are due are of one source.
use Rattle.std.proofs.Common.{◌≡◌, ◌<◌, ◌-◌, ◌∷◌, ◌++◌, [], ◌∙◌, ℕ, List, ap, ap₂, arith, length, length-append, map, refl, subst, sym}
use Rattle.std.specs.Prelude.{option_to_list}
use Rattle.std.proofs.lemmas.Option.{same_Some}
use Rattle.bus_words.proofs.PlaceChanges.{all-at, all-take}
use Rattle.tl_messages.specs.declared.DBeat.{DBeat}
use Rattle.scoreboard.specs.InsideBoards.{FlightState, FlightsState, FootprintState}
use Rattle.scoreboard.specs.Replies.{due_flight, if_begun, reply_of, with_reply}
use Rattle.scoreboard.specs.declared.flights.Due.{Due}
use Rattle.scoreboard.proofs.held.Replies.{joined}
use Rattle.scoreboard.proofs.held.Sources.{due_more}
use Rattle.scoreboard.proofs.flights.Flights.join.Goals as goal

pub unwrap-due-requires : goal.unwrap-due-requires
unwrap-due-requires c =
    let inside = c.self.inside in
    let flight = c.args.flight.now in
    let due : Due = record { source = flight.source; footprint = flight.footprint } in
    let joins = due_more c.args.self.now inside.room (reply_of inside.replies) inside.due.items (if_begun inside.has_begun inside.begun) due c.self.view_is c.self.invariant.0 c.requires.free c.requires.room c.source-source.ensures.byte in
    c.pop.ensures.variant.1 (omega (arith, joins.few, c.self.invariant.3, inside.spare.ok))

pub invariant_of-self : goal.invariant_of-self
invariant_of-self c =
    let inside = c.self.inside in
    let flight = c.args.flight.now in
    let due : Due = record { source = flight.source; footprint = flight.footprint } in
    let joins = due_more c.args.self.now inside.room (reply_of inside.replies) inside.due.items (if_begun inside.has_begun inside.begun) due c.self.view_is c.self.invariant.0 c.requires.free c.requires.room c.source-source.ensures.byte in
    let pushed = c.push_reserved.ensures.items ∙ ap₂ (λ (source : ℕ) (footprint : FootprintState). inside.due.items ++ record { source = source; footprint = footprint } ∷ []) c.source-source.ensures.value c.swap_footprint.ensures.other in (
      rw pushed joins.all,
      c.self.invariant.1,
      rw c.pop.ensures.rest (all-take (λ (due : Due). length due.footprint.determined ≡ inside.room) _ inside.spare.items c.self.invariant.2),
      omega (arith, c.self.invariant.3, ap length pushed, length-append inside.due.items (due ∷ []), c.pop.ensures.len, ap (λ o. length (option_to_list o)) c.unwrap-due.ensures, c.pop.new.self.ok, inside.spare.ok),
      omega (arith, c.self.invariant.4, c.push_reserved.ensures.capacity),
      omega (arith, c.self.invariant.5, c.pop.ensures.capacity),
    )

pub returns-clause-flights : goal.returns-clause-flights
returns-clause-flights c =
    let inside = c.self.inside in
    let flight = c.args.flight.now in
    let due : Due = record { source = flight.source; footprint = flight.footprint } in
    let joins = due_more c.args.self.now inside.room (reply_of inside.replies) inside.due.items (if_begun inside.has_begun inside.begun) due c.self.view_is c.self.invariant.0 c.requires.free c.requires.room c.source-source.ensures.byte in
    let pushed = c.push_reserved.ensures.items ∙ ap₂ (λ (source : ℕ) (footprint : FootprintState). inside.due.items ++ record { source = source; footprint = footprint } ∷ []) c.source-source.ensures.value c.swap_footprint.ensures.other in
    let replies = reply_of inside.replies in
    let beats = c.beats.ensures.value ∙ ap (λ (one : FlightState). one.beats) c.swap_footprint.ensures.flight in
    let put = c.put.ensures ∙ ap₂ (λ (source : ℕ) (beats : List DBeat). with_reply source beats replies) c.source-source.ensures.value beats in
    let seen : List FlightState → FlightsState = λ due. record { room = inside.room; due = due; begun = if_begun inside.has_begun inside.begun } in
    ap₂ (λ (items : List Due) (replies : ℕ → List DBeat). seen (map (due_flight replies) items)) pushed put
    ∙ ap seen (joined replies flight.beats inside.due.items due joins.free)
    ∙ ap (λ (flights : FlightsState). record flights { due = flights.due ++ flight ∷ [] }) c.self.view_is

pub returns-clause-room : goal.returns-clause-room
returns-clause-room c =
    let spare = c.self.inside.spare in
    let wide = λ (due : Due). length due.footprint.determined ≡ c.self.inside.room in
    let some : 0 < spare.len = c.pop.ensures.variant.0 (rw c.unwrap-due.ensures refl) in
    let is = same_Some _ _ (sym c.unwrap-due.ensures ∙ c.pop.ensures.value c.unwrap-due.result some) in
    let all = all-at wide spare.items (spare.len - 1) c.unwrap-due.result c.self.invariant.2 (omega (arith, some, spare.ok)) in
    ap (λ (one : FlightState). length one.footprint.determined) c.swap_footprint.ensures.flight ∙ subst wide (sym is) all ∙ ap (λ (flights : FlightsState). flights.room) c.self.view_is
