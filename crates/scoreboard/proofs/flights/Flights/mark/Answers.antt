-- Those that are due come first, and the one that has begun last.
use Rattle.std.proofs.Common.{◌∙◌, ◌++◌, ◌||◌, ◌&&◌, Some, ap, map, subst, sym}
use Rattle.std.specs.Option.{option_to_list}
use Rattle.serial_memory.specs.SerialMemory.{doubts_of, rooms_of}
use Rattle.scoreboard.specs.InsideBoards.{FlightsState, FootprintState, HasRoomToWrite, HaveRoomToWrite, footprint_of}
use Rattle.scoreboard.specs.Races.{beside_dependent, covers, depends_on}
use Rattle.scoreboard.specs.Replies.{due_footprint, reply_of}
use Rattle.scoreboard.proofs.MappedLists.{all_parts}
use Rattle.scoreboard.proofs.held.Others.{beside_dependent-last, footprints_due, footprints_held, footprints_in}
use Rattle.scoreboard.proofs.flights.Flights.mark.Goals as goal

pub mark_each-requires : goal.mark_each-requires
mark_each-requires c =
    let inside = c.self.inside in
    let rooms = (rooms_of c.args.marks.now) in
    let all = subst (HaveRoomToWrite rooms) (footprints_held c.args.self.now (reply_of inside.replies) inside.due.items (ap (λ (flights : FlightsState). flights.due) c.self.view_is)) c.requires.room in
    record { room = rw c.deref.ensures.value (all_parts (HasRoomToWrite rooms) (map due_footprint inside.due.items) (footprints_in (option_to_list c.args.self.now.begun)) all).0 }

pub mark_dependent-requires : goal.mark_dependent-requires
mark_dependent-requires c =
    let inside = c.self.inside in
    let rooms = (rooms_of c.args.marks.now) in
    let all = subst (HaveRoomToWrite rooms) (footprints_held c.args.self.now (reply_of inside.replies) inside.due.items (ap (λ (flights : FlightsState). flights.due) c.self.view_is)) c.requires.room in
    let last = subst (λ begun. HaveRoomToWrite rooms (footprints_in (option_to_list begun))) (sym (rw c.in-Some.is at c.begun.ensures))
    (all_parts (HasRoomToWrite rooms) (map due_footprint inside.due.items) (footprints_in (option_to_list c.args.self.now.begun)) all).1 in
    record { room = rw c.footprint.ensures (subst (λ rooms. HasRoomToWrite rooms (footprint_of c.in-Some.flight.now.footprint)) (sym c.mark_each.ensures.rest.rooms) last.0) }

pub returns-in-Some-clause-bytes : goal.returns-in-Some-clause-bytes
returns-in-Some-clause-bytes c =
    let inside = c.self.inside in
    let due = inside.due.items in
    let other = footprint_of c.args.other.now in
    let m = doubts_of c.args.marks.now in
    beside_dependent-last m (doubts_of c.mark_each.new.marks) (doubts_of c.mark_dependent.new.marks) other (map due_footprint c.deref.result.now) (footprint_of c.in-Some.flight.now.footprint) c.mark_each.ensures.bytes
    (λ x. c.mark_dependent.ensures.bytes x ∙ ap (λ (r : FootprintState). doubts_of c.mark_each.new.marks x || depends_on (footprint_of r) other && covers (footprint_of r) x) c.footprint.ensures)
    ∙ ap (λ due. beside_dependent m other (map due_footprint due ++ footprints_in (option_to_list (Some c.in-Some.flight.now)))) c.deref.ensures.value
    ∙ ap (λ begun. beside_dependent m other (map due_footprint due ++ footprints_in (option_to_list begun))) (rw c.in-Some.is at c.begun.ensures)
    ∙ ap (beside_dependent m other) (sym (footprints_held c.args.self.now (reply_of inside.replies) due (ap (λ (flights : FlightsState). flights.due) c.self.view_is)))

pub returns-in_default-clause-bytes : goal.returns-in_default-clause-bytes
returns-in_default-clause-bytes c =
    let inside = c.self.inside in
    c.mark_each.ensures.bytes
    ∙ ap (λ due. beside_dependent (doubts_of c.args.marks.now) (footprint_of c.args.other.now) (map due_footprint due)) c.deref.ensures.value
    ∙ ap (beside_dependent (doubts_of c.args.marks.now) (footprint_of c.args.other.now)) (sym (footprints_due c.args.self.now (reply_of inside.replies) inside.due.items (ap (λ (flights : FlightsState). flights.due) c.self.view_is) (sym (rw c.in_default.is at c.begun.ensures))))
