-- Those that are due come first, and the one that has begun last.
use Rattle.std.proofs.Common.{◌∙◌, ◌++◌, ◌||◌, ◌&&◌, Some, ap, map, subst, sym}
use Rattle.std.specs.Option.{option_to_list}
use Rattle.serial_memory.specs.SerialMemory.{doubts_of, rooms_of}
use Rattle.scoreboard.specs.FailedBursts.{after_reached, reaches}
use Rattle.scoreboard.specs.InsideBoards.{FlightsState, FootprintState, HasRoomToWrite, HaveRoomToWrite, footprint_of}
use Rattle.scoreboard.specs.Races.{may_write}
use Rattle.scoreboard.specs.Replies.{due_footprint, reply_of}
use Rattle.scoreboard.proofs.MappedLists.{all_parts}
use Rattle.scoreboard.proofs.held.FailedResponses.{after_reached-last}
use Rattle.scoreboard.proofs.held.Others.{footprints_due, footprints_held, footprints_in}
use Rattle.scoreboard.proofs.flights.Flights.mark_reached.Goals as goal

pub mark_reached_each-requires : goal.mark_reached_each-requires
mark_reached_each-requires c =
    let inside = c.self.inside in
    let rooms = (rooms_of c.args.marks.now) in
    let all = subst (HaveRoomToWrite rooms) (footprints_held c.args.self.now (reply_of inside.replies) inside.due.items (ap (λ (flights : FlightsState). flights.due) c.self.view_is)) c.requires.room in
    record { room = rw c.deref.ensures.value (all_parts (HasRoomToWrite rooms) (map due_footprint inside.due.items) (footprints_in (option_to_list c.args.self.now.begun)) all).0 }

pub mark_reached-requires : goal.mark_reached-requires
mark_reached-requires c =
    let inside = c.self.inside in
    let rooms = (rooms_of c.args.marks.now) in
    let all = subst (HaveRoomToWrite rooms) (footprints_held c.args.self.now (reply_of inside.replies) inside.due.items (ap (λ (flights : FlightsState). flights.due) c.self.view_is)) c.requires.room in
    let last = subst (λ begun. HaveRoomToWrite rooms (footprints_in (option_to_list begun))) (sym (rw c.in-Some.is at c.begun.ensures))
    (all_parts (HasRoomToWrite rooms) (map due_footprint inside.due.items) (footprints_in (option_to_list c.args.self.now.begun)) all).1 in
    record { room = rw c.footprint.ensures (subst (λ rooms. HasRoomToWrite rooms (footprint_of c.in-Some.flight.now.footprint)) (sym c.mark_reached_each.ensures.rest.rooms) last.0) }

pub returns-in-Some-clause-bytes : goal.returns-in-Some-clause-bytes
returns-in-Some-clause-bytes c =
    let inside = c.self.inside in
    let due = inside.due.items in
    let reach = c.args.reach in
    let m = doubts_of c.args.marks.now in
    after_reached-last m (doubts_of c.mark_reached_each.new.marks) (doubts_of c.mark_reached.new.marks) reach (map due_footprint c.deref.result.now) (footprint_of c.in-Some.flight.now.footprint) c.mark_reached_each.ensures.bytes
    (λ x. c.mark_reached.ensures.bytes x ∙ ap (λ (r : FootprintState). doubts_of c.mark_reached_each.new.marks x || reaches reach (footprint_of r) && may_write (footprint_of r) x) c.footprint.ensures)
    ∙ ap (λ due. after_reached m reach (map due_footprint due ++ footprints_in (option_to_list (Some c.in-Some.flight.now)))) c.deref.ensures.value
    ∙ ap (λ begun. after_reached m reach (map due_footprint due ++ footprints_in (option_to_list begun))) (rw c.in-Some.is at c.begun.ensures)
    ∙ ap (after_reached m reach) (sym (footprints_held c.args.self.now (reply_of inside.replies) due (ap (λ (flights : FlightsState). flights.due) c.self.view_is)))

pub returns-in_default-clause-bytes : goal.returns-in_default-clause-bytes
returns-in_default-clause-bytes c =
    let inside = c.self.inside in
    c.mark_reached_each.ensures.bytes
    ∙ ap (λ due. after_reached (doubts_of c.args.marks.now) c.args.reach (map due_footprint due)) c.deref.ensures.value
    ∙ ap (after_reached (doubts_of c.args.marks.now) c.args.reach) (sym (footprints_due c.args.self.now (reply_of inside.replies) inside.due.items (ap (λ (flights : FlightsState). flights.due) c.self.view_is) (sym (rw c.in_default.is at c.begun.ensures))))
