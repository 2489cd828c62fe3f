-- One of them more.
use Rattle.std.proofs.Common.{◌∙◌, ap, map, subst, sym, take}
use Rattle.std.proofs.lemmas.List.{take_all}
use Rattle.bus_words.proofs.MappedPlaces.{all-mapped}
use Rattle.bus_words.proofs.PlaceChanges.{all-at}
use Rattle.serial_memory.specs.SerialMemory.{doubts_of, rooms_of}
use Rattle.scoreboard.specs.FailedBursts.{after_reached}
use Rattle.scoreboard.specs.InsideBoards.{HasRoomToWrite}
use Rattle.scoreboard.specs.Replies.{due_footprint}
use Rattle.scoreboard.specs.declared.flights.Due.{Due}
use Rattle.scoreboard.proofs.held.FailedResponses.{after_reached-last, after_reached-none}
use Rattle.scoreboard.proofs.held.Others.{dues_next}
use Rattle.scoreboard.proofs.held.Marks.{marked_none, marked_then}
use Rattle.scoreboard.proofs.flights.mark_reached_each.Goals as goal

pub loop-one-init : goal.loop-one-init
loop-one-init c = (marked_none c.args.marks.now, sym (after_reached-none (doubts_of c.args.marks.now) c.args.reach))

pub mark_reached-requires : goal.mark_reached-requires
mark_reached-requires c =
    let due = c.args.due.now in
    let good = λ (one : Due). HasRoomToWrite (rooms_of c.args.marks.now) (due_footprint one) in
    let all = all-mapped (HasRoomToWrite (rooms_of c.args.marks.now)) due_footprint due c.requires.room in
    record { room = subst (λ rooms. HasRoomToWrite rooms (due_footprint c.one-item.result)) (sym c.loop-one.invariant.0.rooms) (subst good (sym c.one-item.is) (all-at good due c.loop-one.one-index c.one-item.result all c.loop-one-test.true)) }

pub loop-one-preserved : goal.loop-one-preserved
loop-one-preserved c =
    let due = c.args.due.now in
    let i = c.loop-one.one-index in
    let one = c.one-item.result in
    let reach = c.args.reach in
    let m = doubts_of c.args.marks.now in (
      marked_then c.loop-one.invariant.0 c.mark_reached.ensures.rest,
      after_reached-last m (doubts_of c.loop-one.marks) (doubts_of c.mark_reached.new.marks) reach (map due_footprint (take i due)) (due_footprint one) c.loop-one.invariant.1 c.mark_reached.ensures.bytes
          ∙ ap (after_reached m reach) (sym (dues_next due i one c.loop-one-test.true c.one-item.is)),
    )

pub returns-clause-bytes : goal.returns-clause-bytes
returns-clause-bytes c =
    c.loop-one.invariant.1
    ∙ ap (λ dues. after_reached (doubts_of c.args.marks.now) c.args.reach (map due_footprint dues)) (take_all c.loop-one.one-index c.args.due.now c.loop-one-test.false)
