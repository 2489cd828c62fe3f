-- One client more.
use Rattle.std.proofs.Common.{ℕ, Bool, ap, map, subst, sym, take, ◌∙◌}
use Rattle.std.proofs.lemmas.List.{take_all}
use Rattle.bus_words.proofs.PlaceChanges.{all-at}
use Rattle.serial_memory.specs.SerialMemory.{doubts_of, rooms_of}
use Rattle.scoreboard.specs.Boards.{client_footprints, footprints_of}
use Rattle.scoreboard.specs.FailedBursts.{after_reached}
use Rattle.scoreboard.specs.InsideBoards.{HaveRoomToWrite, ClientState, client_of}
use Rattle.scoreboard.proofs.held.ClientFootprints.{footprints_more, room_each}
use Rattle.scoreboard.proofs.held.FailedResponses.{after_reached-append, after_reached-none}
use Rattle.scoreboard.proofs.held.Marks.{marked_none, marked_then}
use Rattle.scoreboard.proofs.all_clients.mark_reached.Goals as goal

pub loop-client-init : goal.loop-client-init
loop-client-init c = (marked_none c.args.marks.now, sym (after_reached-none (doubts_of c.args.marks.now) c.args.reach))

pub mark_reached-requires : goal.mark_reached-requires
mark_reached-requires c =
    record {
      room = subst (λ (f : ℕ → Bool). HaveRoomToWrite f (client_footprints (client_of c.client-item.result))) (sym c.loop-client.invariant.0.rooms)
          (subst (λ (client : ClientState). HaveRoomToWrite (rooms_of c.args.marks.now) (client_footprints (client_of client))) (sym c.client-item.is)
          (all-at _ c.args.clients.now c.loop-client.client-index c.client-item.result (room_each (rooms_of c.args.marks.now) c.args.clients.now c.requires.room) c.loop-client-test.true));
    }

pub loop-client-preserved : goal.loop-client-preserved
loop-client-preserved c =
    let i = c.loop-client.client-index in
    let before = footprints_of (map client_of (take i c.args.clients.now)) in
    let reach = c.args.reach in
    let marks = doubts_of c.args.marks.now in (
      marked_then c.loop-client.invariant.0 c.mark_reached.ensures.rest,
      c.mark_reached.ensures.bytes
          ∙ ap (λ (m : ℕ → Bool). after_reached m reach (client_footprints (client_of c.client-item.result))) c.loop-client.invariant.1
          ∙ after_reached-append marks reach before (client_footprints (client_of c.client-item.result))
          ∙ ap (after_reached marks reach) (footprints_more c.args.clients.now i c.client-item.result c.loop-client-test.true c.client-item.is),
    )

pub returns-clause-bytes : goal.returns-clause-bytes
returns-clause-bytes c =
    c.loop-client.invariant.1
    ∙ ap (λ cs. after_reached (doubts_of c.args.marks.now) c.args.reach (footprints_of (map client_of cs))) (take_all c.loop-client.client-index c.args.clients.now c.loop-client-test.false)
