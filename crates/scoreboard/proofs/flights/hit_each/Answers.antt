-- One of them more.
use Rattle.std.proofs.Common.{◌≡◌, ◌<◌, ◌∙◌, ap, get_or, length, refl}
use Rattle.scoreboard.specs.Flights.{Footprint}
use Rattle.scoreboard.specs.InsideBoards.{flight_of}
use Rattle.scoreboard.specs.FailedBursts.{hit_flight}
use Rattle.scoreboard.specs.Replies.{due_flight}
use Rattle.scoreboard.specs.declared.flights.Due.{Due}
use Rattle.scoreboard.proofs.held.Changed.{changed_next, still_all}
use Rattle.scoreboard.proofs.held.Replies.{all_due}
use Rattle.scoreboard.proofs.flights.hit_each.Goals as goal

pub loop-one-init : goal.loop-one-init
loop-one-init c = ((λ replies. refl), λ room have. have)

pub loop-one-preserved : goal.loop-one-preserved
loop-one-preserved c =
    let now = c.loop-one.due in
    let i = c.loop-one.one-index in
    let one = get_or now i c.one-item.result in
    let new : Due = record { source = one.source; footprint = c.hit.new.self } in
    let below : i < length now = rw c.loop-one.auto.due c.loop-one-test.true in (
      (λ replies. changed_next (λ due. flight_of (due_flight replies due)) (hit_flight c.args.span) c.args.due.now now i c.one-item.result new c.loop-one.auto.due below
          (ap (λ (footprint : Footprint). record (flight_of (due_flight replies one)) { footprint = footprint }) c.hit.ensures.footprint) (c.loop-one.invariant.0 replies)),
      (λ room have. still_all (λ (due : Due). length due.footprint.determined ≡ room) now i c.one-item.result new below (λ wide. c.hit.ensures.room ∙ wide) (c.loop-one.invariant.1 room have)),
    )

pub returns : goal.returns
returns c = record {
  flights = λ replies. all_due replies (hit_flight c.args.span) c.args.due.now c.loop-one.due c.loop-one.one-index (c.loop-one.invariant.0 replies) c.loop-one-test.false;
  rooms = c.loop-one.invariant.1;
}
