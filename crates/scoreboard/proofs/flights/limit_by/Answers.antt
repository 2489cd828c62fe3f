-- One of them more.
use Rattle.std.proofs.Common.{◌∙◌, ap, map, refl, sym, take}
use Rattle.std.proofs.lemmas.List.{take_all}
use Rattle.scoreboard.specs.Flights.{Footprint, InFlight}
use Rattle.scoreboard.specs.InsideBoards.{footprint_of}
use Rattle.scoreboard.specs.Races.{beside, beside_all}
use Rattle.scoreboard.specs.Replies.{due_footprint}
use Rattle.scoreboard.proofs.held.Others.{beside_all-last, beside_all-none, dues_next}
use Rattle.scoreboard.proofs.flights.limit_by.Goals as goal

pub loop-one-init : goal.loop-one-init
loop-one-init c = (sym (beside_all-none (footprint_of c.args.joined.now.footprint)), refl)

pub loop-one-preserved : goal.loop-one-preserved
loop-one-preserved c =
    let due = c.args.due.now in
    let i = c.loop-one.one-index in
    let one = c.one-item.result in
    let old = footprint_of c.args.joined.now.footprint in (
      ap (λ (flight : InFlight). flight.footprint) c.give_way.ensures.flight
          ∙ ap (λ (r : Footprint). beside r (due_footprint one)) c.loop-one.invariant.0
          ∙ beside_all-last old (map due_footprint (take i due)) (due_footprint one)
          ∙ ap (beside_all old) (sym (dues_next due i one c.loop-one-test.true c.one-item.is)),
      c.give_way.ensures.room ∙ c.loop-one.invariant.1,
    )

pub returns-clause-footprint : goal.returns-clause-footprint
returns-clause-footprint c =
    c.loop-one.invariant.0
    ∙ ap (λ dues. beside_all (footprint_of c.args.joined.now.footprint) (map due_footprint dues)) (take_all c.loop-one.one-index c.args.due.now c.loop-one-test.false)
