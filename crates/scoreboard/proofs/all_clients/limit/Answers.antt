-- One client more.
use Rattle.std.proofs.Common.{ap, map, refl, sym, ◌∙◌}
use Rattle.std.proofs.lemmas.List.{take_all}
use Rattle.scoreboard.specs.Boards.{client_footprints, footprints_of}
use Rattle.scoreboard.specs.Flights.{Footprint}
use Rattle.scoreboard.specs.InsideBoards.{client_of, footprint_of}
use Rattle.scoreboard.specs.Races.{beside_all}
use Rattle.scoreboard.proofs.held.ClientFootprints.{footprints_more}
use Rattle.scoreboard.proofs.held.Others.{beside_all-append, beside_all-none}
use Rattle.scoreboard.proofs.all_clients.limit.Goals as goal

pub loop-client-init : goal.loop-client-init
loop-client-init c = (sym (beside_all-none (footprint_of c.args.joined.now.footprint)), refl)

pub loop-client-preserved : goal.loop-client-preserved
loop-client-preserved c =
    let i = c.loop-client.client-index in
    let before = footprints_of (map client_of (Rattle.std.proofs.Common.take i c.args.clients.now)) in
    let first = footprint_of c.args.joined.now.footprint in (
      c.limit.ensures.footprint
          ∙ ap (λ (r : Footprint). beside_all r (client_footprints (client_of c.client-item.result))) c.loop-client.invariant.0
          ∙ beside_all-append first before (client_footprints (client_of c.client-item.result))
          ∙ ap (beside_all first) (footprints_more c.args.clients.now i c.client-item.result c.loop-client-test.true c.client-item.is),
      c.limit.ensures.room ∙ c.loop-client.invariant.1,
    )

pub returns-clause-footprint : goal.returns-clause-footprint
returns-clause-footprint c =
    c.loop-client.invariant.0
    ∙ ap (λ cs. beside_all (footprint_of c.args.joined.now.footprint) (footprints_of (map client_of cs))) (take_all c.loop-client.client-index c.args.clients.now c.loop-client-test.false)
