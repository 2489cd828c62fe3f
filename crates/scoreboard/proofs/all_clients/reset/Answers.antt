-- One client more.
use Rattle.std.proofs.Common.{◌≡◌, ◌<◌, ◌∙◌, length, refl}
use Rattle.scoreboard.specs.Resets.{reset_client}
use Rattle.scoreboard.specs.InsideBoards.{ClientState, client_of}
use Rattle.scoreboard.proofs.held.Changed.{all_changed, changed_next, still_all}
use Rattle.scoreboard.proofs.all_clients.reset.Goals as goal

pub loop-client-init : goal.loop-client-init
loop-client-init c = (refl, λ room have. have)

pub loop-client-preserved : goal.loop-client-preserved
loop-client-preserved c =
    let now = c.loop-client.clients in
    let i = c.loop-client.client-index in
    let below : i < length now = rw c.loop-client.auto.clients c.loop-client-test.true in (
      changed_next client_of reset_client c.args.clients.now now i c.client-item.result c.reset.new.self c.loop-client.auto.clients below c.reset.ensures.client c.loop-client.invariant.0,
      (λ room have. still_all (λ (client : ClientState). client.flights.room ≡ room) now i c.client-item.result c.reset.new.self below (λ one. c.reset.ensures.room ∙ one) (c.loop-client.invariant.1 room have)),
    )

pub returns : goal.returns
returns c = record {
  clients = c.loop-client.invariant.0 ∙ all_changed client_of reset_client c.args.clients.now c.loop-client.client-index c.loop-client-test.false;
  room = c.loop-client.invariant.1;
}
