-- Each event keeps the order of acceptance. It only gathers the cases; how they hold is hidden.
use Rattle.bridge_core.proofs.NextSending.{next_found}
use Rattle.world_run.specs.InOrder.{IsForeseen, IsForeseenBy, KeepsOrder}
use Rattle.world.specs.Laws.{IsSoundWorld}
use Rattle.world_run.specs.Serial.{Order}
use Rattle.world.specs.World.{Outcome, WorldState, next}
use Rattle.world.specs.declared.Step.{Step}
use Rattle.world.proofs.Events.{EachWay, each_way}
use Rattle.world_run.proofs.HeldSteps.{HoldsBackIn, MovesOn, are_asked, held_kept, moves_on}
use Rattle.world_run.proofs.events.OrderAnswers.{b_keeps, r_keeps}
use Rattle.world_run.proofs.events.OrderRequests.{accept_keeps, begins_keeps, performed_keeps, sent_keeps, take_keeps}

module _ (order : Order) (state : WorldState) (sound : IsSoundWorld state) (keeps : KeepsOrder order state) where
  abbrev Keeps : Step → Outcome → Type 0
  Keeps step outcome =
      IsSoundWorld outcome.state → IsForeseenBy order state.bridge step outcome.answer → MovesOn order state.bridge.requests outcome.state.bridge.requests
      → HoldsBackIn order outcome.state.bridge.requests → KeepsOrder order outcome.state

  ways : EachWay Keeps state
  ways =
      record {
        quiet = λ step answer still new foreseen moves held. keeps;
        begins = λ client beat begun new foreseen moves held. begins_keeps order state client beat keeps;
        accepts = λ client beat accepted new foreseen moves held. accept_keeps order state client beat foreseen keeps moves held;
        sends = λ sending is new foreseen moves held.
            sent_keeps order state sending (next_found state.bridge.requests sending is) sound keeps moves held;
        performs = λ serial beat memory done new foreseen moves held. performed_keeps order state serial beat memory done sound keeps;
        gives_b = λ id b given new foreseen moves held. b_keeps order state id b given sound keeps new moves held;
        gives_r = λ id r given new foreseen moves held. r_keeps order state id r given sound keeps new moves held;
        hands_out = λ client request known first new foreseen moves held. take_keeps order state client request sound keeps held;
      }

pub keeps_next : (order : Order) (state : WorldState) (step : Step) → IsSoundWorld state → IsSoundWorld (next state step).state → IsForeseen order state step → KeepsOrder order state
    → KeepsOrder order (next state step).state
keeps_next order state step sound new foreseen keeps =
    each_way (Keeps order state sound keeps) state (ways order state sound keeps) step new foreseen (moves_on order state sound keeps.regions (are_asked order state keeps) step new foreseen)
    (held_kept order state step sound new foreseen keeps)
