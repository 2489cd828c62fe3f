-- Every run is carried out as though its accepted requests were, whole, one at a time. It only puts the step (OrderSteps) into the run
-- (OrderedRuns).
use Rattle.std.proofs.Common.{List, subst, sym}
use Rattle.world.specs.Laws.{AreSoundAlong}
use Rattle.setups.specs.Setups.{SetupLists}
use Rattle.world.specs.World.{opening_world, WorldState, byte_of, in_flight}
use Rattle.world.specs.declared.Step.{Step}
use Rattle.tl_messages.specs.declared.DBeat.{DBeat}
use Rattle.world_run.specs.Headline.{IsOneAtATime}
use Rattle.world_run.specs.InOrder.{IsOrdered, order_of}
use Rattle.world_run.specs.Runs.{IsRunOf, handed_of}
use Rattle.world.specs.declared.Answer.{Answer}
use Rattle.world_run.specs.declared.Handed.{Handed}
use Rattle.world_run.specs.declared.SentBeat.{SentBeat}
use Rattle.world_run.proofs.MainTheorem.{IsCarriedOut, one_at_a_time_of}
use Rattle.world_run.proofs.OrderSteps.{keeps_next}
use Rattle.world_run.proofs.OrderedRuns.{memory_in_turn, order_of_run, ordered_at_end, replies_in_turn}

pub is_carried_out : (setup : SetupLists) (steps : List Step) → AreSoundAlong (opening_world setup) steps → IsCarriedOut setup steps
is_carried_out setup steps along =
    record {
      replies = replies_in_turn setup steps along (keeps_next (order_of_run setup steps));
      memory = memory_in_turn setup steps along (keeps_next (order_of_run setup steps));
    }

-- the sentence, of a record that is that of the run
pub run_in_order :
    (setup : SetupLists) (steps : List Step) (answers : List Answer) (replies : List Handed) (d_beats : List DBeat) (sent : List SentBeat) (world : WorldState)
    → AreSoundAlong (opening_world setup) steps → IsRunOf setup steps answers replies d_beats sent world → IsOneAtATime setup steps answers (handed_of replies d_beats) sent (in_flight world) (byte_of world)
run_in_order setup steps answers replies d_beats sent world along ran =
    one_at_a_time_of setup steps answers replies d_beats sent world along (is_carried_out setup steps along) ran

-- and its world is in order
pub run_ordered :
    (setup : SetupLists) (steps : List Step) (answers : List Answer) (replies : List Handed) (d_beats : List DBeat) (sent : List SentBeat) (world : WorldState)
    → AreSoundAlong (opening_world setup) steps → IsRunOf setup steps answers replies d_beats sent world → IsOrdered (order_of setup steps answers) world
run_ordered setup steps answers replies d_beats sent world along ran =
    subst (λ (given : List Answer). IsOrdered (order_of setup steps given) world) (sym ran.answers_kept)
    (subst (λ (state : WorldState). IsOrdered (order_of_run setup steps) state) (sym ran.world_kept) (ordered_at_end setup steps along (keeps_next (order_of_run setup steps))))
