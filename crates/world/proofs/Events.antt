-- What an event makes of the world, case by case. Whoever shows something of each event gives one reason for each case, and what decides
-- the case is hidden from him.
use Rattle.std.proofs.Common.{◌≡◌, ℕ, true, false, [], Option, Some, None, Result, Ok, Err, refl, sym, subst}
use Rattle.std.specs.Prelude.{◌^◌, nat_le}
use Rattle.std.proofs.lemmas.Bool.{cond_both}
use Rattle.tl_messages.specs.declared.ABeat.{ABeat}
use Rattle.axi_beats.specs.Bursts.{Burst}
use Rattle.axi_beats.specs.declared.BBeat.{BBeat}
use Rattle.axi_beats.specs.declared.RBeat.{RBeat}
use Rattle.tl_checker.specs.declared.Progress.{Progress}
use Rattle.tl_checker.specs.declared.Progress.TheVariants.{More as Begins, Whole}
use Rattle.tl_checker.specs.declared.TlRule.{TlRule}
use Rattle.flight_table.specs.Tables.{has_room}
use Rattle.bridge_core.specs.Bridge.{BridgeState, after_pump_of, after_sent, completed, message_with, offered_after, reply_taken, verdict_on, with_front}
use Rattle.bridge_core.specs.HeldRequests.{BridgedRequest, flight_table_of, oldest_done, with_request}
use Rattle.bridge_core.specs.Sending.{Sending, next_sending}
use Rattle.subordinate.specs.FreeMemory.{FreeMemory, performed, b_of, r_of, with_burst}
use Rattle.subordinate.specs.declared.Performed.{Performed}
use Rattle.subordinate.specs.declared.Performed.TheVariants as perform
use Rattle.world.specs.World.{WorldState, Outcome, unchanged, changed, offered_to, performed_by, answered_b, answered_r, taken, next, leaves_all}
use Rattle.world.specs.declared.Answer.{Answer}
use Rattle.world.specs.declared.Answer.TheVariants.{More, Accepted, Sent, Done}
use Rattle.world.specs.declared.Step.{Step}
use Rattle.world.specs.declared.Step.TheVariants.{Offer, Pump, Perform, AnswerB, AnswerR, Take}

-- a beat that a bridge takes: its client is one of the bridge's, and the message with it is so far
pub record IsTaken (state : BridgeState) (client : ℕ) (beat : ABeat) (progress : Progress) : Type 0 where
  pub known : nat_le state.requests.config.clients client ≡ false
  pub verdict : verdict_on state client beat ≡ Ok progress

-- the bridge after a beat that doesn't end a message
abbrev pub after_begun : BridgeState → ℕ → ABeat → BridgeState
after_begun state client beat = with_front client (Some (message_with state client beat)) state

-- a message that is accepted: its last beat is taken, its client has room, and a number is left
pub record IsAccepted (state : BridgeState) (client : ℕ) (beat : ABeat) : Type 0 where
  pub taken : IsTaken state client beat Whole
  pub room : has_room (flight_table_of state.requests) client ≡ true
  pub number : nat_le (2 ^ 48) state.requests.accepted ≡ false

-- the bridge after a beat that ends one
abbrev pub after_accepted : BridgeState → ℕ → ABeat → BridgeState
after_accepted state client beat =
    record (with_front client None state) { requests = with_request (message_with state client beat) state.requests }

-- a burst that is sent, and leaves this bridge
abbrev pub sent_from : WorldState → Burst → BridgeState → Outcome
sent_from state burst bridge =
    record {
      state = record { bridge = bridge; memory = with_burst state.memory burst; last_sent = Some burst };
      answer = Sent state.memory.sent;
      burst = Some burst;
      reply = [];
    }

abbrev pub after_sending : WorldState → Sending → Outcome
after_sending state sending = sent_from state sending.burst (after_sent state.bridge sending)

-- what has to be shown for an event to have a property: one line for each way that it can go
pub record EachWay (P : Step → Outcome → Type 0) (state : WorldState) : Type 0 where
  pub quiet : (step : Step) (answer : Answer) → leaves_all answer ≡ true → P step (unchanged state answer)
  pub begins :
      (client : ℕ) (beat : ABeat) → IsTaken state.bridge client beat Begins
      → P (Offer client beat) (changed (after_begun state.bridge client beat) state.memory More)
  pub accepts :
      (client : ℕ) (beat : ABeat) → IsAccepted state.bridge client beat
      → P (Offer client beat) (changed (after_accepted state.bridge client beat) state.memory (Accepted state.bridge.requests.accepted))
  pub sends : (sending : Sending) → next_sending state.bridge.requests ≡ Some sending → P Pump (after_sending state sending)
  pub performs :
      (serial beat : ℕ) (memory : FreeMemory) → performed state.memory serial beat ≡ (memory, perform.Done)
      → P (Perform serial beat) (changed state.bridge memory Done)
  pub gives_b : (id : ℕ) (b : BBeat) → b_of state.memory id ≡ Some b → P (AnswerB id) (answered_b state id (Some b))
  pub gives_r : (id : ℕ) (r : RBeat) → r_of state.memory id ≡ Some r → P (AnswerR id) (answered_r state id (Some r))
  pub hands_out :
      (client : ℕ) (request : BridgedRequest) → nat_le state.bridge.requests.config.clients client ≡ false
      → oldest_done state.bridge.requests.live client ≡ Some request → P (Take client) (taken state client (Some request))

module _ (P : Step → Outcome → Type 0) (state : WorldState) (ways : EachWay P state) where
  -- a whole message, by its client's room and by the numbers that are left
  whole_has :
      (client : ℕ) (beat : ABeat) → IsTaken state.bridge client beat Whole
      → P (Offer client beat) (offered_to state (completed state.bridge client (message_with state.bridge client beat)))
  whole_has client beat is =
      cond_both (has_room (flight_table_of state.bridge.requests) client) _ _ (λ result. P (Offer client beat) (offered_to state result))
      (λ room.
      cond_both (nat_le (2 ^ 48) state.bridge.requests.accepted) _ _ (λ result. P (Offer client beat) (offered_to state result))
      (λ none_left. ways.quiet (Offer client beat) _ refl)
      (λ number. ways.accepts client beat (record { taken = is; room = room; number = number })))
      (λ full. ways.quiet (Offer client beat) _ refl)

  -- an offered beat of a client that there is, by what the checker of its port says
  offer_has :
      (client : ℕ) (beat : ABeat) (verdict : Result Progress TlRule) → nat_le state.bridge.requests.config.clients client ≡ false
      → verdict_on state.bridge client beat ≡ verdict → P (Offer client beat) (offered_to state (offered_after verdict state.bridge client beat))
  offer_has client beat (Err rule) known is = ways.quiet (Offer client beat) _ refl
  offer_has client beat (Ok Begins) known is = ways.begins client beat (record { known = known; verdict = is })
  offer_has client beat (Ok Whole) known is = whole_has client beat (record { known = known; verdict = is })

  -- a Pump, by what is sent next
  pump_has : (sending : Option Sending) → next_sending state.bridge.requests ≡ sending → P Pump (next state Pump)
  pump_has None is = rw is (ways.quiet Pump _ refl)
  pump_has (Some sending) is =
      rw is (subst (λ sent. P Pump (sent_from state sending.burst (after_pump_of state.bridge sent))) (sym is) (ways.sends sending is))

  -- a Perform, by what the memory made of it
  perform_has :
      (serial beat : ℕ) (result : FreeMemory × Performed) → performed state.memory serial beat ≡ result
      → P (Perform serial beat) (performed_by state result)
  perform_has serial beat (memory, perform.NoSuch) is = ways.quiet (Perform serial beat) _ refl
  perform_has serial beat (memory, perform.Already) is = ways.quiet (Perform serial beat) _ refl
  perform_has serial beat (memory, perform.Done) is = ways.performs serial beat memory is

  -- an AnswerB, by the B that its ID may give
  b_has : (id : ℕ) (b : Option BBeat) → b_of state.memory id ≡ b → P (AnswerB id) (answered_b state id b)
  b_has id None is = ways.quiet (AnswerB id) _ refl
  b_has id (Some b) is = ways.gives_b id b is

  -- an AnswerR, by the R that its ID may give
  r_has : (id : ℕ) (r : Option RBeat) → r_of state.memory id ≡ r → P (AnswerR id) (answered_r state id r)
  r_has id None is = ways.quiet (AnswerR id) _ refl
  r_has id (Some r) is = ways.gives_r id r is

  -- a Take of a client that there is, by its request that is done
  take_has :
      (client : ℕ) (request : Option BridgedRequest) → nat_le state.bridge.requests.config.clients client ≡ false
      → oldest_done state.bridge.requests.live client ≡ request → P (Take client) (taken state client request)
  take_has client None known is = ways.quiet (Take client) _ refl
  take_has client (Some request) known is = ways.hands_out client request known is

  -- an event has a property that each way of it has
  pub each_way : (step : Step) → P step (next state step)
  each_way (Offer client beat) =
      cond_both (nat_le state.bridge.requests.config.clients client) _ _ (λ result. P (Offer client beat) (offered_to state result))
      (λ outside. ways.quiet (Offer client beat) _ refl)
      (λ known. offer_has client beat (verdict_on state.bridge client beat) known refl)
  each_way Pump = pump_has (next_sending state.bridge.requests) refl
  each_way (Perform serial beat) = perform_has serial beat (performed state.memory serial beat) refl
  each_way (AnswerB id) = b_has id (b_of state.memory id) refl
  each_way (AnswerR id) = r_has id (r_of state.memory id) refl
  each_way (Take client) =
      cond_both (nat_le state.bridge.requests.config.clients client) _ _ (P (Take client)) (λ outside. ways.quiet (Take client) _ refl)
      (λ known. subst (λ request. P (Take client) (taken state client request)) (sym (if_known known)) (take_has client (oldest_done state.bridge.requests.live client) known refl))
    where
      if_known : nat_le state.bridge.requests.config.clients client ≡ false → reply_taken state.bridge client ≡ oldest_done state.bridge.requests.live client
      if_known known = rw known refl
