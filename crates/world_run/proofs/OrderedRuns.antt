-- A whole run: its replies are those of the accepted requests one at a time, and once it is quiet its memory is theirs. It knows that each
-- event keeps the order, as a premise, and fixes the list of all requests; which event came is hidden.
use Rattle.std.proofs.Common.{◌≡◌, ℕ, ◌==◌, ◌<◌, ◌≤◌, ◌^◌, Bool, true, List, [], ◌∷◌, length, Option, Some, None, refl, sym, subst, ◌∙◌, ap, arith, filter, find, is_some, nat_le, option_map, slice_get, unwrap_or, if◌then◌else◌}
use Rattle.std.specs.List.{AllByRecursion, cons_option}
use Rattle.std.proofs.lemmas.Bool.Decides.{nat_tests}
use Rattle.std.proofs.lemmas.Bool.{and_parts, eqb-true}
use Rattle.std.proofs.lemmas.List.{append-nil}
use Rattle.std.proofs.lemmas.Option.{same_Some}
use Rattle.bus_words.proofs.PlaceChanges.{all-find, find-passes}
use Rattle.bus_words.proofs.MappedPlaces.{all-mapped}
use Rattle.tl_messages.specs.Requests.{HeldMessage, WholeRequest, held_of, request_of}
use Rattle.burst_plan.specs.declared.Region.{Region}
use Rattle.flight_table.specs.Laws.{IsSoundRequest}
use Rattle.flight_table.specs.Tables.{is_undone}
use Rattle.responses.specs.Shown.{Reply as ReplyGiven, shown}
use Rattle.bridge_core.specs.Bridge.{message_with, reply_taken}
use Rattle.bridge_core.specs.HeldRequests.{table_limits_of, BridgedRequest, oldest_done, flights_of, is_done_for, reply_beats}
use Rattle.bridge_core.specs.Laws.{IsServed}
use Rattle.burst_plan.specs.PageMap.{address_of}
use Rattle.subordinate.specs.Faults.{Faults, is_good, standing_at}
use Rattle.world_run.specs.Headline.{IsReplyTo, byte_shown}
use Rattle.meaning.specs.InTurn.{bytes_of_all, replies_of, AcceptedMessage, requests_of}
use Rattle.world_run.specs.InOrder.{IsGathered, IsForeseen, IsForeseenBy, IsInItsTurn, IsOrdered, KeepsOrder, is_finished, memory_bytes, order_of, started}
use Rattle.world.specs.Laws.{AreSoundAlong, IsSoundWorld}
use Rattle.meaning.specs.Meaning.{Bytes, bytes_after_all, meaning, replies_in_order, zeros}
use Rattle.world_run.specs.Runs.{HandedReply, answers_of, handed_at, handed_in, messages_in}
use Rattle.world_run.specs.Serial.{Order, asked, bytes_before, touches, writes}
use Rattle.setups.specs.Setups.{SetupLists}
use Rattle.world.specs.World.{IsQuiet, Outcome, WorldState, after, byte_of, leaves_all, next, opening_world}
use Rattle.world.specs.declared.Answer.{Answer}
use Rattle.world.specs.declared.Answer.TheVariants.{Accepted}
use Rattle.world.specs.declared.Step.{Step}
use Rattle.world.specs.declared.Step.TheVariants.{Offer}
use Rattle.world_run.proofs.AcceptedRequests.{HasAccepted, has_accepted-here, has_accepted-next, has_accepted-opening, request_at}
use Rattle.world.proofs.Events.{EachWay, each_way}
use Rattle.world_run.proofs.gathered.GatheredAnswers.{reply_served_by}
use Rattle.world_run.proofs.HeldSteps.{unaccepted}
use Rattle.world_run.proofs.History.{quiet_memory, written_in_turn}
use Rattle.world_run.proofs.OrderOpens.{keeps_opening}
use Rattle.world_run.proofs.BytesLeft.{all_carried_out, message_within, replies_at, writer_touches}
use Rattle.world_run.proofs.RunLemmas.{first_sound}

-- ---- what is accepted is foreseen

quiet_foreseen : (order : Order) (state : WorldState) (step : Step) (answer : Answer) → leaves_all answer ≡ true → IsForeseenBy order state.bridge step answer
quiet_foreseen order state (Offer client beat) (Accepted number) still = absurd (cc)
quiet_foreseen order state _ _ still = tt

abbrev IsForeseenIn : Order → WorldState → Step → Outcome → Type 0
IsForeseenIn order state event outcome =
    ((q : WholeRequest) → request_at state.bridge event outcome.answer ≡ Some q → slice_get order.requests state.bridge.requests.accepted ≡ Some q)
    → IsForeseenBy order state.bridge event outcome.answer

foreseen_ways : (order : Order) (state : WorldState) → EachWay (IsForeseenIn order state) state
foreseen_ways order state =
    record {
      quiet = λ event answer still known. quiet_foreseen order state event answer still;
      begins = λ client beat taken known. tt;
      accepts = λ client beat accepted known. known (request_of (message_with state.bridge client beat)) refl;
      sends = λ sending sent known. tt;
      performs = λ serial beat memory done known. tt;
      gives_b = λ id b given known. tt;
      gives_r = λ id r given known. tt;
      hands_out = λ client request is first known. tt;
    }

-- where all requests of a run are those that it accepts, each event's is the one of its number
foreseen : (order : Order) (state : WorldState) (step : Step) (steps : List Step) → HasAccepted order.requests state (step ∷ steps) → IsForeseen order state step
foreseen order state step steps has =
    each_way (IsForeseenIn order state) state (foreseen_ways order state) step (λ q is. has_accepted-here order.requests state step steps q has is)

-- ---- a reply that is handed out

quiet_handed : (step : Step) (answer : Answer) → leaves_all answer ≡ true → handed_at step answer [] ≡ None
quiet_handed step answer still = grind (arith, still)

-- the replies to all requests, one at a time
abbrev pub replies_in : Order → List ReplyGiven
replies_in order = replies_in_order order.faults order.regions order.requests zeros

-- the reply to a request that is done, where its beats are those of serial execution
reply_is : (order : Order) (state : WorldState) (client : ℕ) (request : BridgedRequest) → IsSoundWorld state → KeepsOrder order state
    → oldest_done state.bridge.requests.live client ≡ Some request
    → reply_beats request ≡ shown (request_of request.message) (meaning order.faults order.regions (request_of request.message) (bytes_before order request.flight.number)).reply
    → IsReplyTo order.requests (replies_in order) (record { client = client; number = request.flight.number; beats = reply_beats request })
reply_is order state client request sound keeps first beats = record {
  request = request_of request.message;
  reply = (meaning order.faults order.regions (request_of request.message) (bytes_before order request.flight.number)).reply;
  accepted = is;
  carried_out = replies_at order request.flight.number ∙ ap (option_map (λ q. (meaning order.faults order.regions q (bytes_before order request.flight.number)).reply)) is;
  client =
      sym (eqb-true request.flight.client client (and_parts (request.flight.client == client) request.flight.done (find-passes (is_done_for client) state.bridge.requests.live request first)).0)
      ∙ (all-find (IsServed state.bridge.requests.config state.bridge.requests.regions) (is_done_for client) state.bridge.requests.live request sound.bridge_laws.requests.served first).flight.client;
  beats = beats;
}
  where
    is : asked order request.flight.number ≡ Some (request_of request.message)
    is = (all-find (IsInItsTurn order state.memory.bus_bytes keeps.wrote) (is_done_for client) state.bridge.requests.live request keeps.live first).asked

-- the reply that a client may take
pub reply_served : (order : Order) (state : WorldState) (client : ℕ) (request : BridgedRequest) → IsSoundWorld state → KeepsOrder order state → reply_taken state.bridge client ≡ Some request
    → reply_beats request ≡ shown (request_of request.message) (meaning order.faults order.regions (request_of request.message) (bytes_before order request.flight.number)).reply
reply_served order state client request sound keeps taken =
    reply_served_by order state.bridge.requests.config (table_limits_of state.bridge.requests.config) state.bridge.requests.accepted request sound.bridge_laws.requests.config
    (subst (λ (regions : List Region). IsServed state.bridge.requests.config regions request) keeps.regions
    (all-find (IsServed state.bridge.requests.config state.bridge.requests.regions) (is_done_for client) state.bridge.requests.live request sound.bridge_laws.requests.served first))
    (all-find (λ (r : BridgedRequest). IsSoundRequest (table_limits_of state.bridge.requests.config) state.bridge.requests.accepted r.flight) (is_done_for client) state.bridge.requests.live request
    (all-mapped (IsSoundRequest (table_limits_of state.bridge.requests.config) state.bridge.requests.accepted) (λ (r : BridgedRequest). r.flight) state.bridge.requests.live sound.bridge_laws.requests.flights.requests) first)
    (and_parts (request.flight.client == client) request.flight.done (find-passes (is_done_for client) state.bridge.requests.live request first)).1
    (subst (λ (bus_bytes : ℕ). IsGathered order bus_bytes request (address_of order.regions (request_of request.message))) sound.bus
    (all-find (IsInItsTurn order state.memory.bus_bytes keeps.wrote) (is_done_for client) state.bridge.requests.live request keeps.live first).gathered)
  where
    first_of : (none : Bool) (o : Option BridgedRequest) → (if none then None else o) ≡ Some request → o ≡ Some request
    first_of none o is = grind (arith, is)

    first : oldest_done state.bridge.requests.live client ≡ Some request
    first = first_of (nat_le state.bridge.requests.config.clients client) (oldest_done state.bridge.requests.live client) taken

-- ---- once it is quiet

-- where nobody is undone a live request is done
all_done : (p : BridgedRequest → Bool) (live : List BridgedRequest) (request : BridgedRequest) → length (filter is_undone (flights_of live)) ≡ 0 → find p live ≡ Some request
    → request.flight.done ≡ true
all_done p [] request none found = absurd (cc)
all_done p (r ∷ live) request none found = grind (arith, all_done p live request)

all_finished : (state : WorldState) → IsQuiet state → (j : ℕ) → j < state.bridge.requests.accepted → is_finished state.bridge.requests j ≡ true
all_finished state quiet j below = grind (arith, nat_tests, all_done, quiet, below)

-- the bytes of a quiet world are those that all requests leave
quiet_bytes : (order : Order) (state : WorldState) → KeepsOrder order state → IsQuiet state → state.bridge.requests.accepted ≡ length order.requests → (x : ℕ)
    → memory_bytes state x ≡ bytes_after_all order.faults order.regions order.requests zeros x
quiet_bytes order state keeps quiet count x =
    quiet_memory (writes order) (bytes_before order) (started state.bridge.requests) (is_finished state.bridge.requests) keeps.wrote (memory_bytes state) state.bridge.requests.accepted keeps.history
    (all_finished state quiet) (λ j past. unaccepted state.bridge.requests j past) x
    ∙ ap (λ (n : ℕ). bytes_before order n x) count
    ∙ sym (ap (λ (bytes : Bytes). bytes x) (all_carried_out order))

-- a byte is shown just where its page is good
shown_byte : (good : Bool) (o : Option ℕ) (byte : ℕ) → is_some o ≡ good → unwrap_or o 0 ≡ byte → o ≡ (if good then Some byte else None)
shown_byte good o byte there is = grind (arith, there, is)

quiet_shown : (order : Order) (state : WorldState) → IsSoundWorld state → KeepsOrder order state → IsQuiet state → state.bridge.requests.accepted ≡ length order.requests → (address : ℕ)
    → byte_of state address ≡ (if is_good (standing_at order.faults address) then Some (bytes_after_all order.faults order.regions order.requests zeros address) else None)
quiet_shown order state sound keeps quiet count address =
    shown_byte (is_good (standing_at order.faults address)) (byte_of state address) (bytes_after_all order.faults order.regions order.requests zeros address)
    (sound.memory_laws.pages.exactly address ∙ ap (λ (faults : Faults). is_good (standing_at faults address)) keeps.faults)
    (quiet_bytes order state keeps quiet count address)

-- ---- along a run

-- each event keeps the order
abbrev pub EachKeeps : Order → Type 0
EachKeeps order =
    (state : WorldState) (step : Step) → IsSoundWorld state → IsSoundWorld (next state step).state → IsForeseen order state step → KeepsOrder order state
    → KeepsOrder order (next state step).state

module _ (order : Order) (kept : EachKeeps order) where
  abbrev AllReplies : List HandedReply → Type 0
  AllReplies handed = AllByRecursion (IsReplyTo order.requests (replies_in order)) handed

  -- the reply that one event hands out
  abbrev HandsOut : List HandedReply → Step → Outcome → Type 0
  HandsOut later event outcome = AllReplies (cons_option (handed_at event outcome.answer outcome.reply) later)

  hands_out_ways : (state : WorldState) (later : List HandedReply) → IsSoundWorld state → KeepsOrder order state → AllReplies later → EachWay (HandsOut later) state
  hands_out_ways state later sound keeps rest =
      record {
        quiet = λ event answer still. subst (λ (o : Option HandedReply). AllReplies (cons_option o later)) (sym (quiet_handed event answer still)) rest;
        begins = λ client beat taken. rest;
        accepts = λ client beat accepted. rest;
        sends = λ sending sent. rest;
        performs = λ serial beat memory done. rest;
        gives_b = λ id b given. rest;
        gives_r = λ id r given. rest;
        hands_out = λ client request known first.
            (reply_is order state client request sound keeps first (reply_served order state client request sound keeps (rw known first)), rest);
      }

  -- the replies of all events, and the world after them
  replies_along : (state : WorldState) (steps : List Step) → HasAccepted order.requests state steps → AreSoundAlong state steps → KeepsOrder order state → AllReplies (handed_in state steps)
  replies_along state [] has along keeps = tt
  replies_along state (step ∷ steps) has along keeps =
      each_way (HandsOut (handed_in (next state step).state steps)) state
      (hands_out_ways state (handed_in (next state step).state steps) along.0 keeps
      (replies_along (next state step).state steps (has_accepted-next order.requests state step steps has) along.1
      (kept state step along.0 (first_sound (next state step).state steps along.1) (foreseen order state step steps has) keeps)))
      step

  -- the world after all events, which have accepted all requests
  record IsEnd (state : WorldState) : Type 0 where
    pub sound : IsSoundWorld state
    pub keeps : KeepsOrder order state
    pub count : state.bridge.requests.accepted ≡ length order.requests

  end_along : (state : WorldState) (steps : List Step) → HasAccepted order.requests state steps → AreSoundAlong state steps → KeepsOrder order state → IsEnd (after state steps)
  end_along state [] has along keeps =
      record {
        sound = along;
        keeps = keeps;
        count = sym has.count ∙ sym (ap length (has.all ∙ append-nil has.past));
      }
  end_along state (step ∷ steps) has along keeps =
      end_along (next state step).state steps (has_accepted-next order.requests state step steps has) along.1
      (kept state step along.0 (first_sound (next state step).state steps along.1) (foreseen order state step steps has) keeps)

-- ---- a run

-- the requests that a run accepts, in their order
abbrev pub order_of_run : SetupLists → List Step → Order
order_of_run setup steps = order_of setup steps (answers_of (opening_world setup) steps)

-- each of them has no more bytes than it may, so it touches what it writes
requests_within : (messages : List AcceptedMessage) (n : ℕ) (q : WholeRequest) → slice_get (requests_of messages) n ≡ Some q → length q.bytes ≤ 2 ^ q.size
requests_within [] n q is = absurd (cc)
requests_within (message ∷ messages) n q is = one_more (held_of message.client message.beats) n (requests_within messages) is
  where
    one_more : (o : Option HeldMessage) (k : ℕ) → ((k : ℕ) (p : WholeRequest) → slice_get (requests_of messages) k ≡ Some p → length p.bytes ≤ 2 ^ p.size)
        → slice_get (cons_option (option_map request_of o) (requests_of messages)) k ≡ Some q → length q.bytes ≤ 2 ^ q.size
    one_more o k later there = grind (arith, nat_tests, same_Some, message_within, later, there)

module _ (setup : SetupLists) (steps : List Step) (along : AreSoundAlong (opening_world setup) steps) (kept : EachKeeps (order_of_run setup steps)) where
  opens : KeepsOrder (order_of_run setup steps) (opening_world setup)
  opens = keeps_opening (order_of_run setup steps) setup refl refl

  -- its replies are those of these requests one at a time
  pub replies_in_turn :
      AllByRecursion (IsReplyTo (order_of_run setup steps).requests (replies_of setup (order_of_run setup steps).requests)) (handed_in (opening_world setup) steps)
  replies_in_turn = replies_along (order_of_run setup steps) kept (opening_world setup) steps (has_accepted-opening setup steps) along opens

  -- and once it is quiet its memory is theirs
  pub memory_in_turn : IsQuiet (after (opening_world setup) steps) → (address : ℕ)
      → byte_of (after (opening_world setup) steps) address ≡ byte_shown setup (bytes_of_all setup (order_of_run setup steps).requests) address
  memory_in_turn quiet address =
      let ends = end_along (order_of_run setup steps) kept (opening_world setup) steps (has_accepted-opening setup steps) along opens in
      quiet_shown (order_of_run setup steps) (after (opening_world setup) steps) ends.sound ends.keeps quiet ends.count address

  -- which is in order after the last event
  pub ordered_at_end : IsOrdered (order_of_run setup steps) (after (opening_world setup) steps)
  ordered_at_end =
      let ends = end_along (order_of_run setup steps) kept (opening_world setup) steps (has_accepted-opening setup steps) along opens in
      record {
        keeps = ends.keeps;
        sound = ends.sound;
        first_writers = written_in_turn (writes (order_of_run setup steps)) (touches (order_of_run setup steps)) _ _ _ ends.keeps.wrote _ ends.keeps.history ends.keeps.held
            (λ n x. writer_touches (order_of_run setup steps) n x (λ q. requests_within (messages_in steps (answers_of (opening_world setup) steps)) n q));
      }
