-- The main theorem: what a run shows is as though its accepted requests were carried out whole, one at a time. No number is handed out twice,
-- since one that was handed out is accepted and live no more; the beats sent are those of whole legal bursts, one for each answer Sent, and no
-- beat breaks a rule at its place. What requests ask for and beats carry is hidden; Told and OrderedRuns show the rest.
use Rattle.std.specs.List.{AllByRecursion, IsDistinct, cons_option, list_all}
use Rattle.std.proofs.Common.{◌≡◌, ℕ, ◌<◌, Bool, true, false, List, [], ◌∷◌, map, length, Option, Some, None, refl, sym, subst, ap, ◌∙◌, arith, ◌++◌, filter, find, nat_eq, IsTrue, IfSome, option_map}
use Rattle.std.proofs.lemmas.Bool.Decides.{nat_tests}
use Rattle.std.proofs.lemmas.Bool.{ne_eqb, and_from}
use Rattle.std.proofs.lemmas.List.{length-append}
use Rattle.std.proofs.lemmas.List.Elements.{filter-append}
use Rattle.std.proofs.lemmas.Option.{same_Some}
use Rattle.bus_words.specs.Places.{without_first}
use Rattle.bus_words.proofs.PlaceChanges.{all-find, length-filter-change_first, length-filter-without_first}
use Rattle.tl_messages.specs.Requests.{WholeRequest}
use Rattle.tl_messages.specs.declared.DBeat.{DBeat}
use Rattle.axi_beats.specs.declared.RBeat.{RBeat}
use Rattle.axi_beats.specs.declared.Resp.{Resp}
use Rattle.axi_beats.specs.Bursts.{Burst, is_legal}
use Rattle.axi_beats.specs.declared.BBeat.{BBeat}
use Rattle.axi_checker.specs.OpenBursts.{nothing_open, open_after}
use Rattle.axi_checker.specs.declared.AxiBeat.{AxiBeat}
use Rattle.axi_checker.specs.declared.AxiBeat.TheVariants.{B as OnB, R as OnR}
use Rattle.axi_checker.specs.Rules.{axi_fault, beats_sent, burst_fault, first_axi_fault, open_with_burst}
use Rattle.axi_checker.proofs.Histories.{first_axi_fault-burst}
use Rattle.axi_checker.proofs.InOrder.{unbroken_is_in_order}
use Rattle.responses.specs.Gathered.{after_b}
use Rattle.flight_table.specs.Laws.{AreRising, IsSoundRequest}
use Rattle.flight_table.specs.LiveRequests.{with_answered}
use Rattle.bridge_core.specs.HeldRequests.{table_limits_of, BridgedRequest, RequestTable, after_read, after_response, after_sending, oldest_done, flights_of, holds, is_done_for, is_numbered, newly_live, settled}
use Rattle.config.specs.Configs.{axi_port_of}
use Rattle.bridge_core.specs.Bridge.{message_with, b_fault, r_fault}
use Rattle.bridge_core.specs.Sending.{Sending, next_sending}
use Rattle.config.specs.declared.Config.{Config}
use Rattle.subordinate.specs.FreeMemory.{b_of, r_of}
use Rattle.world.specs.Laws.{AreSoundAlong, IsSoundWorld, GoesWell}
use Rattle.setups.specs.Setups.{SetupLists}
use Rattle.world.specs.World.{WorldState, Outcome, leaves_all, next, opening_world, taken, outcomes, IsQuiet, after, byte_of, in_flight}
use Rattle.world.specs.declared.Answer.{Answer}
use Rattle.world.specs.declared.Step.{Step}
use Rattle.world.proofs.Events.{each_way}
use Rattle.world.proofs.TakesAll.{takes_all}
use Rattle.world_run.specs.Runs.{HandedReply, handed_at, handed_in, bursts_in, sent_in, pumps_told, axi_history, answers_of, IsRunOf, accepted_in, handed_of}
use Rattle.world_run.specs.Headline.{IsLegalTraffic, IsOneAtATime, IsReplyTo, byte_shown}
use Rattle.meaning.specs.InTurn.{replies_of, bytes_of_all}
use Rattle.world_run.specs.declared.Handed.{Handed}
use Rattle.world_run.specs.declared.SentBeat.{SentBeat}
use Rattle.world_run.proofs.AcceptedRequests.{config_next}
use Rattle.world_run.proofs.Told.{answered, as_many, numbered, spelled, told}

-- ---- the live requests of a number

abbrev pub live_of_number : ℕ → RequestTable → ℕ
live_of_number number table = length (filter (is_numbered number) table.live)

-- a number that was accepted, and whose request is live no more
pub record IsOver (table : RequestTable) (number : ℕ) : Type 0 where
  pub accepted : number < table.accepted
  pub gone : live_of_number number table ≡ 0

-- a request keeps its number
settled-number : (number : ℕ) (request : BridgedRequest) → is_numbered number (settled request) ≡ is_numbered number request
settled-number number request = grind arith

response-number : (number : ℕ) (resp : Resp) (request : BridgedRequest) → is_numbered number (after_response resp request) ≡ is_numbered number request
response-number number resp request = settled-number number (record request { flight = with_answered request.flight; gathering = after_b resp request.gathering })

read-number : (number bus_bytes : ℕ) (r : RBeat) (request : BridgedRequest) → is_numbered number (after_read bus_bytes r request) ≡ is_numbered number request
read-number number bus_bytes r request = grind arith

-- ---- what is over stays over

over_next : (state : WorldState) (step : Step) (number : ℕ) → IsOver state.bridge.requests number → IsOver (next state step).state.bridge.requests number
over_next state step number over = each_way (λ event outcome. IsOver outcome.state.bridge.requests number) state
    (record {
      quiet = λ event answer still. over;
      begins = λ client beat taken. over;
      accepts = λ client beat accepted. record {
        accepted = omega (arith, over.accepted);
        gone =
            ap length (filter-append (is_numbered number) state.bridge.requests.live (newly_live state.bridge.requests (message_with state.bridge client beat) ∷ []))
            ∙ length-append (filter (is_numbered number) state.bridge.requests.live) _
            ∙ rw (over.gone, ne_eqb state.bridge.requests.accepted number (λ same. omega (arith, same, over.accepted))) refl;
      };
      sends = λ sending sent. record {
        accepted = over.accepted;
        gone = length-filter-change_first (is_numbered number) (is_numbered sending.request.flight.number) (after_sending sending.id) state.bridge.requests.live (λ r. refl) ∙ over.gone;
      };
      performs = λ serial beat memory done. over;
      gives_b = λ id b given. record {
        accepted = over.accepted;
        gone = length-filter-change_first (is_numbered number) (holds b.id) (after_response b.resp) state.bridge.requests.live (response-number number b.resp) ∙ over.gone;
      };
      gives_r = λ id r given. record {
        accepted = over.accepted;
        gone =
            length-filter-change_first (is_numbered number) (holds r.id) (after_read state.bridge.requests.config.axi_bytes r) state.bridge.requests.live
            (read-number number state.bridge.requests.config.axi_bytes r) ∙ over.gone;
      };
      hands_out = λ client request known first. record {
        accepted = over.accepted;
        gone = omega (arith, over.gone, length-filter-without_first (is_numbered number) (is_done_for client) state.bridge.requests.live);
      };
    })
    step

-- ---- what is handed out is live, and then over

-- a request that is found is one of its number
found_counted : (p : BridgedRequest → Bool) (live : List BridgedRequest) (request : BridgedRequest) → find p live ≡ Some request
    → 0 < length (filter (is_numbered request.flight.number) live)
found_counted p [] request found = absurd (cc)
found_counted p (x ∷ live) request found = grind (arith, nat_tests, found_counted p live request)

-- of numbers above one none is it
none_above : (number : ℕ) (live : List BridgedRequest) → AllByRecursion (λ m. number < m) (map (λ flight. flight.number) (flights_of live))
    → length (filter (is_numbered number) live) ≡ 0
none_above number [] above = refl
none_above number (x ∷ live) above = rw (ne_eqb x.flight.number number (λ same. omega (arith, same, above.0))) (none_above number live above.1)

-- a request that is found, among numbers above one, is above it
found_above : (number : ℕ) (p : BridgedRequest → Bool) (live : List BridgedRequest) (request : BridgedRequest)
    → AllByRecursion (λ m. number < m) (map (λ flight. flight.number) (flights_of live)) → find p live ≡ Some request → number < request.flight.number
found_above number p [] request above found = absurd (cc)
found_above number p (x ∷ live) request above found = grind (arith, above.0, found_above number p live request above.1)

-- where numbers rise, no other has the number of one that is found
gone_without : (p : BridgedRequest → Bool) (live : List BridgedRequest) (request : BridgedRequest) → AreRising (map (λ flight. flight.number) (flights_of live))
    → find p live ≡ Some request → length (filter (is_numbered request.flight.number) (without_first p live)) ≡ 0
gone_without p [] request rising found = absurd (cc)
gone_without p (x ∷ live) request rising found =
    grind (arith, nat_tests, none_above x.flight.number live rising.0, found_above x.flight.number p live request rising.0, gone_without p live request rising.1)

-- a reply that an event hands out
pub record HandsOut (state : WorldState) (outcome : Outcome) (number : ℕ) : Type 0 where
  pub was_live : 0 < live_of_number number state.bridge.requests
  pub over : IsOver outcome.state.bridge.requests number

-- the number of a live request was accepted
found_accepted : (table : RequestTable) (p : BridgedRequest → Bool) (live : List BridgedRequest) (request : BridgedRequest)
    → AllByRecursion (IsSoundRequest (table_limits_of table.config) table.accepted) (flights_of live) → find p live ≡ Some request → request.flight.number < table.accepted
found_accepted table p live request sound found =
    all-find (λ r. r.flight.number < table.accepted) p live request
    (all-map-numbers live sound) found
  where
    all-map-numbers : (requests : List BridgedRequest) → AllByRecursion (IsSoundRequest (table_limits_of table.config) table.accepted) (flights_of requests)
        → AllByRecursion (λ r. r.flight.number < table.accepted) requests
    all-map-numbers [] sound = tt
    all-map-numbers (x ∷ requests) sound = (sound.0.number, all-map-numbers requests sound.1)

-- an answer that leaves all as it is hands out nothing
quiet_hands_out : (step : Step) (answer : Answer) (beats : List DBeat) → leaves_all answer ≡ true → handed_at step answer beats ≡ None
quiet_hands_out step answer beats still = grind (arith, still)

-- where the laws hold
abbrev pub HandsOutRightly : WorldState → Step → Outcome → Type 0
HandsOutRightly state event outcome = (handed : HandedReply) → handed_at event outcome.answer outcome.reply ≡ Some handed → HandsOut state outcome handed.number

pub hands_out_rightly : (state : WorldState) (step : Step) → IsSoundWorld state → HandsOutRightly state step (next state step)
hands_out_rightly state step sound = each_way (HandsOutRightly state) state
    (record {
      quiet = λ event answer still handed is. absurd (let none = quiet_hands_out event answer [] still in cc);
      begins = λ client beat taken handed is. absurd (cc);
      accepts = λ client beat accepted handed is. absurd (cc);
      sends = λ sending sent handed is. absurd (cc);
      performs = λ serial beat memory done handed is. absurd (cc);
      gives_b = λ id b given handed is. absurd (cc);
      gives_r = λ id r given handed is. absurd (cc);
      hands_out = λ client request known first handed is.
          subst (HandsOut state (taken state client (Some request))) (ap (λ reply. reply.number) (same_Some _ handed is)) (took client request first);
    })
    step
  where
    took : (client : ℕ) (request : BridgedRequest) → oldest_done state.bridge.requests.live client ≡ Some request
        → HandsOut state (taken state client (Some request)) request.flight.number
    took client request first =
        let flights = sound.bridge_laws.requests.flights in
        record {
          was_live = found_counted (is_done_for client) state.bridge.requests.live request first;
          over = record {
            accepted = found_accepted state.bridge.requests (is_done_for client) state.bridge.requests.live request flights.requests first;
            gone = gone_without (is_done_for client) state.bridge.requests.live request flights.rising first;
          };
        }

-- ---- over a list of events

-- what holds of an optional entry and of a list holds of the list with that entry before it
all-cons_option : {X : Type 0} (P : X → Type 0) (o : Option X) (xs : List X) → ((x : X) → o ≡ Some x → P x) → AllByRecursion P xs → AllByRecursion P (cons_option o xs)
all-cons_option P None xs here rest = rest
all-cons_option P (Some x) xs here rest = (here x refl, rest)

-- a number that is over isn't handed out
over_along : (number : ℕ) (state : WorldState) (steps : List Step) → AreSoundAlong state steps → IsOver state.bridge.requests number
    → AllByRecursion (λ handed. nat_eq number handed.number ≡ false) (handed_in state steps)
over_along number state [] along over = tt
over_along number state (step ∷ steps) along over =
    all-cons_option (λ handed. nat_eq number handed.number ≡ false) (handed_at step (next state step).answer (next state step).reply) (handed_in (next state step).state steps)
    (λ handed is. ne_eqb number handed.number (λ same. other handed same (hands_out_rightly state step along.0 handed is)))
    (over_along number (next state step).state steps along.1 (over_next state step number over))
  where
    other : (handed : HandedReply) → number ≡ handed.number → HandsOut state (next state step) handed.number → ⊥
    other handed same hands =
        let was_live : 0 < live_of_number number state.bridge.requests = subst (λ n. 0 < live_of_number n state.bridge.requests) (sym same) hands.was_live in
        omega (arith, was_live, over.gone)

-- of the numbers that are handed out
map_numbers : (number : ℕ) (handed : List HandedReply) → AllByRecursion (λ reply. nat_eq number reply.number ≡ false) handed
    → AllByRecursion (λ other. nat_eq number other ≡ false) (map (λ reply. reply.number) handed)
map_numbers number [] all = tt
map_numbers number (reply ∷ handed) all = (all.0, map_numbers number handed all.1)

-- the number of a reply handed out now is none of those that come later
distinct_step : (state : WorldState) (step : Step) (steps : List Step) → AreSoundAlong state (step ∷ steps)
    → (handed : Option HandedReply) → handed_at step (next state step).answer (next state step).reply ≡ handed
    → IsDistinct nat_eq (map (λ reply. reply.number) (handed_in (next state step).state steps))
    → IsDistinct nat_eq (map (λ reply. reply.number) (cons_option handed (handed_in (next state step).state steps)))
unfolding IsDistinct
distinct_step state step steps along None is rest = rest
distinct_step state step steps along (Some handed) is rest = (
  map_numbers handed.number (handed_in (next state step).state steps)
      (over_along handed.number (next state step).state steps along.1 (hands_out_rightly state step along.0 handed is).over),
  rest,
)

-- no number is handed out twice
distinct_along : (state : WorldState) (steps : List Step) → AreSoundAlong state steps → IsDistinct nat_eq (map (λ reply. reply.number) (handed_in state steps))
unfolding IsDistinct
distinct_along state [] along = tt
distinct_along state (step ∷ steps) along =
    distinct_step state step steps along (handed_at step (next state step).answer (next state step).reply) refl (distinct_along (next state step).state steps along.1)

-- ---- the field of the main statement

pub once : (setup : SetupLists) (steps : List Step) → AreSoundAlong (opening_world setup) steps
    → IsDistinct nat_eq (map (λ reply. reply.number) (handed_in (opening_world setup) steps))
once setup steps along = distinct_along (opening_world setup) steps along

-- ---- the beats sent

-- the bursts that a run sends
abbrev pub bursts_along : WorldState → List Step → List Burst
bursts_along state steps = bursts_in (outcomes state steps)

-- ---- one burst for each answer Sent

-- an answer that leaves all as it is tells no burst
quiet_pumps : (answer : Answer) (answers : List Answer) → leaves_all answer ≡ true → pumps_told (answer ∷ answers) ≡ pumps_told answers
quiet_pumps answer answers still = grind (arith, still)

-- a run sends one burst for each answer Sent
paired_along : (state : WorldState) (steps : List Step) → length (bursts_along state steps) ≡ pumps_told (answers_of state steps)
paired_along state [] = refl
paired_along state (step ∷ steps) = each_way Goes state
    (record {
      quiet = λ event answer still rest. rest ∙ sym (quiet_pumps answer _ still);
      begins = λ client beat taken rest. rest;
      accepts = λ client beat accepted rest. rest;
      sends = λ sending sent rest. omega (arith, rest);
      performs = λ serial beat memory done rest. rest;
      gives_b = λ id b given rest. rest;
      gives_r = λ id r given rest. rest;
      hands_out = λ client request known first rest. rest;
    })
    step (paired_along (next state step).state steps)
  where
    Goes : Step → Outcome → Type 0
    Goes event outcome =
        length (bursts_along outcome.state steps) ≡ pumps_told (answers_of outcome.state steps)
        → length (cons_option outcome.burst (bursts_along outcome.state steps)) ≡ pumps_told (outcome.answer ∷ answers_of outcome.state steps)

-- ---- each burst, and each answer, in its place

module _ (state : WorldState) (sound : IsSoundWorld state) where
  -- a burst that is sent goes well
  sent_well : (sending : Sending) → next_sending state.bridge.requests ≡ Some sending → GoesWell state sending.burst
  sent_well sending sent = subst (λ next. IfSome (option_map (λ s. s.burst) next) (GoesWell state)) sent (takes_all state sound).pump

  -- an answer breaks no rule
  b_well : (id : ℕ) (b : BBeat) → b_of state.memory id ≡ Some b → b_fault state.bridge b ≡ None
  b_well id b given = subst (λ next. IfSome next (λ beat. b_fault state.bridge beat ≡ None)) given ((takes_all state sound).b id)

  r_well : (id : ℕ) (r : RBeat) → r_of state.memory id ≡ Some r → r_fault state.bridge r ≡ None
  r_well id r given = subst (λ next. IfSome next (λ beat. r_fault state.bridge beat ≡ None)) given ((takes_all state sound).r id)

-- each burst that a run sends is legal
legal_along : (config : Config) (state : WorldState) (steps : List Step) → state.bridge.requests.config ≡ config → AreSoundAlong state steps
    → IsTrue (list_all (is_legal config.axi_bytes) (bursts_along state steps))
legal_along config state [] same along = refl
legal_along config state (step ∷ steps) same along =
    each_way Goes state
    (record {
      quiet = λ event answer still rest. rest;
      begins = λ client beat taken rest. rest;
      accepts = λ client beat accepted rest. rest;
      sends = λ sending sent rest. and_from _ _ (legal sending sent) rest;
      performs = λ serial beat memory done rest. rest;
      gives_b = λ id b given rest. rest;
      gives_r = λ id r given rest. rest;
      hands_out = λ client request known first rest. rest;
    })
    step (legal_along config (next state step).state steps (config_next state step ∙ same) along.1)
  where
    Goes : Step → Outcome → Type 0
    Goes event outcome =
        IsTrue (list_all (is_legal config.axi_bytes) (bursts_along outcome.state steps))
        → IsTrue (list_all (is_legal config.axi_bytes) (cons_option outcome.burst (bursts_along outcome.state steps)))

    legal : (sending : Sending) → next_sending state.bridge.requests ≡ Some sending → is_legal config.axi_bytes sending.burst ≡ true
    legal sending sent = subst (λ kept. is_legal kept.axi_bytes sending.burst ≡ true) same (sent_well state along.0 sending sent).legal

-- an answer that leaves all as it is tells no AXI beat
quiet_history : (answer : Answer) (answers : List Answer) (bursts : List Burst) → leaves_all answer ≡ true → axi_history (answer ∷ answers) bursts ≡ axi_history answers bursts
quiet_history answer answers bursts still = grind (arith, still)

-- no beat of a run, sent or answered, breaks a rule at its place
fine_along : (config : Config) (state : WorldState) (steps : List Step) → state.bridge.requests.config ≡ config → AreSoundAlong state steps
    → first_axi_fault (axi_port_of config) state.bridge.open_bursts (axi_history (answers_of state steps) (bursts_along state steps)) ≡ None
fine_along config state [] same along = refl
fine_along config state (step ∷ steps) same along =
    each_way Goes state
    (record {
      quiet = λ event answer still rest. rw (quiet_history answer _ _ still) rest;
      begins = λ client beat taken rest. rest;
      accepts = λ client beat accepted rest. rest;
      sends = λ sending sent rest. sent_fine sending _ sent rest;
      performs = λ serial beat memory done rest. rest;
      gives_b = λ id b given rest. answer_fine (OnB b) _ (b_well state along.0 id b given) rest;
      gives_r = λ id r given rest. answer_fine (OnR r) _ (r_well state along.0 id r given) rest;
      hands_out = λ client request known first rest. rest;
    })
    step (fine_along config (next state step).state steps (config_next state step ∙ same) along.1)
  where
    Goes : Step → Outcome → Type 0
    Goes event outcome =
        first_axi_fault (axi_port_of config) outcome.state.bridge.open_bursts (axi_history (answers_of outcome.state steps) (bursts_along outcome.state steps)) ≡ None
        → first_axi_fault (axi_port_of config) state.bridge.open_bursts
        (axi_history (outcome.answer ∷ answers_of outcome.state steps) (cons_option outcome.burst (bursts_along outcome.state steps)))
        ≡ None

    sent_fine : (sending : Sending) (later : List AxiBeat) → next_sending state.bridge.requests ≡ Some sending
        → first_axi_fault (axi_port_of config) (open_with_burst state.bridge.open_bursts sending.burst) later ≡ None
        → first_axi_fault (axi_port_of config) state.bridge.open_bursts (beats_sent sending.burst ++ later) ≡ None
    sent_fine sending later sent rest =
        first_axi_fault-burst (axi_port_of config) state.bridge.open_bursts sending.burst later along.0.bridge_laws.filled
        (subst (λ kept. burst_fault (axi_port_of kept) state.bridge.open_bursts sending.burst ≡ None) same (sent_well state along.0 sending sent).unbroken)
        ∙ rest

    answer_fine : (beat : AxiBeat) (later : List AxiBeat) → axi_fault (axi_port_of state.bridge.requests.config) state.bridge.open_bursts beat ≡ None
        → first_axi_fault (axi_port_of config) (open_after state.bridge.open_bursts beat) later ≡ None → first_axi_fault (axi_port_of config) state.bridge.open_bursts (beat ∷ later) ≡ None
    answer_fine beat later fine rest = grind (arith, fine, rest)

-- ---- the field of the main statement

-- all traffic of a run is legal
pub traffic : (setup : SetupLists) (steps : List Step) → AreSoundAlong (opening_world setup) steps
    → IsLegalTraffic setup (answers_of (opening_world setup) steps) (sent_in (opening_world setup) steps)
traffic setup steps along =
    record {
      bursts = bursts_along (opening_world setup) steps;
      whole = refl;
      paired = paired_along (opening_world setup) steps;
      legal = legal_along setup.config (opening_world setup) steps refl along;
      in_place = fine;
      in_order = unbroken_is_in_order (axi_port_of setup.config) (axi_history (answers_of (opening_world setup) steps) (bursts_along (opening_world setup) steps)) fine;
    }
  where
    fine : first_axi_fault (axi_port_of setup.config) nothing_open (axi_history (answers_of (opening_world setup) steps) (bursts_along (opening_world setup) steps)) ≡ None
    fine = fine_along setup.config (opening_world setup) steps refl along

-- ---- all together

-- the requests that a run accepts
abbrev pub run_requests : SetupLists → List Step → List WholeRequest
run_requests setup steps = accepted_in steps (answers_of (opening_world setup) steps)

-- the order of a run: its replies are those of its requests one at a time, and once it is quiet so is its memory
pub record IsCarriedOut (setup : SetupLists) (steps : List Step) : Type 0 where
  pub replies : AllByRecursion (IsReplyTo (run_requests setup steps) (replies_of setup (run_requests setup steps))) (handed_in (opening_world setup) steps)
  pub memory :
      IsQuiet (after (opening_world setup) steps) → (address : ℕ)
      → byte_of (after (opening_world setup) steps) address ≡ byte_shown setup (bytes_of_all setup (run_requests setup steps)) address

-- of the definitions, for every list of events
pub one_at_a_time :
    (setup : SetupLists) (steps : List Step) → AreSoundAlong (opening_world setup) steps → IsCarriedOut setup steps
    → IsOneAtATime setup steps (answers_of (opening_world setup) steps) (handed_in (opening_world setup) steps) (sent_in (opening_world setup) steps) (in_flight (after (opening_world setup) steps))
    (byte_of (after (opening_world setup) steps))
one_at_a_time setup steps along carried_out =
    record {
      answered = answered setup steps;
      numbered = numbered setup steps;
      spelled = spelled setup steps;
      as_many = as_many setup steps;
      told = told setup steps;
      replies = carried_out.replies;
      once = once setup steps along;
      memory = carried_out.memory;
      traffic = traffic setup steps along;
    }

-- of a record that is that of the run
pub one_at_a_time_of :
    (setup : SetupLists) (steps : List Step) (answers : List Answer) (replies : List Handed) (d_beats : List DBeat) (sent : List SentBeat) (world : WorldState)
    → AreSoundAlong (opening_world setup) steps → IsCarriedOut setup steps → IsRunOf setup steps answers replies d_beats sent world
    → IsOneAtATime setup steps answers (handed_of replies d_beats) sent (in_flight world) (byte_of world)
one_at_a_time_of setup steps answers replies d_beats sent world along carried_out ran =
    subst (λ given. IsOneAtATime setup steps given (handed_of replies d_beats) sent (in_flight world) (byte_of world)) (sym ran.answers_kept)
    (subst (λ handed. IsOneAtATime setup steps (answers_of (opening_world setup) steps) handed sent (in_flight world) (byte_of world)) (sym ran.replies_kept)
    (subst (λ beats. IsOneAtATime setup steps (answers_of (opening_world setup) steps) (handed_in (opening_world setup) steps) beats (in_flight world) (byte_of world)) (sym ran.sent_kept)
    (subst
    (λ state. IsOneAtATime setup steps (answers_of (opening_world setup) steps) (handed_in (opening_world setup) steps) (sent_in (opening_world setup) steps) (in_flight state) (byte_of state))
    (sym ran.world_kept)
    (one_at_a_time setup steps along carried_out))))
