-- The beats that a run shows tell what the bridge holds: each client's front is what was heard of it, and so each request that is accepted
-- is the message that the bridge makes of its last beat. It knows beats and answers; the memory plays no part.
use Rattle.std.proofs.Common.{◌≡◌, ℕ, ◌+◌, inl, inr, true, false, List, [], ◌∷◌, ◌++◌, length, Option, Some, None, Ok, option_to_list, zero, suc, refl, sym, subst, ap, ◌∙◌, arith, append_assoc, length-append, zip, ◌==◌, ◌≢◌, nat_le, option_map, slice_get, slice_set, if◌then◌else◌}
use Rattle.std.specs.List.{cons_option}
use Rattle.std.specs.Option.{option_flatten}
use Rattle.std.proofs.lemmas.Bool.{cases_eq, eq-eqb, ne_eqb, leb-false}
use Rattle.std.proofs.lemmas.Option.{same_Some}
use Rattle.std.proofs.lemmas.List.{length-set, length-replicate}
use Rattle.bus_words.proofs.StoredPlaces.{get_set, get_set-other}
use Rattle.tl_messages.specs.Requests.{HeldMessage, WholeRequest, held_of, request_of}
use Rattle.tl_messages.specs.declared.ABeat.{ABeat}
use Rattle.tl_checker.specs.Ports.{IsFrontOf, IsSpellingOf, ReadsAs, joined, judged, is_free}
use Rattle.tl_checker.specs.RequestRules.{Spells}
use Rattle.tl_checker.specs.declared.Progress.{Progress}
use Rattle.tl_checker.specs.declared.Progress.TheVariants.{More as Begins, Whole}
use Rattle.tl_checker.proofs.Fronts.{none_front}
use Rattle.tl_checker.proofs.Taking.{held-append, reads, whole_by}
use Rattle.flight_table.specs.Tables.{is_busy}
use Rattle.bridge_core.specs.Bridge.{BridgeState, front_of, message_with, verdict_on, with_front}
use Rattle.config.specs.Configs.{port_of}
use Rattle.bridge_core.specs.HeldRequests.{flight_table_of}
use Rattle.config.specs.declared.Config.{Config}
use Rattle.bridge_core.proofs.Openings.{nothing_begun}
use Rattle.world_run.specs.Runs.{Heard, heard_nothing, with_heard, messages_from, accepted_in, answers_of}
use Rattle.meaning.specs.InTurn.{AcceptedMessage, requests_of}
use Rattle.setups.specs.Setups.{SetupLists}
use Rattle.world.specs.World.{WorldState, Outcome, opening_world, next, leaves_all}
use Rattle.world.specs.declared.Answer.{Answer}
use Rattle.world.specs.declared.Answer.TheVariants.{More, Accepted}
use Rattle.world.specs.declared.Step.{Step}
use Rattle.world.specs.declared.Step.TheVariants.{Offer}
use Rattle.world.proofs.Events.{IsTaken, after_accepted, each_way}

-- ---- what one event tells

-- what was heard after an event
abbrev pub heard_after : Heard → Step → Answer → Heard
heard_after heard (Offer client beat) More = with_heard client (heard client ++ beat ∷ []) heard
heard_after heard (Offer client beat) (Accepted number) = with_heard client [] heard
heard_after heard _ _ = heard

-- the message that an event completes, if it does
abbrev pub message_at : Heard → Step → Answer → Option AcceptedMessage
message_at heard (Offer client beat) (Accepted number) = Some (record { client = client; beats = heard client ++ beat ∷ [] })
message_at heard _ _ = None

-- the request that it makes accepted, as the bridge has it
abbrev pub request_at : BridgeState → Step → Answer → Option WholeRequest
request_at bridge (Offer client beat) (Accepted number) = Some (request_of (message_with bridge client beat))
request_at bridge _ _ = None

-- the messages of a list of events are that of the first and those of the others
pub messages_from-next : (heard : Heard) (step : Step) (answer : Answer) (rest : List (Step × Answer))
    → messages_from heard ((step, answer) ∷ rest) ≡ cons_option (message_at heard step answer) (messages_from (heard_after heard step answer) rest)
messages_from-next heard step answer rest = grind arith

-- an answer that leaves all as it is tells nothing
pub quiet_heard : (heard : Heard) (step : Step) (answer : Answer) → leaves_all answer ≡ true → heard_after heard step answer ≡ heard
quiet_heard heard step answer still = grind (arith, still)

pub quiet_message : (heard : Heard) (step : Step) (answer : Answer) → leaves_all answer ≡ true → message_at heard step answer ≡ None
quiet_message heard step answer still = grind (arith, still)

pub quiet_request : (bridge : BridgeState) (step : Step) (answer : Answer) → leaves_all answer ≡ true → request_at bridge step answer ≡ None
quiet_request bridge step answer still = grind (arith, still)

-- ---- what was heard is what the bridge holds

-- each client's front is what was heard of it, which is the beginning of a message that its port takes
pub record IsHeard (config : Config) (bridge : BridgeState) (heard : Heard) : Type 0 where
  pub config_kept : bridge.requests.config ≡ config
  pub fronts : length bridge.fronts ≡ config.clients
  pub front : (client : ℕ) → IsFrontOf (port_of config client) (heard client) (front_of bridge client)

-- nothing was heard before the first event
pub heard_at_first : (setup : SetupLists) → IsHeard setup.config (opening_world setup).bridge heard_nothing
heard_at_first setup =
    record {
      config_kept = refl;
      fronts = length-replicate setup.config.clients None;
      front = λ client. record { begins = none_front (port_of setup.config client); held = sym (nothing_begun setup.config.clients client) };
    }

-- what is held of the beats heard and one more is the message that the bridge makes of it
pub completed_heard : (config : Config) (bridge : BridgeState) (heard : Heard) (client : ℕ) (beat : ABeat) → IsHeard config bridge heard
    → held_of client (heard client ++ beat ∷ []) ≡ Some (message_with bridge client beat)
completed_heard config bridge heard client beat is =
    held-append (port_of config client) (heard client) beat
    ∙ ap (λ front. Some (joined (port_of config client) front beat)) (is.front client).held
    ∙ ap (λ kept. Some (joined (port_of kept client) (front_of bridge client) beat)) (sym is.config_kept)

-- so it is of every event
pub request_in-at : (config : Config) (bridge : BridgeState) (heard : Heard) (step : Step) (answer : Answer) (messages : List AcceptedMessage) → IsHeard config bridge heard
    → requests_of (cons_option (message_at heard step answer) messages) ≡ cons_option (request_at bridge step answer) (requests_of messages)
request_in-at config bridge heard (Offer client beat) (Accepted number) messages is =
    ap (λ held. cons_option (option_map request_of held) (requests_of messages)) (completed_heard config bridge heard client beat is)
request_in-at config bridge heard _ _ messages is = refl

-- the accepted requests of a list of events are that of the first and those of the others
pub accepted_at_step : (config : Config) (bridge : BridgeState) (heard : Heard) (step : Step) (answer : Answer) (rest : List (Step × Answer)) → IsHeard config bridge heard
    → requests_of (messages_from heard ((step, answer) ∷ rest))
    ≡ cons_option (request_at bridge step answer) (requests_of (messages_from (heard_after heard step answer) rest))
accepted_at_step config bridge heard step answer rest is =
    ap requests_of (messages_from-next heard step answer rest) ∙ request_in-at config bridge heard step answer (messages_from (heard_after heard step answer) rest) is

-- ---- one event more

-- a client's front and what was heard of it change together
with_front_heard : (config : Config) (bridge : BridgeState) (heard : Heard) (client : ℕ) (beats : List ABeat) (front : Option HeldMessage) → IsHeard config bridge heard
    → nat_le config.clients client ≡ false → IsFrontOf (port_of config client) beats front → IsHeard config (with_front client front bridge) (with_heard client beats heard)
with_front_heard config bridge heard client beats front is known own =
    record {
      config_kept = is.config_kept;
      fronts = length-set bridge.fronts client front ∙ is.fronts;
      front = λ other. elim (cases_eq other client) [ inl same ↦ subst Fits (sym same) fits | inr differs ↦ kept other differs ];
    }
  where
    Fits : ℕ → Type 0
    Fits of = IsFrontOf (port_of config of) (if of == client then beats else heard of) (option_flatten (slice_get (slice_set bridge.fronts client front) of))

    fits : Fits client
    fits =
        rw (eq-eqb client client refl, get_set bridge.fronts client front (omega (arith, leb-false config.clients client known, is.fronts)))
        own

    kept : (other : ℕ) → other ≢ client → Fits other
    kept other differs = rw (ne_eqb other client differs, get_set-other bridge.fronts client other front differs) (is.front other)

-- another table of requests of the same bridge changes no front
with_requests_heard : (config : Config) (old new : BridgeState) (heard : Heard) → new.requests.config ≡ old.requests.config → new.fronts ≡ old.fronts → IsHeard config old heard → IsHeard config new heard
with_requests_heard config old new heard config_same same is =
    record {
      config_kept = config_same ∙ is.config_kept;
      fronts = ap length same ∙ is.fronts;
      front = λ client. subst (λ fronts. IsFrontOf (port_of config client) (heard client) (option_flatten (slice_get fronts client))) (sym same) (is.front client);
    }

-- a client of the bridge is one of the set-up
pub known_heard : (config : Config) (bridge : BridgeState) (heard : Heard) (client : ℕ) → IsHeard config bridge heard → nat_le bridge.requests.config.clients client ≡ false → nat_le config.clients client ≡ false
known_heard config bridge heard client is known = ap (λ kept. nat_le kept.clients client) (sym is.config_kept) ∙ known

-- what is heard of a client, with a beat that its port takes
module _ {config : Config} {bridge : BridgeState} {heard : Heard} (is : IsHeard config bridge heard) (client : ℕ) (beat : ABeat) where
  -- the verdict of the port, on what was heard
  verdict_heard : (progress : Progress) → verdict_on bridge client beat ≡ Ok progress
      → judged (port_of config client) (held_of client (heard client)) beat (is_busy (flight_table_of bridge.requests) client beat.source) ≡ Ok progress
  verdict_heard progress verdict = grind (arith, verdict)

  reads_heard : ReadsAs (port_of config client) (heard client ++ beat ∷ []) (is_free (held_of client (heard client)) (is_busy (flight_table_of bridge.requests) client beat.source))
      (judged (port_of config client) (held_of client (heard client)) beat (is_busy (flight_table_of bridge.requests) client beat.source))
      (whole_by (judged (port_of config client) (held_of client (heard client)) beat (is_busy (flight_table_of bridge.requests) client beat.source)) (joined (port_of config client) (held_of client (heard client)) beat))
  reads_heard = reads (port_of config client) (heard client) beat (is_busy (flight_table_of bridge.requests) client beat.source) (is.front client).begins

  -- a beat that doesn't end a message
  pub begun_heard : IsTaken bridge client beat Begins → IsFrontOf (port_of config client) (heard client ++ beat ∷ []) (Some (message_with bridge client beat))
  begun_heard taken =
      record {
        begins = (reads_heard.more.0 (verdict_heard Begins taken.verdict)).1;
        held = completed_heard config bridge heard client beat is;
      }

  -- a beat that ends one
  pub whole_heard : IsTaken bridge client beat Whole → IsSpellingOf (port_of config client) (heard client ++ beat ∷ []) (message_with bridge client beat)
  whole_heard taken =
      let judges = verdict_heard Whole taken.verdict in
      let stands = ap (λ answer. option_map request_of (whole_by answer (joined (port_of config client) (held_of client (heard client)) beat))) judges in
      let same : request_of (joined (port_of config client) (held_of client (heard client)) beat) ≡ request_of (message_with bridge client beat) =
      ap request_of (same_Some _ _ (sym (held-append (port_of config client) (heard client) beat) ∙ completed_heard config bridge heard client beat is)) in
      record {
        spells = subst (Spells (port_of config client) (heard client ++ beat ∷ [])) same ((reads_heard.spelled _).0 (judges, stands)).1;
        held = completed_heard config bridge heard client beat is;
      }

-- an event keeps what was heard and what the bridge holds the same
pub heard_next : (config : Config) (state : WorldState) (heard : Heard) (step : Step) → IsHeard config state.bridge heard
    → IsHeard config (next state step).state.bridge (heard_after heard step (next state step).answer)
heard_next config state heard step is = each_way Goes state
    (record {
      quiet = λ event answer still. rw (quiet_heard heard event answer still) is;
      begins = λ client beat taken.
          with_front_heard config state.bridge heard client (heard client ++ beat ∷ []) (Some (message_with state.bridge client beat)) is (known_heard config state.bridge heard client is taken.known) (begun_heard is client beat taken);
      accepts = λ client beat accepted.
          with_requests_heard config (with_front client None state.bridge) (after_accepted state.bridge client beat) (with_heard client [] heard) refl refl
          (with_front_heard config state.bridge heard client [] None is (known_heard config state.bridge heard client is accepted.taken.known) (record { begins = none_front (port_of config client); held = refl }));
      sends = λ sending sent. with_requests_heard config state.bridge _ heard refl refl is;
      performs = λ serial beat memory done. is;
      gives_b = λ id b given. with_requests_heard config state.bridge _ heard refl refl is;
      gives_r = λ id r given. with_requests_heard config state.bridge _ heard refl refl is;
      hands_out = λ client request known first. with_requests_heard config state.bridge _ heard refl refl is;
    })
    step
  where
    Goes : Step → Outcome → Type 0
    Goes event outcome = IsHeard config outcome.state.bridge (heard_after heard event outcome.answer)

-- ---- all requests that a run accepts

-- the entry after those before it
slice_get_after : {A : Type 0} (before : List A) (x : A) (more : List A) (n : ℕ) → length before ≡ n → slice_get (before ++ x ∷ more) n ≡ Some x
slice_get_after [] x more zero is = refl
slice_get_after [] x more (suc n) is = absurd (cc)
slice_get_after (y ∷ before) x more zero is = absurd (cc)
slice_get_after (y ∷ before) x more (suc n) is = slice_get_after before x more n (omega (arith, is))

-- of the requests that a whole run accepts, those that are accepted so far and those that its other events make accepted
pub record HasAccepted (requests : List WholeRequest) (state : WorldState) (steps : List Step) : Type 0 where
  pub heard : Heard
  pub is_heard : IsHeard state.bridge.requests.config state.bridge heard
  pub past : List WholeRequest
  pub all : requests ≡ past ++ requests_of (messages_from heard (zip steps (answers_of state steps)))
  pub count : length past ≡ state.bridge.requests.accepted

-- before the first event none is
pub has_accepted-opening : (setup : SetupLists) (steps : List Step) → HasAccepted (accepted_in steps (answers_of (opening_world setup) steps)) (opening_world setup) steps
has_accepted-opening setup steps = record { heard = heard_nothing; is_heard = heard_at_first setup; past = []; all = refl; count = refl }

-- an event counts the request that it makes accepted
abbrev CountsAccepted : WorldState → Step → Outcome → Type 0
CountsAccepted state event outcome =
    outcome.state.bridge.requests.accepted ≡ state.bridge.requests.accepted + length (option_to_list (request_at state.bridge event outcome.answer))

accepted_count : (state : WorldState) (step : Step) → CountsAccepted state step (next state step)
accepted_count state step = each_way (CountsAccepted state) state
    (record {
      quiet = λ event answer still. rw (quiet_request state.bridge event answer still) none;
      begins = λ client beat taken. none;
      accepts = λ client beat accepted. refl;
      sends = λ sending sent. none;
      performs = λ serial beat memory done. none;
      gives_b = λ id b given. none;
      gives_r = λ id r given. none;
      hands_out = λ client request known first. none;
    })
    step
  where
    none : state.bridge.requests.accepted ≡ state.bridge.requests.accepted + 0
    none = omega arith

-- an event keeps the limits
pub config_next : (state : WorldState) (step : Step) → (next state step).state.bridge.requests.config ≡ state.bridge.requests.config
config_next state step = each_way (λ event outcome. outcome.state.bridge.requests.config ≡ state.bridge.requests.config) state
    (record {
      quiet = λ event answer still. refl;
      begins = λ client beat taken. refl;
      accepts = λ client beat accepted. refl;
      sends = λ sending sent. refl;
      performs = λ serial beat memory done. refl;
      gives_b = λ id b given. refl;
      gives_r = λ id r given. refl;
      hands_out = λ client request known first. refl;
    })
    step

-- an optional entry before a list
pub cons_option-list : {A : Type 0} (o : Option A) (xs : List A) → cons_option o xs ≡ option_to_list o ++ xs
cons_option-list o xs = grind arith

-- an event keeps it
pub has_accepted-next : (requests : List WholeRequest) (state : WorldState) (step : Step) (steps : List Step) → HasAccepted requests state (step ∷ steps)
    → HasAccepted requests (next state step).state steps
has_accepted-next requests state step steps has =
    record {
      heard = heard_after has.heard step answer;
      is_heard =
          subst (λ config. IsHeard config (next state step).state.bridge (heard_after has.heard step answer)) (sym (config_next state step))
          (heard_next state.bridge.requests.config state has.heard step has.is_heard);
      past = has.past ++ here;
      all =
          has.all
          ∙ ap (λ others. has.past ++ others)
          (accepted_at_step state.bridge.requests.config state.bridge has.heard step answer (zip steps (answers_of (next state step).state steps)) has.is_heard
          ∙ cons_option-list (request_at state.bridge step answer) later)
          ∙ sym (append_assoc has.past here later);
      count = length-append has.past here ∙ ap (λ n. n + length here) has.count ∙ sym (accepted_count state step);
    }
  where
    answer : Answer
    answer = (next state step).answer

    here : List WholeRequest
    here = option_to_list (request_at state.bridge step answer)

    later : List WholeRequest
    later = requests_of (messages_from (heard_after has.heard step answer) (zip steps (answers_of (next state step).state steps)))

-- a request that an event makes accepted is the one of its number
pub has_accepted-here : (requests : List WholeRequest) (state : WorldState) (step : Step) (steps : List Step) (q : WholeRequest) → HasAccepted requests state (step ∷ steps)
    → request_at state.bridge step (next state step).answer ≡ Some q → slice_get requests state.bridge.requests.accepted ≡ Some q
has_accepted-here requests state step steps q has is =
    ap (λ all. slice_get all state.bridge.requests.accepted) (has.all ∙ ap (λ others. has.past ++ others) split)
    ∙ slice_get_after has.past q later state.bridge.requests.accepted has.count
  where
    answer : Answer
    answer = (next state step).answer

    later : List WholeRequest
    later = requests_of (messages_from (heard_after has.heard step answer) (zip steps (answers_of (next state step).state steps)))

    split : requests_of (messages_from has.heard (zip (step ∷ steps) (answers_of state (step ∷ steps)))) ≡ q ∷ later
    split =
        accepted_at_step state.bridge.requests.config state.bridge has.heard step answer (zip steps (answers_of (next state step).state steps)) has.is_heard
        ∙ ap (λ request. cons_option request later) is
