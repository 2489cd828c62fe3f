-- What a run's answers tell: one answer for each event, the numbers of the requests that were accepted, what their beats spell, and who
-- took which reply. It knows the bridge; the memory plays no part.
use Rattle.std.proofs.Common.{◌≡◌, ℕ, ◌<◌, suc, true, List, [], ◌∷◌, ◌++◌, map, length, Option, option_to_list, refl, sym, subst, ap, ap₂, ◌∙◌, zip, arith}
use Rattle.std.specs.List.{AllByRecursion, cons_option, range_with_len}
use Rattle.std.proofs.lemmas.Bool.{leb-false}
use Rattle.tl_messages.specs.Requests.{request_of}
use Rattle.tl_messages.specs.declared.ABeat.{ABeat}
use Rattle.tl_messages.specs.declared.DBeat.{DBeat}
use Rattle.bridge_core.specs.Bridge.{BridgeState, message_with}
use Rattle.config.specs.declared.Config.{Config}
use Rattle.meaning.specs.InTurn.{IsSpelled, AcceptedMessage, requests_of}
use Rattle.world_run.specs.Runs.{Heard, heard_nothing, HandedReply, messages_from, messages_in, accepted_numbers, accepted_in, answers_of, whose, replies_told, handed_at, handed_by, handed_in}
use Rattle.setups.specs.Setups.{SetupLists}
use Rattle.world.specs.World.{WorldState, Outcome, opening_world, outcomes, next, leaves_all}
use Rattle.world.specs.declared.Answer.{Answer}
use Rattle.world.specs.declared.Answer.TheVariants.{Reply}
use Rattle.world.specs.declared.Step.{Step}
use Rattle.world.specs.declared.Step.TheVariants.{Take}
use Rattle.world_run.proofs.AcceptedRequests.{IsHeard, accepted_at_step, heard_after, heard_at_first, heard_next, known_heard, message_at, messages_from-next, quiet_message, quiet_request, request_at, whole_heard}
use Rattle.world.proofs.Events.{IsAccepted, each_way}

-- ---- one answer for each event

-- each event has its answer
pub length-answers_of : (state : WorldState) (steps : List Step) → length (answers_of state steps) ≡ length steps
length-answers_of state [] = refl
length-answers_of state (step ∷ steps) = ap suc (length-answers_of (next state step).state steps)

-- ---- who took which reply

-- the reply that one event handed out is the one that its answer tells
told_at :
    (step : Step) (answer : Answer) (beats : List DBeat) (handed : List HandedReply) (rest : List (Step × Answer)) → map whose handed ≡ replies_told rest
    → map whose (cons_option (handed_at step answer beats) handed) ≡ replies_told ((step, answer) ∷ rest)
told_at (Take client) (Reply number) beats handed rest told = ap (λ replies. (client, number) ∷ replies) told
told_at _ _ beats handed rest told = told

-- the replies that any outcomes hand out are those that their answers tell
told_by : (steps : List Step) (results : List Outcome) → map whose (handed_by (zip steps results)) ≡ replies_told (zip steps (map (λ outcome. outcome.answer) results))
told_by [] results = refl
told_by (step ∷ steps) [] = refl
told_by (step ∷ steps) (outcome ∷ results) = told_at step outcome.answer outcome.reply _ _ (told_by steps results)

-- replies went as the answers tell
pub told_in : (state : WorldState) (steps : List Step) → map whose (handed_in state steps) ≡ replies_told (zip steps (answers_of state steps))
told_in state steps = told_by steps (outcomes state steps)

-- ---- the requests that were accepted, where the fronts are what was heard

-- the messages of a run, after what was heard before it
abbrev pub messages_along : Heard → WorldState → List Step → List AcceptedMessage
messages_along heard state steps = messages_from heard (zip steps (answers_of state steps))

-- how many messages, and requests, a list has with the first before it
one_counted : {A B : Type 0} (a : Option A) (b : Option B) (xs : List A) (ys : List B) → length (option_to_list a) ≡ length (option_to_list b) → length xs ≡ length ys
    → length (cons_option a xs) ≡ length (cons_option b ys)
one_counted a b xs ys here rest = grind (arith, here, rest)

-- each message that is completed is a request
request_for : (bridge : BridgeState) (heard : Heard) (step : Step) (answer : Answer) → length (option_to_list (request_at bridge step answer)) ≡ length (option_to_list (message_at heard step answer))
request_for bridge heard step answer = grind arith

-- each accepted message has its request
pub as_many_along : (config : Config) (state : WorldState) (heard : Heard) (steps : List Step) → IsHeard config state.bridge heard
    → length (requests_of (messages_along heard state steps)) ≡ length (messages_along heard state steps)
as_many_along config state heard [] is = refl
as_many_along config state heard (step ∷ steps) is =
    let answer = (next state step).answer in
    let later = zip steps (answers_of (next state step).state steps) in
    ap length (accepted_at_step config state.bridge heard step answer later is)
    ∙ one_counted (request_at state.bridge step answer) (message_at heard step answer) _ _ (request_for state.bridge heard step answer)
    (as_many_along config (next state step).state (heard_after heard step answer) steps (heard_next config state heard step is))
    ∙ ap length (sym (messages_from-next heard step answer later))

-- an answer that leaves all as it is gives no number
quiet_numbers : (answer : Answer) (answers : List Answer) → leaves_all answer ≡ true → accepted_numbers (answer ∷ answers) ≡ accepted_numbers answers
quiet_numbers answer answers still = grind (arith, still)

-- the answers number the requests that a run accepts on from those accepted before it
pub numbered_along : (config : Config) (state : WorldState) (heard : Heard) (steps : List Step) → IsHeard config state.bridge heard
    → accepted_numbers (answers_of state steps) ≡ range_with_len state.bridge.requests.accepted (length (requests_of (messages_along heard state steps)))
numbered_along config state heard [] is = refl
numbered_along config state heard (step ∷ steps) is =
    each_way Goes state
    (record {
      quiet = λ event answer still rest. rw (quiet_request state.bridge event answer still) (quiet_numbers answer _ still ∙ rest);
      begins = λ client beat taken rest. rest;
      accepts = λ client beat accepted rest. ap (λ numbers. state.bridge.requests.accepted ∷ numbers) rest;
      sends = λ sending sent rest. rest;
      performs = λ serial beat memory done rest. rest;
      gives_b = λ id b given rest. rest;
      gives_r = λ id r given rest. rest;
      hands_out = λ client request known first rest. rest;
    })
    step (numbered_along config (next state step).state (heard_after heard step (next state step).answer) steps (heard_next config state heard step is))
    ∙ ap (λ requests. range_with_len state.bridge.requests.accepted (length requests)) (sym (accepted_at_step config state.bridge heard step (next state step).answer _ is))
  where
    Goes : Step → Outcome → Type 0
    Goes event outcome =
        accepted_numbers (answers_of outcome.state steps)
        ≡ range_with_len outcome.state.bridge.requests.accepted (length (requests_of (messages_along (heard_after heard event outcome.answer) outcome.state steps)))
        → accepted_numbers (outcome.answer ∷ answers_of outcome.state steps)
        ≡ range_with_len state.bridge.requests.accepted
        (length (cons_option (request_at state.bridge event outcome.answer) (requests_of (messages_along (heard_after heard event outcome.answer) outcome.state steps))))

-- ---- what the beats of an accepted request spell

-- a message that is completed is one of a client that there is, and spells the request that the bridge makes of it
pub spelled_at : (setup : SetupLists) (state : WorldState) (heard : Heard) (client : ℕ) (beat : ABeat) → IsHeard setup.config state.bridge heard → IsAccepted state.bridge client beat
    → IsSpelled setup (record { client = client; beats = heard client ++ beat ∷ [] }, request_of (message_with state.bridge client beat))
spelled_at setup state heard client beat is accepted =
    let known : client < setup.config.clients = leb-false setup.config.clients client (known_heard setup.config state.bridge heard client is accepted.taken.known) in
    record { client = known; spells = (whole_heard is client beat accepted.taken).spells }

-- each accepted message of a run spells its request
pub spelled_along : (setup : SetupLists) (state : WorldState) (heard : Heard) (steps : List Step) → IsHeard setup.config state.bridge heard
    → AllByRecursion (IsSpelled setup) (zip (messages_along heard state steps) (requests_of (messages_along heard state steps)))
spelled_along setup state heard [] is = tt
spelled_along setup state heard (step ∷ steps) is =
    let answer = (next state step).answer in
    let later = zip steps (answers_of (next state step).state steps) in
    subst (λ pairs. AllByRecursion (IsSpelled setup) pairs)
    (ap₂ zip (sym (messages_from-next heard step answer later)) (sym (accepted_at_step setup.config state.bridge heard step answer later is)))
    (each_way Goes state
    (record {
      quiet = λ event answer still rest. rw (quiet_request state.bridge event answer still, quiet_message heard event answer still) rest;
      begins = λ client beat taken rest. rest;
      accepts = λ client beat accepted rest. (spelled_at setup state heard client beat is accepted, rest);
      sends = λ sending sent rest. rest;
      performs = λ serial beat memory done rest. rest;
      gives_b = λ id b given rest. rest;
      gives_r = λ id r given rest. rest;
      hands_out = λ client request known first rest. rest;
    })
    step (spelled_along setup (next state step).state (heard_after heard step answer) steps (heard_next setup.config state heard step is)))
  where
    Goes : Step → Outcome → Type 0
    Goes event outcome =
        AllByRecursion (IsSpelled setup)
        (zip (messages_along (heard_after heard event outcome.answer) outcome.state steps) (requests_of (messages_along (heard_after heard event outcome.answer) outcome.state steps)))
        → AllByRecursion (IsSpelled setup)
        (zip (cons_option (message_at heard event outcome.answer) (messages_along (heard_after heard event outcome.answer) outcome.state steps))
        (cons_option (request_at state.bridge event outcome.answer) (requests_of (messages_along (heard_after heard event outcome.answer) outcome.state steps))))

-- ---- the fields of the main statement

-- each event has its answer
pub answered : (setup : SetupLists) (steps : List Step) → length (answers_of (opening_world setup) steps) ≡ length steps
answered setup steps = length-answers_of (opening_world setup) steps

-- the accepted requests have the numbers from 0
pub numbered : (setup : SetupLists) (steps : List Step)
    → accepted_numbers (answers_of (opening_world setup) steps) ≡ range_with_len 0 (length (accepted_in steps (answers_of (opening_world setup) steps)))
numbered setup steps = numbered_along setup.config (opening_world setup) heard_nothing steps (heard_at_first setup)

-- each accepted message spells its request
pub spelled : (setup : SetupLists) (steps : List Step)
    → AllByRecursion (IsSpelled setup) (zip (messages_in steps (answers_of (opening_world setup) steps)) (accepted_in steps (answers_of (opening_world setup) steps)))
spelled setup steps = spelled_along setup (opening_world setup) heard_nothing steps (heard_at_first setup)

-- and has it
pub as_many : (setup : SetupLists) (steps : List Step)
    → length (accepted_in steps (answers_of (opening_world setup) steps)) ≡ length (messages_in steps (answers_of (opening_world setup) steps))
as_many setup steps = as_many_along setup.config (opening_world setup) heard_nothing steps (heard_at_first setup)

-- replies went as the answers tell
pub told : (setup : SetupLists) (steps : List Step)
    → map whose (handed_in (opening_world setup) steps) ≡ replies_told (zip steps (answers_of (opening_world setup) steps))
told setup steps = told_in (opening_world setup) steps
