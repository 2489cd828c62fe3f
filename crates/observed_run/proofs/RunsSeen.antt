-- What is seen of a run is right. After each event what was observed is in accord with the bridge: the messages that have begun are its fronts, the
-- outstanding bursts are its own, and what is left to tell a client of a source is the reply to its live request of that source. It knows that the
-- replies handed out are those of the accepted requests, one at a time; the memory plays no part.
use Rattle.std.proofs.Common.{◌≡◌, ℕ, ◌+◌, ◌<◌, ◌≤◌, ◌==◌, Bool, true, false, List, [], ◌∷◌, ◌++◌, map, length, Option, Some, None, option_to_list, ◌⊎◌, refl, sym, ◌∙◌, ap, subst, arith}
use Rattle.std.specs.Prelude.{◌≢◌, IfSome, nat_le, option_map, slice_get, zip}
use Rattle.std.specs.List.{AllByRecursion, cons_option}
use Rattle.std.proofs.lemmas.Bool.{and_parts, eqb-true, leb-false}
use Rattle.std.proofs.lemmas.List.{append-nil, append_assoc, length-append}
use Rattle.std.proofs.lemmas.List.Folds.{find-append}
use Rattle.bus_words.specs.Places.{without_first}
use Rattle.bus_words.proofs.PlaceChanges.{all-find, find-passes}
use Rattle.bus_words.proofs.FoundChanges.{find-alone, find-append-fails}
use Rattle.bus_words.proofs.MappedPlaces.{length-filter-map}
use Rattle.tl_messages.specs.Requests.{HeldMessage, WholeRequest, held_of, request_of}
use Rattle.tl_messages.specs.declared.ABeat.{ABeat}
use Rattle.tl_messages.specs.declared.DBeat.{DBeat}
use Rattle.tl_checker.specs.RequestRules.{IsFront}
use Rattle.tl_checker.specs.declared.Progress.TheVariants.{More as Begins}
use Rattle.tl_checker.proofs.Taken.{front_exact}
use Rattle.axi_beats.specs.declared.BBeat.{BBeat}
use Rattle.axi_beats.specs.declared.RBeat.{RBeat}
use Rattle.axi_checker.specs.OpenBursts.{OpenBursts, nothing_open}
use Rattle.axi_checker.specs.declared.AxiBeat.{AxiBeat}
use Rattle.axi_checker.specs.declared.AxiBeat.TheVariants.{B as OnB, R as OnR}
use Rattle.axi_checker.specs.Rules.{beats_sent, first_axi_fault, open_after_all}
use Rattle.axi_checker.proofs.Histories.{first_axi_fault-append}
use Rattle.axi_checker.proofs.Judging.{first_axi_fault-none}
use Rattle.axi_checker.proofs.LegalBursts.{open_after_all-burst, unbroken_burst}
use Rattle.burst_plan.specs.declared.Region.{Region}
use Rattle.flight_table.specs.Tables.{has_source}
use Rattle.responses.specs.Gathered.{gathered}
use Rattle.responses.specs.Shown.{Reply as ReplyGiven, shown}
use Rattle.bridge_core.specs.Bridge.{BridgeState, after_take, b_fault, front_of, message_with, r_fault}
use Rattle.config.specs.Configs.{axi_port_of, port_of}
use Rattle.bridge_core.specs.Laws.{IsFreeFront, IsServed}
use Rattle.bridge_core.specs.HeldRequests.{BridgedRequest, after_read, after_response, after_sending, oldest_done, holds, is_done_for, is_numbered, newly_live, outline_in, reply_beats}
use Rattle.bridge_core.specs.Sending.{Sending, next_sending}
use Rattle.subordinate.specs.Faults.{Faults}
use Rattle.subordinate.specs.FreeMemory.{b_of, r_of}
use Rattle.world_run.specs.Headline.{IsReplyTo}
use Rattle.meaning.specs.InTurn.{bytes_of_all, replies_of, requests_of}
use Rattle.world.specs.Laws.{AreSoundAlong, GoesWell, IsSoundWorld}
use Rattle.meaning.specs.Meaning.{Bytes, bytes_after_all, meaning, replies_in_order, zeros}
use Rattle.world_run.specs.Runs.{HandedReply, Heard, answers_of, handed_at, handed_in, heard_nothing}
use Rattle.setups.specs.Setups.{SetupLists, faults_of}
use Rattle.world.specs.World.{Outcome, WorldState, answered_b, answered_r, changed, next, opening_world, taken, unchanged}
use Rattle.world.specs.declared.Answer.TheVariants as answer
use Rattle.world.specs.declared.Step.{Step}
use Rattle.world.specs.declared.Step.TheVariants as step
use Rattle.world_run.proofs.AcceptedRequests.{IsHeard, accepted_at_step, completed_heard, cons_option-list, heard_after, heard_at_first, heard_next, known_heard, quiet_request, request_at}
use Rattle.world_run.proofs.CarriedOut.{is_carried_out}
use Rattle.world.proofs.Events.{EachWay, IsAccepted, IsTaken, after_accepted, after_begun, after_sending as after_sending_world, each_way}
use Rattle.world_run.proofs.MainTheorem.{run_requests}
use Rattle.world.proofs.TakesAll.{takes_all}
use Rattle.world_run.proofs.Told.{messages_along, spelled_at}
use Rattle.world_run.proofs.RunLemmas.{first_sound}
use Rattle.scoreboard.specs.Observed.{Observed, nothing_observed, observed_in, requests_in, with_begun, with_message, with_seen}
use Rattle.scoreboard.specs.Boards.{from_zeros}
use Rattle.scoreboard.specs.Flights.{no_footprint}
use Rattle.scoreboard.specs.InTurn.{DueBeat, dues_of}
use Rattle.scoreboard.specs.Right.{HasClient, IsContiguous, IsFree, IsPartly, IsRight, IsRightNow, left_of, replies_to}
use Rattle.observed_run.specs.SeenRuns.{observed, seen_from, seen_of, seen_of_reply}
use Rattle.scoreboard.specs.declared.ObservedBeat.{ObservedBeat}
use Rattle.scoreboard.specs.declared.ObservedBeat.TheVariants.{A, Axi}
use Rattle.scoreboard.proofs.acceptance_order.BoardOf.{dues_given, given_after, shown_source}
use Rattle.scoreboard.proofs.acceptance_order.Fixed.{dues_from_zeros}
use Rattle.observed_run.proofs.LiveReplies.{asks, find-taken-other, find-taken-own, free_before, owed, owed_changed, owed_none, owed_to, read_same, response_same}
use Rattle.scoreboard.proofs.acceptance_order.DueLists.{AreOf}
use Rattle.scoreboard.proofs.acceptance_order.Owed.{eqb_same}
use Rattle.scoreboard.proofs.acceptance_order.Reached.{right_nothing, right_with}
use Rattle.scoreboard.proofs.acceptance_order.RequestBeats.{front_lacks, spelling_complete}
use Rattle.scoreboard.proofs.acceptance_order.RequestSteps.{IsCompleted, client_of, other_replies, own_begun, own_replies, requests_whole, right_whole, with_whole}
use Rattle.observed_run.proofs.SeenBeats.{at_source, burst_on_axi, more_others, more_own, now_of, observed-more, observed_on_axi, open_after_more, right_on_axi, right_told, told_beats, told_more, with_told}
use Rattle.scoreboard.proofs.acceptance_order.SeenLists.{last_of-append, observed-append}
use Rattle.observed_run.proofs.SeenSteps.{quiet_seen}
use Rattle.scoreboard.proofs.acceptance_order.Told.{TellsOn, told-reply, told_nothing}

-- ---- the replies by number

-- the beats that show a reply, if there is one
abbrev pub shown_of : Option WholeRequest → Option ReplyGiven → List DBeat
shown_of None reply = []
shown_of (Some q) None = []
shown_of (Some q) (Some reply) = shown q reply

-- of a number, where requests are carried out one at a time
abbrev pub shown_at : SetupLists → List WholeRequest → ℕ → List DBeat
shown_at setup requests number = shown_of (slice_get requests number) (slice_get (replies_of setup requests) number)

-- the request that comes next has the reply of its turn
shown_there : (faults : Faults) (regions : List Region) (past later : List WholeRequest) (q : WholeRequest) (m : Bytes)
    → shown_of (slice_get (past ++ q ∷ later) (length past)) (slice_get (replies_in_order faults regions (past ++ q ∷ later) m) (length past))
    ≡ shown q (meaning faults regions q (bytes_after_all faults regions past m)).reply
shown_there faults regions [] later q m = refl
shown_there faults regions (p ∷ past) later q m = shown_there faults regions past later q (meaning faults regions p m).after

shown_next : (setup : SetupLists) (past later : List WholeRequest) (q : WholeRequest) (number : ℕ) → length past ≡ number
    → shown_at setup (past ++ q ∷ later) number ≡ shown q (meaning (faults_of setup) setup.regions q (bytes_of_all setup past)).reply
shown_next setup past later q number count = rw (← count) (shown_there (faults_of setup) setup.regions past later q zeros)

-- ---- in accord

-- of a source what is left is nothing, or a whole reply
pub record TellsWhole (replies : List (List DueBeat)) (told left : List DBeat) : Type 0 where
  pub tells : TellsOn replies told (dues_of no_footprint left)
  pub whole : IsPartly replies told → ⊥

-- what was observed is in accord with a bridge. Of the requests that a whole run accepts some are accepted so far
pub record IsSeen (setup : SetupLists) (requests past : List WholeRequest) (seen : Observed) (bridge : BridgeState) : Type 0 where
  -- those that came whole are those that are accepted so far
  pub accepted : requests_in seen ≡ past
  pub count : length past ≡ bridge.requests.accepted
  -- what has begun on each channel A is its front
  pub heard : IsHeard setup.config bridge seen.begun
  -- what is left to tell of each source is the reply to its live request
  pub told : (client source : ℕ) → TellsWhole (replies_to (from_zeros setup) seen client source) (seen.told client source) (owed (shown_at setup requests) bridge.requests.live client source)
  -- and the same bursts are outstanding
  pub open_bursts : open_after_all nothing_open seen.axi ≡ bridge.open_bursts

-- and it is right
pub record Accords (setup : SetupLists) (requests past : List WholeRequest) (before : List ObservedBeat) (bridge : BridgeState) : Type 0 where
  pub right : IsRight (from_zeros setup) before
  pub seen : IsSeen setup requests past (observed_in before) bridge

-- before the first event
accords_opening : (setup : SetupLists) (requests : List WholeRequest) → Accords setup requests [] [] (opening_world setup).bridge
accords_opening setup requests =
    record {
      right = right_nothing (from_zeros setup);
      seen = record {
        accepted = refl;
        count = refl;
        heard = heard_at_first setup;
        told = λ client source. record { tells = told_nothing; whole = λ partly. omega (arith, partly.some_left) };
        open_bursts = refl;
      };
    }

-- one beat more
accords_with : (setup : SetupLists) (requests past : List WholeRequest) (before : List ObservedBeat) (bridge : BridgeState) (seen : ObservedBeat) (new : Observed) → with_seen (observed_in before) seen ≡ new
    → IsRight (from_zeros setup) before → HasClient setup.config.clients seen → IsContiguous (from_zeros setup) (observed_in before) seen → IsRightNow (from_zeros setup) new → IsSeen setup requests past new bridge
    → Accords setup requests past (before ++ seen ∷ []) bridge
accords_with setup requests past before bridge seen new same right client contiguous now is =
    record {
      right = right_with (from_zeros setup) before seen right client contiguous (subst (IsRightNow (from_zeros setup)) (sym same) now);
      seen = subst (λ (o : Observed). IsSeen setup requests past o bridge) (sym (observed-append nothing_observed before seen ∙ same)) is;
    }

-- a request of another client or source doesn't ask
asks_other : (request : BridgedRequest) (client source number other : ℕ) → request.flight.client ≡ client → request.flight.source ≡ source → (number ≢ client) ⊎ (other ≢ source) → asks number other request ≡ false
asks_other request client source number other its too differs = grind (arith, its, too, differs)

module _ (setup : SetupLists) (requests past : List WholeRequest) (before : List ObservedBeat) (state : WorldState) (sound : IsSoundWorld state) (accords : Accords setup requests past before state.bridge) where
  abbrev old : Observed
  old = observed_in before

  now : IsRightNow (from_zeros setup) old
  now = now_of setup before accords.right

  -- what is known of an event: the requests of the run with the one that it makes accepted, the laws after it, the fronts after it, and the reply
  -- that it hands out
  record Known (event : Step) (outcome : Outcome) : Type 0 where
    later : List WholeRequest
    all : requests ≡ (past ++ option_to_list (request_at state.bridge event outcome.answer)) ++ later
    laws : IsSoundWorld outcome.state
    heard : IsHeard setup.config outcome.state.bridge (heard_after old.begun event outcome.answer)
    rest : List HandedReply
    handed : AllByRecursion (IsReplyTo requests (replies_of setup requests)) (cons_option (handed_at event outcome.answer outcome.reply) rest)

  abbrev Goes : Step → Outcome → Type 0
  Goes event outcome =
      Known event outcome
      → Accords setup requests (past ++ option_to_list (request_at state.bridge event outcome.answer)) (before ++ seen_of event outcome) outcome.state.bridge

  -- an event that accepts no request
  goes_by : (event : Step) (outcome : Outcome) → request_at state.bridge event outcome.answer ≡ None → (Known event outcome → Accords setup requests past (before ++ seen_of event outcome) outcome.state.bridge)
      → Goes event outcome
  goes_by event outcome none goes known = rw (none, append-nil past) (goes known)

  -- and shows nothing
  goes_unseen : (event : Step) (outcome : Outcome) → request_at state.bridge event outcome.answer ≡ None → seen_of event outcome ≡ [] → outcome.state.bridge ≡ state.bridge → Goes event outcome
  goes_unseen event outcome none empty same = goes_by event outcome none (λ known. rw (same, empty, append-nil before) accords)

  -- a client that there is
  there : (client : ℕ) → nat_le state.bridge.requests.config.clients client ≡ false → client < setup.config.clients
  there client known = leb-false setup.config.clients client (known_heard setup.config state.bridge old.begun client accords.seen.heard known)

  -- ---- a beat on channel A

  begins_seen : (client : ℕ) (beat : ABeat) → IsTaken state.bridge client beat Begins
      → Goes (step.Offer client beat) (changed (after_begun state.bridge client beat) state.memory answer.More)
  begins_seen client beat taken =
      goes_by (step.Offer client beat) (changed new state.memory answer.More) refl
      (λ known.
      let mine = subst (IsFront (port_of setup.config client)) (own_begun old client beats) (known.heard.front client).begins in
      let same : with_seen old (A client beat) ≡ with_begun client beats old =
      ap (λ (complete : Bool). with_message client beats complete old) (front_lacks beats ((front_exact (port_of setup.config client) beats).0 mine).1) in
      accords_with setup requests past before new (A client beat) (with_begun client beats old) same accords.right (there client taken.known) tt
      (record {
        spelled = now.spelled;
        as_many = now.as_many;
        begun = λ c. (known.heard.front c).begins;
        told = now.told;
        free = λ c. free_at c ((with_begun client beats old).begun c) (front_of new c) (known.heard.front c).held (known.laws.bridge_laws.free c);
        axi = now.axi;
      })
      (record { accepted = accords.seen.accepted; count = accords.seen.count; heard = known.heard; told = accords.seen.told; open_bursts = accords.seen.open_bursts }))
    where
      beats : List ABeat
      beats = old.begun client ++ beat ∷ []

      new : BridgeState
      new = after_begun state.bridge client beat

      -- nothing is left of the source of a message that has begun
      free_at : (c : ℕ) (begun : List ABeat) (front : Option HeldMessage) → held_of c begun ≡ front → IfSome front (IsFreeFront new.requests c) → IsFree (from_zeros setup) old c begun
      free_at c [] front held free = tt
      free_at c (first ∷ rest) front held free =
          let is_free = subst (λ (o : Option HeldMessage). IfSome o (IsFreeFront new.requests c)) (sym held) free in
          (accords.seen.told c first.source).tells.left_is
          ∙ ap (λ (beats : List DBeat). dues_of no_footprint beats) (owed_none (shown_at setup requests) state.bridge.requests.live c first.source is_free.source)

  accepts_seen : (client : ℕ) (beat : ABeat) → IsAccepted state.bridge client beat
      → Goes (step.Offer client beat) (changed (after_accepted state.bridge client beat) state.memory (answer.Accepted state.bridge.requests.accepted))
  accepts_seen client beat is known =
      let beats = old.begun client ++ beat ∷ [] in
      let message = message_with state.bridge client beat in
      let source = message.source in
      let q = request_of message in
      let new = with_whole client beats old in
      let replies = replies_to (from_zeros setup) old client source in
      let reply = (meaning (faults_of setup) setup.regions q (bytes_of_all setup (requests_in old))).reply in
      let given = given_after (from_zeros setup) (requests_in old) q in
      let plain : dues_given given q ≡ dues_of no_footprint (shown q reply) = dues_from_zeros setup (requests_in old) q (shown q reply) in
      let live = state.bridge.requests.live in
      let fresh = newly_live state.bridge.requests message in
      let held = completed_heard setup.config state.bridge old.begun client beat accords.seen.heard in
      let own = client_of client (old.begun client) beat message held in
      let spelled = spelled_at setup state old.begun client beat accords.seen.heard is in
      let same : with_seen old (A client beat) ≡ new =
      ap (λ (complete : Bool). with_message client beats complete old) (spelling_complete (port_of setup.config client) beats q spelled.spells) in
      -- its source was free
      let asked : asks client source fresh ≡ true = rw (own, eqb_same client, eqb_same source) refl in
      let alone = free_before live fresh client source (known.laws.bridge_laws.requests.flights.own_sources client source) asked in
      let before_it = (accords.seen.told client source).tells in
      let none_left : left_of replies (old.told client source) ≡ [] = before_it.left_is ∙ ap (λ (beats : List DBeat). dues_of no_footprint beats) (ap (owed_to (shown_at setup requests)) alone) in
      let done : IsCompleted (from_zeros setup) old client beats message given = record { held = held; client = own; spelled = spelled; free = none_left; given_is = refl } in
      -- and its reply is the one of its number
      let its_reply : shown_at setup requests state.bridge.requests.accepted ≡ shown q reply =
      ap (λ (qs : List WholeRequest). shown_at setup qs state.bridge.requests.accepted) (known.all ∙ append_assoc past (q ∷ []) known.later)
      ∙ shown_next setup past known.later q state.bridge.requests.accepted accords.seen.count
      ∙ ap (λ (qs : List WholeRequest). shown q (meaning (faults_of setup) setup.regions q (bytes_of_all setup qs)).reply) (sym accords.seen.accepted) in
      let on = told-reply replies (old.told client source) (dues_of no_footprint (shown q reply)) before_it.is_told none_left in
      accords_with setup requests (past ++ q ∷ []) before (after_accepted state.bridge client beat) (A client beat) new same accords.right (there client is.taken.known) tt
      (right_whole (from_zeros setup) old client beats message given done now)
      (record {
        accepted = requests_whole old client beats message held ∙ ap (λ (qs : List WholeRequest). qs ++ q ∷ []) accords.seen.accepted;
        count = length-append past (q ∷ []) ∙ ap (λ n. n + 1) accords.seen.count;
        heard = known.heard;
        told =
            at_source (λ number other. TellsWhole (replies_to (from_zeros setup) new number other) (old.told number other) (owed (shown_at setup requests) (live ++ fresh ∷ []) number other)) client source
            (rw (own_replies (from_zeros setup) old client beats message given done, plain, find-append (asks client source) live (fresh ∷ []), alone, asked, its_reply)
            (record { tells = on; whole = λ partly. omega (arith, partly.some_told, ap length on.left_is, ap length (last_of-append replies (dues_of no_footprint (shown q reply)))) }))
            (λ number other differs.
            rw (other_replies (from_zeros setup) old client beats message given number other done differs, find-append-fails (asks number other) live fresh (asks_other fresh client source number other own refl differs))
            (accords.seen.told number other));
        open_bursts = accords.seen.open_bursts;
      })

  -- ---- beats of the AXI4 port

  -- beats that break no rule behind those that were observed, where the live requests are owed what they were
  axi_seen : (event : Step) (outcome : Outcome) (beats : List AxiBeat) → request_at state.bridge event outcome.answer ≡ None → heard_after old.begun event outcome.answer ≡ old.begun → seen_of event outcome ≡ map Axi beats
      → first_axi_fault (axi_port_of state.bridge.requests.config) state.bridge.open_bursts beats ≡ None → open_after_all state.bridge.open_bursts beats ≡ outcome.state.bridge.open_bursts
      → outcome.state.bridge.requests.accepted ≡ state.bridge.requests.accepted
      → ((client source : ℕ) → owed (shown_at setup requests) outcome.state.bridge.requests.live client source ≡ owed (shown_at setup requests) state.bridge.requests.live client source)
      → Goes event outcome
  axi_seen event outcome beats quiet unheard shows none opens as_many same =
      goes_by event outcome quiet
      (λ known.
      let fine = first_axi_fault-append (axi_port_of setup.config) nothing_open old.axi beats now.axi ∙ rw (accords.seen.open_bursts, ← accords.seen.heard.config_kept) none in
      subst (λ (seen : List ObservedBeat). Accords setup requests past (before ++ seen) outcome.state.bridge) (sym shows) (record {
        right = right_on_axi setup before beats accords.right fine;
        seen = subst (λ (o : Observed). IsSeen setup requests past o outcome.state.bridge) (sym (observed-more nothing_observed before (map Axi beats) ∙ observed_on_axi old beats)) (record {
          accepted = accords.seen.accepted;
          count = accords.seen.count ∙ sym as_many;
          heard = subst (IsHeard setup.config outcome.state.bridge) unheard known.heard;
          told = λ client source. rw (same client source) (accords.seen.told client source);
          open_bursts = open_after_more nothing_open old.axi beats ∙ ap (λ (o : OpenBursts). open_after_all o beats) accords.seen.open_bursts ∙ opens;
        });
      }))

  sends_seen : (sending : Sending) → next_sending state.bridge.requests ≡ Some sending → Goes step.Pump (after_sending_world state sending)
  sends_seen sending is =
      let port = axi_port_of state.bridge.requests.config in
      let well = subst (λ (o : Option Sending). IfSome (option_map (λ (s : Sending). s.burst) o) (GoesWell state)) is (takes_all state sound).pump in
      axi_seen step.Pump (after_sending_world state sending) (beats_sent sending.burst) refl refl (burst_on_axi sending.burst)
      (unbroken_burst port state.bridge.open_bursts sending.burst well.unbroken).0
      (open_after_all-burst port state.bridge.open_bursts sending.burst sound.bridge_laws.filled well.unbroken) refl
      (λ client source. owed_changed (shown_at setup requests) (is_numbered sending.request.flight.number) (after_sending sending.id) state.bridge.requests.live client source (λ r. refl))

  b_seen : (id : ℕ) (b : BBeat) → b_of state.memory id ≡ Some b → Goes (step.AnswerB id) (answered_b state id (Some b))
  b_seen id b is =
      let well = subst (λ (o : Option BBeat). IfSome o (λ beat. b_fault state.bridge beat ≡ None)) is ((takes_all state sound).b id) in
      axi_seen (step.AnswerB id) (answered_b state id (Some b)) (OnB b ∷ []) refl refl refl
      (first_axi_fault-none (axi_port_of state.bridge.requests.config) state.bridge.open_bursts (OnB b) [] well) refl refl
      (λ client source. owed_changed (shown_at setup requests) (holds b.id) (after_response b.resp) state.bridge.requests.live client source (response_same b.resp))

  r_seen : (id : ℕ) (r : RBeat) → r_of state.memory id ≡ Some r → Goes (step.AnswerR id) (answered_r state id (Some r))
  r_seen id r is =
      let well = subst (λ (o : Option RBeat). IfSome o (λ beat. r_fault state.bridge beat ≡ None)) is ((takes_all state sound).r id) in
      let bytes = state.bridge.requests.config.axi_bytes in
      axi_seen (step.AnswerR id) (answered_r state id (Some r)) (OnR r ∷ []) refl refl refl
      (first_axi_fault-none (axi_port_of state.bridge.requests.config) state.bridge.open_bursts (OnR r) [] well) refl refl
      (λ client source. owed_changed (shown_at setup requests) (holds r.id) (after_read bytes r) state.bridge.requests.live client source (read_same bytes r))

  -- ---- the beats of a reply

  takes_seen : (client : ℕ) (request : BridgedRequest) → nat_le state.bridge.requests.config.clients client ≡ false → oldest_done state.bridge.requests.live client ≡ Some request
      → Goes (step.Take client) (taken state client (Some request))
  takes_seen client request known_client first =
      goes_by (step.Take client) (taken state client (Some request)) refl
      (λ known.
      let live = state.bridge.requests.live in
      let left = without_first (is_done_for client) live in
      let source = request.flight.source in
      let beats = reply_beats request in
      let new = with_told client source beats old in
      let own : (request.flight.client == client) ≡ true = (and_parts (request.flight.client == client) request.flight.done (find-passes (is_done_for client) live request first)).0 in
      let asked : asks client source request ≡ true = rw (own, eqb_same source) refl in
      let few = subst (λ n. n ≤ 1) (length-filter-map (has_source client source) (λ (r : BridgedRequest). r.flight) live) (sound.bridge_laws.requests.flights.own_sources client source) in
      let before_it = ap (owed_to (shown_at setup requests)) (find-alone (is_done_for client) (asks client source) live request first asked few) in
      let served = all-find (IsServed state.bridge.requests.config state.bridge.requests.regions) (is_done_for client) live request sound.bridge_laws.requests.served first in
      let are : AreOf source beats = subst (λ n. AreOf n beats) (sym served.flight.source) (shown_source (request_of request.message) (gathered (outline_in request) request.gathering)) in
      let its_beats : shown_at setup requests request.flight.number ≡ beats = rw (known.handed.0.accepted, known.handed.0.carried_out) (sym known.handed.0.beats) in
      let replies = replies_to (from_zeros setup) old client source in
      let told = old.told client source in
      let on = subst (λ (left : List DBeat). TellsOn replies told (dues_of no_footprint left)) (before_it ∙ its_beats) (accords.seen.told client source).tells in
      let all_told = told_beats replies told beats on in
      record {
        right = right_told setup before client source beats (there client known_client) are accords.right on (λ other differs. (accords.seen.told client other).whole);
        seen = subst (λ (o : Observed). IsSeen setup requests past o (after_take state.bridge client)) (sym (observed-more nothing_observed before (seen_of_reply client beats) ∙ told_more old client source beats are)) (record {
          accepted = accords.seen.accepted;
          count = accords.seen.count;
          heard = known.heard;
          told =
              at_source (λ number other. TellsWhole (replies_to (from_zeros setup) old number other) (new.told number other) (owed (shown_at setup requests) left number other)) client source
              (rw (more_own old client source beats source refl, find-taken-own (is_done_for client) (asks client source) live request first asked few)
              (record { tells = all_told; whole = λ partly. omega (arith, partly.some_left, ap length all_told.left_is) }))
              (λ number other differs.
              rw (more_others old client source beats number other differs, find-taken-other (is_done_for client) (asks number other) live request first (asks_other request client source number other (eqb-true request.flight.client client own) refl differs))
              (accords.seen.told number other));
          open_bursts = accords.seen.open_bursts;
        });
      })

  -- ---- each event

  ways : EachWay Goes state
  ways =
      record {
        quiet = λ event told still. goes_unseen event (unchanged state told) (quiet_request state.bridge event told still) (quiet_seen event told None [] still) refl;
        begins = begins_seen;
        accepts = accepts_seen;
        sends = sends_seen;
        performs = λ serial beat memory done. goes_unseen (step.Perform serial beat) (changed state.bridge memory answer.Done) refl refl refl;
        gives_b = b_seen;
        gives_r = r_seen;
        hands_out = takes_seen;
      }

  accords_next : (event : Step) → Goes event (next state event)
  accords_next event = each_way Goes state ways event

-- ---- a run

-- what holds of an optional entry before a list holds of the list
rest_holds : {X : Type 0} (P : X → Type 0) (o : Option X) (xs : List X) → AllByRecursion P (cons_option o xs) → AllByRecursion P xs
rest_holds P None xs all = all
rest_holds P (Some y) xs all = all.1

-- the requests of the whole run are those that are accepted so far, and those that the other events make accepted
right_along : (setup : SetupLists) (requests past : List WholeRequest) (heard : Heard) (state : WorldState) (events : List Step) (before : List ObservedBeat) → IsHeard setup.config state.bridge heard
    → requests ≡ past ++ requests_of (messages_along heard state events) → AreSoundAlong state events → AllByRecursion (IsReplyTo requests (replies_of setup requests)) (handed_in state events)
    → Accords setup requests past before state.bridge → IsRight (from_zeros setup) (before ++ seen_from state events)
right_along setup requests past heard state [] before is all along handed accords = subst (IsRight (from_zeros setup)) (sym (append-nil before)) accords.right
right_along setup requests past heard state (event ∷ events) before is all along handed accords =
    let outcome = next state event in
    let accepts = request_at state.bridge event outcome.answer in
    let later = requests_of (messages_along (heard_after heard event outcome.answer) outcome.state events) in
    let split = accepted_at_step setup.config state.bridge heard event outcome.answer (zip events (answers_of outcome.state events)) is ∙ cons_option-list accepts later in
    let all_later = all ∙ ap (λ (others : List WholeRequest). past ++ others) split ∙ sym (append_assoc past (option_to_list accepts) later) in
    subst (IsRight (from_zeros setup)) (append_assoc before (seen_of event outcome) (seen_from outcome.state events))
    (right_along setup requests (past ++ option_to_list accepts) (heard_after heard event outcome.answer) outcome.state events (before ++ seen_of event outcome)
    (heard_next setup.config state heard event is) all_later along.1
    (rest_holds (IsReplyTo requests (replies_of setup requests)) (handed_at event outcome.answer outcome.reply) (handed_in outcome.state events) handed)
    (accords_next setup requests past before state along.0 accords event (record {
      later = later;
      all = all_later;
      laws = first_sound outcome.state events along.1;
      heard = heard_next setup.config state (observed_in before).begun event accords.seen.heard;
      rest = handed_in outcome.state events;
      handed = handed;
    })))

-- of every run
pub observed_right : (setup : SetupLists) (events : List Step) → AreSoundAlong (opening_world setup) events → IsRight (from_zeros setup) (observed setup events)
observed_right setup events along =
    right_along setup (run_requests setup events) [] heard_nothing (opening_world setup) events [] (heard_at_first setup) refl along (is_carried_out setup events along).replies
    (accords_opening setup (run_requests setup events))
