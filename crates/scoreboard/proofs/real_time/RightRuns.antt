-- Beats that are right in order of acceptance are so in real time, however errors may be told: no reply comes before its request is whole, and each beat
-- tells of an error what the first one of its reply did.
use Rattle.std.proofs.Common.{◌≡◌, ℕ, zero, suc, ◌+◌, ◌==◌, Bool, true, false, ◌&&◌, ◌||◌, not, List, [], ◌∷◌, map, set, drop, Option, Some, None, Result, Ok, Err, refl, sym, ◌∙◌, ap, subst, arith}
use Rattle.std.specs.Prelude.{is_some, slice_get, unwrap_or}
use Rattle.std.specs.List.{AllByRecursion, find, range_with_len}
use Rattle.std.specs.Option.{option_map, option_or, option_to_list}
use Rattle.std.proofs.lemmas.Bool.{eq-eqb}
use Rattle.std.proofs.lemmas.List.{map-set, set-set}
use Rattle.std.proofs.lemmas.Option.{slice_get-map}
use Rattle.bus_words.proofs.PlaceChanges.{all-find}
use Rattle.setups.specs.Setups.{SetupLists}
use Rattle.tl_messages.specs.Operations.{beats_of, reply_has_data, reply_opcode}
use Rattle.tl_messages.specs.Requests.{HeldMessage, WholeRequest, request_of}
use Rattle.tl_messages.specs.declared.ABeat.{ABeat}
use Rattle.tl_messages.specs.declared.DBeat.{DBeat}
use Rattle.tl_messages.specs.declared.Operation.{Operation}
use Rattle.tl_checker.specs.Ports.{joined}
use Rattle.tl_checker.specs.declared.Progress.{Progress}
use Rattle.tl_checker.specs.declared.Progress.TheVariants.{More, Whole}
use Rattle.tl_checker.specs.declared.TlRule.{TlRule}
use Rattle.responses.specs.Shown.{Reply, beat_of_word, lacks_a_byte, shown}
use Rattle.scoreboard.specs.AxiPorts.{port_after}
use Rattle.scoreboard.specs.Boards.{Board, ClientBoard, IsReached, a_wrong, after_a, after_all, after_d, after_seen, answer_to, answered_on, client_after, client_beside, client_cut, coming_on, d_wrong, due_beat, early_due, early_flight, failed_beat, flight_for, from_zeros, has_replied, hit_client, hit_on, is_spoiled, joining_on, more_on, opening_board, opening_with, told_to, whole_on, with_accepted, with_client, with_whole, wrong_at, wrong_beat, wrong_reply, wrong_told}
use Rattle.scoreboard.specs.FailedBursts.{Span, failed_span}
use Rattle.scoreboard.specs.Flights.{Flights, Footprint, InFlight, begun_is_other, due_to, is_of_source, next_reply, with_left}
use Rattle.scoreboard.specs.Races.{unless_failed}
use Rattle.scoreboard.specs.Wider.{LetsRightPass, board_alone, client_alone, flight_alone, tells_apart}
use Rattle.scoreboard.specs.declared.Errors.{Errors}
use Rattle.scoreboard.specs.declared.Errors.TheVariants.{Strict}
use Rattle.scoreboard.specs.declared.Policy.TheVariants.{AcceptanceOrder, RealTime}
use Rattle.scoreboard.specs.declared.ObservedBeat.{ObservedBeat}
use Rattle.scoreboard.specs.declared.ObservedBeat.TheVariants.{A, D, Axi as OnAxi, Drained}
use Rattle.scoreboard.proofs.acceptance_order.BoardOf.{shown_source}
use Rattle.scoreboard.proofs.acceptance_order.DueLists.{AreOf}
use Rattle.scoreboard.proofs.acceptance_order.Fixed.{in_turn_alone}
use Rattle.scoreboard.proofs.acceptance_order.Owed.{none_over, right_next}
use Rattle.scoreboard.proofs.acceptance_order.Reached.{right_exactly, right_front, right_reached}
use Rattle.scoreboard.proofs.real_time.Becoming.{errors_kept}
use Rattle.scoreboard.proofs.real_time.EachFlight.{AreOfEach, IsOfEach, seen_each}
use Rattle.scoreboard.proofs.real_time.Explained.{each_client, opening_at}
use Rattle.scoreboard.proofs.real_time.FlightLists.{client_was}
use Rattle.scoreboard.proofs.real_time.FlightsAlone.{next_alone}
use Rattle.scoreboard.proofs.real_time.InTurnAlone.{IsQuietBoard, quiet_all, quiet_next, quiet_opens}
use Rattle.scoreboard.proofs.real_time.Fronts.{beside_at, changed_from}
use Rattle.scoreboard.proofs.real_time.Verdicts.{sure_told}
use Rattle.scoreboard.proofs.real_time.WiderRuns.{IsOn, IsWaiting, next_on, said_alone}
use Rattle.scoreboard.proofs.real_time.WiderVerdicts.{a_told, axi_told, none_told, told_less}

-- ---- how a reply tells an error

-- a beat of a reply that is denied, or isn't; with data it may be corrupt, and is where it is denied
pub record IsTelling (denied : Bool) (beat : DBeat) : Type 0 where
  pub same : beat.denied ≡ denied
  pub corrupt : beat.corrupt ≡ (beat.opcode == 1 && (beat.denied || beat.corrupt))

word_tells : (q : WholeRequest) (reply : Reply) (j : ℕ) → (reply_opcode q.operation == 1) ≡ true → IsTelling reply.denied (beat_of_word q reply j)
word_tells q reply j has_data = by_lacks reply.denied (lacks_a_byte q reply j) refl refl
  where
    by_lacks : (denied lacks : Bool) → reply.denied ≡ denied → lacks_a_byte q reply j ≡ lacks → IsTelling reply.denied (beat_of_word q reply j)
    by_lacks true lacks is lacking = rw is (record { same = refl; corrupt = grind (arith, has_data) })
    by_lacks false true is lacking = rw (is, lacking) (record { same = refl; corrupt = grind (arith, has_data) })
    by_lacks false false is lacking = rw (is, lacking) (record { same = refl; corrupt = grind (arith, has_data) })

words_tell : (q : WholeRequest) (reply : Reply) (from n : ℕ) → (reply_opcode q.operation == 1) ≡ true
    → AllByRecursion (IsTelling reply.denied) (map (beat_of_word q reply) (range_with_len from n))
words_tell q reply from zero has_data = tt
words_tell q reply from (suc n) has_data = (word_tells q reply from has_data, words_tell q reply (from + 1) n has_data)

-- a reply with data is AccessAckData, and no other is
opcode_of_data : (operation : Operation) (has_data : Bool) → reply_has_data operation ≡ has_data → (reply_opcode operation == 1) ≡ has_data
opcode_of_data operation has_data is = grind (arith, is)

shown_tells : (q : WholeRequest) (reply : Reply) → AllByRecursion (IsTelling reply.denied) (shown q reply)
shown_tells q reply = by_data (reply_has_data q.operation) refl
  where
    by_data : (has_data : Bool) → reply_has_data q.operation ≡ has_data → AllByRecursion (IsTelling reply.denied) (shown q reply)
    by_data true is = rw is (words_tell q reply 0 (beats_of q.size true) (opcode_of_data q.operation true is))
    by_data false is = rw is (record { same = refl; corrupt = grind (arith, opcode_of_data q.operation false is) }, tt)

-- the beats that are left of a reply tell the same, and are of its source
abbrev TellAlike : InFlight → Type 0
TellAlike flight = (denied : Bool) × AllByRecursion (IsTelling denied) flight.beats × AreOf flight.source flight.beats

left_alike : (denied : Bool) (beats : List DBeat) → AllByRecursion (IsTelling denied) beats → AllByRecursion (IsTelling denied) (drop 1 beats)
left_alike denied [] all = tt
left_alike denied (beat ∷ beats) all = all.1

left_own : (source : ℕ) (beats : List DBeat) → AreOf source beats → AreOf source (drop 1 beats)
left_own source beats all = grind (arith, all)

-- ---- a beat that is due is right, where its request has failed too

-- as it tells it, it may
as_told : (told : Option Bool) (due : DBeat) (denied : Bool) → IsTelling denied due → unwrap_or told denied ≡ denied → failed_beat told due due ≡ due
as_told told due denied tells same = grind (arith, tells, same)

next_passes : (flight : InFlight) (told : Option Bool) (denied : Bool) (beat : DBeat) → AllByRecursion (IsTelling denied) flight.beats → unwrap_or told denied ≡ denied
    → wrong_beat flight.beats beat ≡ None → wrong_told flight.footprint told flight.beats beat ≡ None
next_passes flight told denied beat tell same none = by_failed flight.footprint.failed refl
  where
    next : (rest : List DBeat) × (flight.beats ≡ beat ∷ rest)
    next = right_next flight.beats beat none

    its : IsTelling denied beat
    its = (subst (AllByRecursion (IsTelling denied)) next.1 tell).0

    by_failed : (failed : Bool) → flight.footprint.failed ≡ failed → wrong_told flight.footprint told flight.beats beat ≡ None
    by_failed false sound = sure_told flight.footprint told flight.beats beat sound ∙ none_told (wrong_beat flight.beats beat) _ (told_less flight.footprint flight.beats beat) none
    by_failed true has =
        let right : wrong_beat (beat ∷ next.0) beat ≡ None = sym (ap (λ (beats : List DBeat). wrong_beat beats beat) next.1) ∙ none in
        let shows : due_beat flight.footprint.failed told beat beat ≡ beat = ap (λ (failed : Bool). due_beat failed told beat beat) has ∙ as_told told beat denied its same in
        rw (next.1, shows) (none_told (wrong_beat (beat ∷ next.0) beat) _ (told_less flight.footprint (beat ∷ next.0) beat) right)

-- ---- a client

-- of the reply that has begun what is left tells as its first beat told, and no reply came to a request that isn't whole
record IsPlain (errors : Errors) (client : ClientBoard) : Type 0 where
  told : (flight : InFlight) → client.flights.begun ≡ Some flight → AllByRecursion (IsTelling client.told) flight.beats
  waits : IsWaiting errors client

abbrev ArePlain : Errors → List ClientBoard → Type 0
ArePlain errors clients = (number : ℕ) (client : ClientBoard) → slice_get clients number ≡ Some client → IsPlain errors client

-- whether a reply came is known from what may come early alone
replied_same : (errors : Errors) (client other : ClientBoard) → client.early ≡ other.early → has_replied errors client ≡ has_replied errors other
replied_same errors client other same = grind (arith, same)

-- beside a request that comes
plain_beside : (errors : Errors) (footprint : Footprint) (client : ClientBoard) → IsPlain errors client → IsPlain errors (client_beside footprint client)
plain_beside errors footprint client plain = grind (arith, plain)

all_beside : (errors : Errors) (footprint : Footprint) (clients : List ClientBoard) → ArePlain errors clients → ArePlain errors (map (client_beside footprint) clients)
all_beside errors footprint clients are number client is =
    let was = client_was footprint clients number client is in subst (IsPlain errors) was.2 (plain_beside errors footprint was.0 (are number was.0 was.1))

-- with an error response
plain_hit : (errors : Errors) (span : Span) (client : ClientBoard) → IsPlain errors client → IsPlain errors (hit_client span client)
plain_hit errors span client plain = grind (arith, plain)

all_hit : (errors : Errors) (span : Option Span) (board : Board) → ArePlain errors board.clients → ArePlain errors (hit_on span board).clients
all_hit errors None board are number client is = are number client is
all_hit errors (Some span) board are number client is =
    let was = changed_from (hit_client span) board.clients number client is in subst (IsPlain errors) was.2 (plain_hit errors span was.0 (are number was.0 was.1))

-- where its message is whole
whole_plain : (errors : Errors) (replied : Bool) (flight : InFlight) (client : ClientBoard) → IsPlain errors client → IsPlain errors (with_whole replied flight client)
whole_plain errors true flight client plain = record { told = plain.told; waits = λ in_front. absurd (cc (in_front)) }
whole_plain errors false flight client plain = record { told = plain.told; waits = λ in_front. absurd (cc (in_front)) }

-- where it has begun
begun_waits : (errors : Errors) (client : ClientBoard) (q : WholeRequest) → has_replied errors (record client { early = early_due errors q }) ≡ false
begun_waits errors client q = grind arith

-- ---- a beat on channel A

module _ (board : Board) (are : ArePlain board.errors board.clients) (number : ℕ) where
  more_plain : (client : ClientBoard) (message : HeldMessage) (begun : Bool) → slice_get board.clients number ≡ Some client → is_some client.front ≡ begun
      → ArePlain board.errors (more_on (with_client number (record client { front = Some message }) board) number (record client { front = Some message }) (request_of message) begun).clients
  more_plain client message true there is =
      let heard = record client { front = Some message } in
      let changed = record heard { coming = unless_failed (is_spoiled board.errors (request_of message)) client.coming } in
      subst (ArePlain board.errors) (sym (set-set board.clients number heard changed))
      (each_client (IsPlain board.errors) board.clients number client changed there are
      (record { told = (are number client there).told; waits = λ in_front. replied_same board.errors changed client refl ∙ (are number client there).waits is }))
  more_plain client message false there is =
      let heard = record client { front = Some message } in
      let footprint = joining_on (with_client number heard board) (request_of message) in
      let changed = record (client_beside footprint heard) { coming = footprint; early = early_due board.errors (request_of message) } in
      subst (ArePlain board.errors)
      (sym (ap (λ (clients : List ClientBoard). set clients number changed) (map-set (client_beside footprint) board.clients number heard)
      ∙ set-set (map (client_beside footprint) board.clients) number (client_beside footprint heard) changed))
      (each_client (IsPlain board.errors) (map (client_beside footprint) board.clients) number (client_beside footprint client) changed
      (beside_at footprint board.clients number client there) (all_beside board.errors footprint board.clients are)
      (record {
        told = (plain_beside board.errors footprint client (are number client there)).told;
        waits = λ in_front. begun_waits board.errors (record (client_beside footprint heard) { coming = footprint }) (request_of message);
      }))

  whole_are : (client : ClientBoard) (q : WholeRequest) (begun : Bool) → slice_get board.clients number ≡ Some client
      → ArePlain board.errors (whole_on board number client q begun).clients
  whole_are client q true there =
      let flight = flight_for board.memory (coming_on board q client.coming) q in
      each_client (IsPlain board.errors) board.clients number client (with_whole (has_replied board.errors client) flight client) there are
      (whole_plain board.errors (has_replied board.errors client) flight client (are number client there))
  whole_are client q false there =
      let footprint = joining_on board q in
      let flight = flight_for board.memory footprint q in
      each_client (IsPlain board.errors) (map (client_beside footprint) board.clients) number (client_beside footprint client)
      (with_accepted flight (client_beside footprint client)) (beside_at footprint board.clients number client there)
      (all_beside board.errors footprint board.clients are)
      (whole_plain board.errors false flight (client_beside footprint client) (plain_beside board.errors footprint client (are number client there)))

  request_plain : (found : Option ClientBoard) (beat : ABeat) → slice_get board.clients number ≡ found
      → ArePlain board.errors (after_a RealTime board number found beat).clients
  request_plain None beat there = are
  request_plain (Some client) beat there = by_answer (answer_to RealTime client beat)
    where
      by_answer : (answer : Result Progress TlRule)
          → ArePlain board.errors (answered_on RealTime board number client (joined client.limits client.front beat) answer).clients
      by_answer (Err broken) = are
      by_answer (Ok More) = more_plain client (joined client.limits client.front beat) (is_some client.front) there refl
      by_answer (Ok Whole) = whole_are client (request_of (joined client.limits client.front beat)) (is_some client.front) there

-- ---- a beat on channel D that is due in order of acceptance

-- what is told of the reply to which the next beat belongs
abbrev IsNextTold : ClientBoard → InFlight → Bool → Type 0
IsNextTold client flight denied = AllByRecursion (IsTelling denied) flight.beats × (unwrap_or (told_to client) denied ≡ denied)

-- the reply that has its next beat there
next_told : (client : ClientBoard) (source : ℕ) (flight : InFlight) → IsOfEach TellAlike client
    → ((begun : InFlight) → client.flights.begun ≡ Some begun → AllByRecursion (IsTelling client.told) begun.beats) → next_reply client.flights source ≡ Some flight
    → (denied : Bool) × IsNextTold client flight denied
next_told client source flight all told is = by_begun client.flights.begun refl
  where
    by_begun : (begun : Option InFlight) → client.flights.begun ≡ begun → (denied : Bool) × IsNextTold client flight denied
    by_begun (Some begun) one =
        let same : begun ≡ flight = cc (is, one) in
        (client.told, (subst (λ (f : InFlight). AllByRecursion (IsTelling client.told) f.beats) same (told begun one), rw one refl))
    by_begun None none =
        let found : find (is_of_source source) client.flights.due ≡ Some flight = cc (is, none) in
        let own = all-find TellAlike (is_of_source source) client.flights.due flight all.0 found in
        (own.0, (own.1, rw none refl))

reply_right : (client : ClientBoard) (beat : DBeat) → IsOfEach TellAlike client
    → ((begun : InFlight) → client.flights.begun ≡ Some begun → AllByRecursion (IsTelling client.told) begun.beats)
    → d_wrong AcceptanceOrder (Some (client_alone client)) beat ≡ None → d_wrong RealTime (Some client) beat ≡ None
reply_right client beat all told none = by_next (next_reply client.flights beat.source) refl
  where
    by_next : (next : Option InFlight) → next_reply client.flights beat.source ≡ next → d_wrong RealTime (Some client) beat ≡ None
    by_next None is =
        absurd (cc (sym none ∙ ap (λ (o : Option InFlight). wrong_reply AcceptanceOrder (told_to (client_alone client)) o beat)
        (next_alone client.flights beat.source ∙ ap (option_map flight_alone) is)))
    by_next (Some flight) is =
        let its = next_told client beat.source flight all told is in
        let right : wrong_beat flight.beats beat ≡ None =
        sym (in_turn_alone flight.beats beat) ∙ sym (ap (λ (o : Option InFlight). wrong_reply AcceptanceOrder (told_to (client_alone client)) o beat)
        (next_alone client.flights beat.source ∙ ap (option_map flight_alone) is)) ∙ none in
        ap (λ (o : Option InFlight). wrong_reply RealTime (told_to client) (option_or o (early_flight client client.early beat.source)) beat) is
        ∙ next_passes flight (told_to client) its.0 beat its.1.0 its.1.1 right

-- no reply is over with it
reply_uncut : (client : ClientBoard) (beat : DBeat) → IsOfEach TellAlike client → d_wrong AcceptanceOrder (Some (client_alone client)) beat ≡ None
    → client_cut beat.source client ≡ client
reply_uncut client beat all none =
    ap {B = ClientBoard} (λ (flights : Flights). record client { flights = flights }) (none_over client.flights beat.source (by_begun client.flights.begun refl all.1))
  where
    by_begun : (begun : Option InFlight) → client.flights.begun ≡ begun → AllByRecursion TellAlike (option_to_list begun) → begun_is_other beat.source begun ≡ false
    by_begun None is its = refl
    by_begun (Some flight) is its =
        let right : wrong_beat flight.beats beat ≡ None =
        sym (in_turn_alone flight.beats beat) ∙ sym (ap (λ (begun : Option InFlight).
        wrong_reply AcceptanceOrder (told_to (client_alone client)) (option_or (option_map flight_alone begun) (due_to (client_alone client).flights beat.source)) beat) is) ∙ none in
        let own = (subst (AreOf flight.source) (right_next flight.beats beat right).1 its.0.2).0 in
        ap not (eq-eqb flight.source beat.source (sym own))

-- and after it
reply_plain : (errors : Errors) (client : ClientBoard) (beat : DBeat) → IsOfEach TellAlike client → IsPlain errors client
    → d_wrong AcceptanceOrder (Some (client_alone client)) beat ≡ None
    → IsPlain errors (client_after beat client)
reply_plain errors client beat all plain none = by_next (next_reply client.flights beat.source) refl
  where
    after : ClientBoard
    after = client_after beat client

    left : (flight : InFlight) (denied : Bool) (beats : List DBeat) → AllByRecursion (IsTelling denied) beats
        → (own : InFlight) → with_left flight beats ≡ Some own → AllByRecursion (IsTelling denied) own.beats
    left flight denied [] tell own is = absurd (cc (is))
    left flight denied (first ∷ beats) tell own is = let same : first ∷ beats ≡ own.beats = cc (is) in subst (AllByRecursion (IsTelling denied)) same tell

    by_next : (next : Option InFlight) → next_reply client.flights beat.source ≡ next → IsPlain errors after
    by_next None is = grind (arith, is, next_alone client.flights beat.source)
    by_next (Some flight) is =
        grind (arith, is, next_told client beat.source flight all plain.told is, next_alone client.flights beat.source)

-- ---- beats that are right in order of acceptance

-- a board on which each reply tells an error as one does
record IsPlainBoard (board : Board) : Type 0 where
  alike : AreOfEach TellAlike board.clients
  plain : ArePlain board.errors board.clients

plain_request : (board : Board) (seen : ObservedBeat) → IsPlainBoard board → wrong_at AcceptanceOrder (board_alone board) seen ≡ None
    → ArePlain board.errors (after_seen RealTime board seen).clients
plain_request board (A number beat) plain none = request_plain board plain.plain number (slice_get board.clients number) beat refl
plain_request board (D number beat) plain none = by_client (slice_get board.clients number) refl
  where
    right : (client : ClientBoard) → slice_get board.clients number ≡ Some client → d_wrong AcceptanceOrder (Some (client_alone client)) beat ≡ None
    right client there =
        ap (λ (o : Option ClientBoard). d_wrong AcceptanceOrder o beat) (sym (slice_get-map client_alone board.clients number ∙ ap (option_map client_alone) there)) ∙ none

    by_client : (found : Option ClientBoard) → slice_get board.clients number ≡ found → ArePlain board.errors (after_d board number found beat).clients
    by_client None there = plain.plain
    by_client (Some client) there =
        each_client (IsPlain board.errors) board.clients number client
        (client_after beat (client_cut beat.source client)) there
        plain.plain
        (subst (λ (changed : ClientBoard). IsPlain board.errors (client_after beat changed)) (sym (reply_uncut client beat (plain.alike number client there) (right client there)))
        (reply_plain board.errors client beat (plain.alike number client there) (plain.plain number client there) (right client there)))
plain_request board (OnAxi beat) plain none =
    all_hit board.errors (failed_span board.errors board.axi beat) (record board { axi = port_after RealTime board.axi beat }) plain.plain
plain_request board Drained plain none = plain.plain

plain_next : (board : Board) (seen : ObservedBeat) → IsPlainBoard board → wrong_at AcceptanceOrder (board_alone board) seen ≡ None
    → IsPlainBoard (after_seen RealTime board seen)
plain_next board seen plain none =
    record {
      alike = seen_each TellAlike (λ footprint flight tells. tells) (λ flight some tells. (tells.0, left_alike tells.0 flight.beats tells.1, left_own flight.source flight.beats tells.2)) board plain.alike
          (λ q. (_, shown_tells q _, shown_source q _)) (λ number client there q. (_, shown_tells q _, shown_source q _)) (λ any span flight tells. tells) seen;
      plain = subst (λ (errors : Errors). ArePlain errors (after_seen RealTime board seen).clients) (sym (errors_kept board seen)) (plain_request board seen plain none);
    }

plain_opens : (errors : Errors) (setup : SetupLists) → IsPlainBoard (opening_with errors setup)
plain_opens errors setup =
    record {
      alike = λ number client is.
          let found = opening_at setup.config 0 setup.config.clients number client is in subst (IsOfEach TellAlike) (sym found.1) (tt, tt);
      plain = λ number client is.
          let found = opening_at setup.config 0 setup.config.clients number client is in
          subst (IsPlain errors) (sym found.1) (record { told = λ flight some. absurd (cc (some)); waits = λ in_front. absurd (cc (in_front)) });
    }

-- both boards go together
right_on : (compared board : Board) (beats : List ObservedBeat) → IsPlainBoard board → IsQuietBoard compared → IsOn compared board
    → IsReached AcceptanceOrder compared beats (after_all AcceptanceOrder compared beats)
    → IsPlainBoard (after_all RealTime board beats) × IsOn (after_all AcceptanceOrder compared beats) (after_all RealTime board beats)
right_on compared board [] plain quiet on reached = (plain, on)
right_on compared board (seen ∷ rest) plain quiet on (none, more) =
    let right : wrong_at AcceptanceOrder (board_alone board) seen ≡ None = said_alone compared board seen quiet on ∙ none in
    let next = next_on compared board seen on (λ number client there. (plain.plain number client there).waits) (ap tells_apart right) in
    right_on (after_seen AcceptanceOrder compared seen) (after_seen RealTime board seen) rest (plain_next board seen plain right) (quiet_next compared seen quiet) next more

-- what is right in order of acceptance is in real time
passes : (board : Board) (seen : ObservedBeat) → IsPlainBoard board → board.axi.early ≡ [] → wrong_at AcceptanceOrder (board_alone board) seen ≡ None
    → wrong_at RealTime board seen ≡ None
passes board (A number beat) plain early none =
    none_told _ _ (a_told (slice_get board.clients number) beat)
    (ap (λ (o : Option ClientBoard). a_wrong AcceptanceOrder o beat) (sym (slice_get-map client_alone board.clients number)) ∙ none)
passes board (D number beat) plain early none = by_client (slice_get board.clients number) refl
  where
    alone : d_wrong AcceptanceOrder (option_map client_alone (slice_get board.clients number)) beat ≡ None
    alone = ap (λ (o : Option ClientBoard). d_wrong AcceptanceOrder o beat) (sym (slice_get-map client_alone board.clients number)) ∙ none

    by_client : (found : Option ClientBoard) → slice_get board.clients number ≡ found → d_wrong RealTime found beat ≡ None
    by_client None there = absurd (cc (sym alone ∙ ap (λ (o : Option ClientBoard). d_wrong AcceptanceOrder (option_map client_alone o) beat) there))
    by_client (Some client) there =
        reply_right client beat (plain.alike number client there) (plain.plain number client there).told
        (ap (λ (o : Option ClientBoard). d_wrong AcceptanceOrder (option_map client_alone o) beat) (sym there) ∙ alone)
passes board (OnAxi beat) plain early none = none_told _ _ (axi_told board.axi beat early) none
passes board Drained plain early none = refl

opens_on : (errors : Errors) (setup : SetupLists) → IsOn (opening_board setup) (opening_with errors setup)
opens_on errors setup = record { holds = refl; early = refl }

-- nothing is wrong in real time with the last of them
pub lets_right_pass : (board : Board) (seen : ObservedBeat) → LetsRightPass board seen (wrong_at RealTime board seen)
lets_right_pass board seen errors setup before is right =
    let compared = after_all AcceptanceOrder (opening_board setup) before in
    let reached = right_reached Strict (from_zeros setup) before (right_front (from_zeros setup) before (seen ∷ []) right) in
    let (plain, on) = subst (λ (b : Board). IsPlainBoard b × IsOn compared b) (sym is)
    (right_on (opening_board setup) (opening_with errors setup) before (plain_opens errors setup) (quiet_opens setup) (opens_on errors setup) reached) in
    passes board seen plain on.early
    (said_alone compared board seen (quiet_all (opening_board setup) before (quiet_opens setup)) on ∙ (right_exactly Strict (from_zeros setup) before compared seen reached).1 right)
