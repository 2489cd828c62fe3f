-- The burst that goes next, and when there is one; and that the request that sends next, and the one whose reply leaves, have the smallest
-- number of those that could.
use Rattle.std.proofs.Common.{◌≡◌, ◌∙◌, ℕ, Bool, true, false, List, [], ◌∷◌, Option, None, Some, ap, refl, arith, ◌↔◌, sym}
use Rattle.std.specs.Prelude.{IfSome, if◌then◌else◌, is_some, nat_le, option_map}
use Rattle.std.specs.List.{find}
use Rattle.std.proofs.lemmas.Option.{same_Some}
use Rattle.bus_words.specs.Places.{change_first}
use Rattle.flight_table.specs.LiveRequests.{LiveRequest, with_sent}
use Rattle.flight_table.specs.Order.{IsSmallestDone, is_ready, next_ready}
use Rattle.flight_table.specs.Tables.{has_number, is_done_of, FlightTable, KeyedTable, key_where, table_of}
use Rattle.flight_table.proofs.KeyLaws.{found_done, found_ready, some_found}
use Rattle.bridge_core.specs.Bridge.{BridgeState, reply_taken, burst_to_send}
use Rattle.bridge_core.specs.Laws.{IsSoundRequestTable}
use Rattle.bridge_core.specs.HeldRequests.{BridgedRequest, RequestTable, after_sending, oldest_done, flight_table_of, flights_of, is_numbered, with_sent_burst, may_send}
use Rattle.bridge_core.specs.Sending.{Sending, SendsSmallest, next_sending}
use Rattle.bridge_core.specs.declared.Taken.{Taken}
use Rattle.bridge_core.specs.declared.Taken.TheVariants.{Reply}
use Rattle.bridge_core.proofs.TableSteps.{find-mapped}
use Rattle.bridge_core.proofs.NextSending.{next_found, next_sending-none, next_sending-some}
use Rattle.axi_beats.specs.Bursts.{Burst}

-- a place in the order is found exactly where its request is found among the live ones
pub found_flight : (test : LiveRequest → Bool) (live : List BridgedRequest) → find test (flights_of live) ≡ option_map (λ (r : BridgedRequest). r.flight) (find (λ (r : BridgedRequest). test r.flight) live)
found_flight test live = find-mapped test (λ (r : BridgedRequest). r.flight) live

pub found_live : (test : LiveRequest → Bool) (live : List BridgedRequest) → is_some (find test (flights_of live)) ≡ is_some (find (λ (r : BridgedRequest). test r.flight) live)
found_live test live = rw found_flight (grind arith)

-- ---- the request whose burst goes

changed_flights : (number id : ℕ) (live : List BridgedRequest) → flights_of (change_first (is_numbered number) (after_sending id) live) ≡ change_first (has_number number) (with_sent id) (flights_of live)
changed_flights number id [] = refl
changed_flights number id (r ∷ live) = grind (arith, changed_flights number id live)

pub sends_smallest : (table new : RequestTable) (sending : Sending) → IsSoundRequestTable table → next_sending table ≡ Some sending → new ≡ with_sent_burst sending.request.flight.number sending.id table
    → SendsSmallest table new sending
sends_smallest table new sending sound sent after =
    let next = next_found table sending sent in
    let named : next_ready (flight_table_of table) ≡ Some sending.request.flight = found_flight (is_ready (flight_table_of table)) table.live ∙ ap (option_map (λ (r : BridgedRequest). r.flight)) next.found in
    record {
      named = named;
      smallest = found_ready (flight_table_of table) sending.request.flight sound.flights.rising named;
      next = next.of_request;
      further = rw (after, changed_flights sending.request.flight.number sending.id table.live) refl;
    }

-- ---- the request whose reply leaves

-- the number that is answered is the smallest of the client's that are done
abbrev pub AnswersSmallest : BridgeState → ℕ → Taken → BridgedRequest → Type 0
AnswersSmallest state client answer request = (answer ≡ Reply request.flight.number) × IsSmallestDone (flight_table_of state.requests) client request.flight

pub takes_smallest : (state : BridgeState) (client number : ℕ) → IsSoundRequestTable state.requests → Some number ≡ option_map (λ (r : BridgedRequest). r.flight.number) (oldest_done state.requests.live client)
    → IfSome (reply_taken state client) (AnswersSmallest state client (Reply number))
takes_smallest state client number sound is = by_test (nat_le state.requests.config.clients client)
  where
    by_found : (found : Option BridgedRequest) → oldest_done state.requests.live client ≡ found → Some number ≡ option_map (λ (r : BridgedRequest). r.flight.number) found
        → IfSome found (AnswersSmallest state client (Reply number))
    by_found None none is = tt
    by_found (Some request) found is = (
      ap Reply (same_Some number request.flight.number is),
      found_done (flight_table_of state.requests) client request.flight sound.flights.rising (found_flight (is_done_of client) state.requests.live ∙ ap (option_map (λ (r : BridgedRequest). r.flight)) found),
    )

    by_test : (b : Bool) → IfSome (if b then None else oldest_done state.requests.live client) (AnswersSmallest state client (Reply number))
    by_test true = tt
    by_test false = by_found (oldest_done state.requests.live client) refl is

-- ---- whether a burst goes

-- a burst goes
abbrev pub IsSent : BridgeState → Type 0
IsSent state = (sending : Sending) × (next_sending state.requests ≡ Some sending)

-- what the table answers tells whether one goes
pub told_sent : (o : Option Sending) (burst : Option Burst) → option_map (λ (sending : Sending). Some sending.burst) o ≡ Some burst → (sending : Sending) × (o ≡ Some sending) × (burst ≡ Some sending.burst)
told_sent o burst is = grind (arith, is)

pub told_none : (o : Option Sending) → option_map (λ (sending : Sending). Some sending.burst) o ≡ None → o ≡ None
told_none o is = grind arith

told_alike : (o : Option Sending) → is_some (option_map (λ (sending : Sending). sending.burst) o) ≡ is_some (option_map (λ (sending : Sending). Some sending.burst) o)
told_alike o = grind arith

none_alike : {X Y : Type 0} (x : Option X) (y : Option Y) → is_some y ≡ is_some x → (x ≡ None) ↔ (y ≡ None)
none_alike x y same = grind arith

-- a request may send exactly where a burst goes
pub sends_alike : (state : BridgeState) → IsSoundRequestTable state.requests → is_some (find (may_send state.requests) state.requests.live) ≡ is_some (burst_to_send state)
sends_alike state sound = by_found (find (may_send state.requests) state.requests.live) refl
  where
    by_found : (found : Option BridgedRequest) → find (may_send state.requests) state.requests.live ≡ found → is_some found ≡ is_some (burst_to_send state)
    by_found None is = rw (next_sending-none state.requests is) refl
    by_found (Some request) is =
        let (sending, sent) = next_sending-some state.requests request sound is in
        rw sent refl

pub ready_goes : (state : BridgeState) → IsSoundRequestTable state.requests → is_some (next_ready (flight_table_of state.requests)) ≡ is_some (burst_to_send state)
ready_goes state sound = found_live (is_ready (flight_table_of state.requests)) state.requests.live ∙ sends_alike state sound

pub names_ready : (state : BridgeState) (flight : KeyedTable) → table_of flight ≡ flight_table_of state.requests
    → is_some (key_where (is_ready (table_of flight)) flight) ≡ is_some (next_ready (flight_table_of state.requests))
names_ready state flight same = some_found (is_ready (table_of flight)) flight.entries ∙ ap (λ (table : FlightTable). is_some (next_ready table)) same

pub ready_sends : (state : BridgeState) (flight : KeyedTable) → IsSoundRequestTable state.requests → table_of flight ≡ flight_table_of state.requests
    → is_some (key_where (is_ready (table_of flight)) flight) ≡ is_some (burst_to_send state)
ready_sends state flight sound same = names_ready state flight same ∙ ready_goes state sound

-- none goes exactly where no request is ready
pub idle_told : (state : BridgeState) (result : Option (Option Burst)) → IsSoundRequestTable state.requests → result ≡ option_map (λ (sending : Sending). Some sending.burst) (next_sending state.requests)
    → (result ≡ None) ↔ (next_ready (flight_table_of state.requests) ≡ None)
idle_told state result sound is =
    none_alike result (next_ready (flight_table_of state.requests))
    (ready_goes state sound ∙ told_alike (next_sending state.requests) ∙ ap (λ (o : Option (Option Burst)). is_some o) (sym is))
