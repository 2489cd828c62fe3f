-- Bridge and memory agree after each event. It knows the events by case and both parts' laws; which bytes move is hidden, and why neither
-- refuses the other stands in TakesAll.
use Rattle.std.proofs.Common.{◌≡◌, ℕ, ◌+◌, ◌^◌, ◌<◌, ◌≤◌, Bool, true, List, [], ◌∷◌, length, Option, Some, refl, ap, sym, ◌∙◌, arith}
use Rattle.std.specs.Prelude.{find, if◌then◌else◌, nat_le, sum_by, Result, Ok, Err}
use Rattle.std.specs.List.{AllByRecursion}
use Rattle.std.proofs.lemmas.Bool.{cond_both, leb-false}
use Rattle.std.proofs.lemmas.List.{length-append}
use Rattle.std.proofs.lemmas.List.Sums.{sum_by-append}
use Rattle.bus_words.specs.Places.{change_first}
use Rattle.bus_words.proofs.PlaceChanges.{all-find, length-change_first, length-without_found}
use Rattle.axi_beats.specs.declared.BBeat.{BBeat}
use Rattle.axi_beats.specs.declared.RBeat.{RBeat}
use Rattle.axi_beats.specs.declared.Resp.{Resp}
use Rattle.axi_checker.specs.OpenBursts.{OpenBursts, open_after}
use Rattle.axi_checker.specs.declared.AxiBeat.TheVariants.{B as OnB, R as OnR}
use Rattle.axi_checker.specs.Rules.{open_with_burst}
use Rattle.flight_table.specs.LiveRequests.{all_sent, planned, with_answered}
use Rattle.tl_messages.specs.Requests.{HeldMessage}
use Rattle.tl_messages.specs.declared.ABeat.{ABeat}
use Rattle.tl_checker.specs.declared.Progress.{Progress}
use Rattle.tl_checker.specs.declared.Progress.TheVariants.{More, Whole}
use Rattle.tl_checker.specs.declared.TlRule.{TlRule}
use Rattle.flight_table.specs.Laws.{IsSoundRequest}
use Rattle.flight_table.specs.Tables.{has_room}
use Rattle.bridge_core.specs.declared.Offered.{Offered}
use Rattle.responses.specs.Gathered.{Gathering, after_b, after_r}
use Rattle.config.specs.Configs.{is_valid}
use Rattle.bridge_core.specs.HeldRequests.{table_limits_of, BridgedRequest, after_read, after_response, after_sending, flight_table_of, holds, is_done_for, newly_live, with_request, is_numbered, outline_in, settled}
use Rattle.config.specs.declared.Config.{Config}
use Rattle.burst_plan.specs.declared.Region.{Region}
use Rattle.flight_table.specs.declared.TableLimits.{TableLimits}
use Rattle.bridge_core.specs.Bridge.{BridgeState, after_b_beat, after_r_beat, after_sent, after_take, message_with, offered, offered_after, verdict_on}
use Rattle.bridge_core.specs.Laws.{IsServed, IsSoundBridge}
use Rattle.bridge_core.specs.Sending.{Sending, next_sending}
use Rattle.bridge_core.proofs.NextSending.{next_found}
use Rattle.bridge_core.proofs.SentLinks.{found_by_number}
use Rattle.bridge_core.proofs.SendingLinks.{sound_requests}
use Rattle.subordinate.specs.FreeMemory.{FreeMemory, Pending, after_b_of, after_r_of, is_read_of, open_bursts_of, with_burst, with_performed}
use Rattle.subordinate.specs.Laws.{IsSoundMemory}
use Rattle.world.specs.Laws.{Agree, HasSerials, bursts_sent}
use Rattle.world.proofs.Serials.{most_sent}
use Rattle.subordinate.proofs.Monitors.{HasBeatsToCome, outstanding_after_b, outstanding_after_r, outstanding_performed, outstanding_sent}
use Rattle.world.proofs.OpenWork.{sum_few}
use Rattle.world.proofs.Sums.{sum_between, sum_more, sum_without}

-- as many requests live, and have sent what went to the memory
serials_kept : (state new : BridgeState) (memory after : FreeMemory) → HasSerials state memory → new.requests.accepted ≡ state.requests.accepted → length new.requests.live ≡ length state.requests.live
    → after.sent + bursts_sent state ≤ memory.sent + bursts_sent new → HasSerials new after
serials_kept state new memory after serials accepted live sent =
    record { accepted = omega (arith, serials.accepted, accepted); live = omega (arith, serials.live, accepted, live); sent = rw (accepted, live) (omega (arith, serials.sent, sent)) }

-- ---- a burst is sent

sent_counted : (state : BridgeState) (sending : Sending) → IsSoundBridge state → next_sending state.requests ≡ Some sending → bursts_sent (after_sent state sending) ≡ bursts_sent state + 1
sent_counted state sending sound is =
    let next = next_found state.requests sending is in
    let there = found_by_number _ state.requests.live sending.request sound.requests.flights.rising next.found in
    omega (arith, sum_between (λ (r : BridgedRequest). all_sent r.flight) (is_numbered sending.request.flight.number) (after_sending sending.id) state.requests.live sending.request there)

pub agree_sent : (state : BridgeState) (memory : FreeMemory) (sending : Sending) → Agree state memory → next_sending state.requests ≡ Some sending
    → IsSoundBridge (after_sent state sending) → IsSoundMemory (with_burst memory sending.burst) → Agree (after_sent state sending) (with_burst memory sending.burst)
agree_sent state memory sending agree is bridge_laws memory_laws =
    let counted = sent_counted state sending agree.bridge_laws is in
    let same = length-change_first (is_numbered sending.request.flight.number) (after_sending sending.id) state.requests.live in
    record {
      bridge_laws = bridge_laws;
      memory_laws = memory_laws;
      bus = agree.bus;
      outstanding = ap (λ (outstanding : OpenBursts). open_with_burst outstanding sending.burst) agree.outstanding ∙ outstanding_sent memory sending.burst;
      serials = serials_kept state _ memory _ agree.serials refl same (omega (arith, counted));
    }

-- ---- a beat is performed

pub agree_performed : (state : BridgeState) (memory : FreeMemory) (pending : Pending) (beat : ℕ) → Agree state memory → IsSoundMemory (with_performed memory pending beat)
    → Agree state (with_performed memory pending beat)
agree_performed state memory pending beat agree memory_laws =
    record {
      bridge_laws = agree.bridge_laws;
      memory_laws = memory_laws;
      bus = agree.bus;
      outstanding = agree.outstanding ∙ sym (outstanding_performed memory pending beat);
      serials = record { accepted = agree.serials.accepted; live = agree.serials.live; sent = agree.serials.sent };
    }

-- ---- an answer comes

-- a request that is settled has sent as much, or has all its reads behind it
settled_sent : (request : BridgedRequest) → request.flight.sent ≤ length (planned request.flight) → all_sent request.flight ≤ all_sent (settled request).flight
settled_sent request most = grind (arith, most)

response_sent : (resp : Resp) (request : BridgedRequest) → request.flight.sent ≤ length (planned request.flight) → all_sent request.flight ≤ all_sent (after_response resp request).flight
response_sent resp request most = settled_sent (record request { flight = with_answered request.flight; gathering = after_b resp request.gathering }) most

read_sent : (bus_bytes : ℕ) (r : RBeat) (request : BridgedRequest) → request.flight.sent ≤ length (planned request.flight) → all_sent request.flight ≤ all_sent (after_read bus_bytes r request).flight
read_sent bus_bytes r request most = by_last r.last
  where
    gathers : Gathering
    gathers = after_r bus_bytes (outline_in request) r request.gathering.came request.gathering

    by_last : (last : Bool) → all_sent request.flight ≤ all_sent (settled (record request { flight = if last then with_answered request.flight else request.flight; gathering = gathers })).flight
    by_last last = grind arith

abbrev IsSoundOne : BridgeState → BridgedRequest → Type 0
IsSoundOne state request = IsSoundRequest (table_limits_of state.requests.config) state.requests.accepted request.flight

answered_counted : (state : BridgeState) (memory : FreeMemory) (test : BridgedRequest → Bool) (change : BridgedRequest → BridgedRequest) → Agree state memory
    → ((q : BridgedRequest) → IsSoundOne state q → all_sent q.flight ≤ all_sent (change q).flight)
    → bursts_sent state ≤ sum_by (λ request. all_sent request.flight) (change_first test change state.requests.live)
answered_counted state memory test change agree more =
    sum_more (IsSoundOne state) (λ (q : BridgedRequest). all_sent q.flight) test change state.requests.live more (sound_requests state.requests agree.bridge_laws.requests)

pub agree_after_b : (state : BridgeState) (memory : FreeMemory) (id : ℕ) (b : BBeat) → b.id ≡ id → Agree state memory → IsSoundBridge (after_b_beat state b) → IsSoundMemory (after_b_of memory id)
    → Agree (after_b_beat state b) (after_b_of memory id)
agree_after_b state memory id b own agree bridge_laws memory_laws =
    let counted = answered_counted state memory (holds b.id) (after_response b.resp) agree (λ q one. response_sent b.resp q one.sent) in
    record {
      bridge_laws = bridge_laws;
      memory_laws = memory_laws;
      bus = agree.bus;
      outstanding =
          ap (λ (outstanding : OpenBursts). open_after outstanding (OnB b)) agree.outstanding ∙ outstanding_after_b memory b ∙ ap (λ (n : ℕ). open_bursts_of (after_b_of memory n)) own;
      serials = serials_kept state _ memory _ agree.serials refl (length-change_first (holds b.id) (after_response b.resp) state.requests.live) (omega (arith, counted));
    }

pub agree_after_r : (state : BridgeState) (memory : FreeMemory) (id : ℕ) (r : RBeat) → r.id ≡ id → Agree state memory → HasBeatsToCome (find (is_read_of r.id) memory.pending)
    → IsSoundBridge (after_r_beat state r) → IsSoundMemory (after_r_of memory id) → Agree (after_r_beat state r) (after_r_of memory id)
agree_after_r state memory id r own agree to_come bridge_laws memory_laws =
    let change = after_read state.requests.config.axi_bytes r in
    let counted = answered_counted state memory (holds r.id) change agree (λ q one. read_sent state.requests.config.axi_bytes r q one.sent) in
    record {
      bridge_laws = bridge_laws;
      memory_laws = memory_laws;
      bus = agree.bus;
      outstanding =
          ap (λ (outstanding : OpenBursts). open_after outstanding (OnR r)) agree.outstanding ∙ outstanding_after_r memory r to_come ∙ ap (λ (n : ℕ). open_bursts_of (after_r_of memory n)) own;
      serials = serials_kept state _ memory _ agree.serials refl (length-change_first (holds r.id) change state.requests.live) (omega (arith, counted));
    }

-- ---- a reply leaves

few_sent : (state : BridgeState) (client : ℕ) (request : BridgedRequest) → IsSoundBridge state → find (is_done_for client) state.requests.live ≡ Some request → all_sent request.flight ≤ 2048
few_sent state client request sound found =
    let served = all-find (IsServed state.requests.config state.requests.regions) (is_done_for client) state.requests.live request sound.requests.served found in
    let each = all-find (λ (r : BridgedRequest). IsSoundRequest (table_limits_of state.requests.config) state.requests.accepted r.flight) (is_done_for client) state.requests.live request (sound_requests state.requests sound.requests) found in
    most_sent state.requests.config state.requests.regions request sound.requests.config served each.sent

pub agree_taken : (state : BridgeState) (memory : FreeMemory) (client : ℕ) (request : BridgedRequest) → Agree state memory → find (is_done_for client) state.requests.live ≡ Some request
    → IsSoundBridge (after_take state client) → Agree (after_take state client) memory
agree_taken state memory client request agree found bridge_laws =
    let fewer = length-without_found (is_done_for client) state.requests.live request found in
    let counted = sum_without (λ (q : BridgedRequest). all_sent q.flight) (is_done_for client) state.requests.live request found in
    let few = few_sent state client request agree.bridge_laws found in
    record {
      bridge_laws = bridge_laws;
      memory_laws = agree.memory_laws;
      bus = agree.bus;
      outstanding = agree.outstanding;
      serials = record {
        accepted = agree.serials.accepted;
        live = omega (arith, agree.serials.live, fewer);
        sent = omega (arith, agree.serials.live, agree.serials.sent, fewer, counted, few);
      };
    }

-- ---- a beat is offered

-- the fronts alone change
agree_fronts : (state : BridgeState) (memory : FreeMemory) (fronts : List (Option HeldMessage)) → Agree state memory → IsSoundBridge (record state { fronts = fronts }) → Agree (record state { fronts = fronts }) memory
agree_fronts state memory fronts agree bridge_laws =
    record {
      bridge_laws = bridge_laws;
      memory_laws = agree.memory_laws;
      bus = agree.bus;
      outstanding = agree.outstanding;
      serials = record { accepted = agree.serials.accepted; live = agree.serials.live; sent = agree.serials.sent };
    }

-- a request joins, of which nothing was sent
agree_joined : (state : BridgeState) (memory : FreeMemory) (fronts : List (Option HeldMessage)) (message : HeldMessage) → Agree state memory → state.requests.accepted < 2 ^ 48
    → IsSoundBridge (record state { fronts = fronts; requests = with_request message state.requests }) → Agree (record state { fronts = fronts; requests = with_request message state.requests }) memory
agree_joined state memory fronts message agree below bridge_laws =
    let one = length-append state.requests.live (newly_live state.requests message ∷ []) in
    let counted = sum_by-append (λ (q : BridgedRequest). all_sent q.flight) state.requests.live (newly_live state.requests message ∷ []) in
    record {
      bridge_laws = bridge_laws;
      memory_laws = agree.memory_laws;
      bus = agree.bus;
      outstanding = agree.outstanding;
      serials = record {
        accepted = omega (arith, below);
        live = omega (arith, agree.serials.live, one);
        sent = omega (arith, agree.serials.live, agree.serials.sent, one, counted);
      };
    }

-- what is kept by an offer, whatever it makes of the bridge
abbrev pub IsKeptBy : BridgeState → FreeMemory → BridgeState × Offered → Type 0
IsKeptBy state memory result = IsSoundBridge result.0 → Agree result.0 memory × (result.0.requests.config ≡ state.requests.config)

agree_after : (state : BridgeState) (memory : FreeMemory) (client : ℕ) (beat : ABeat) (verdict : Result Progress TlRule) → Agree state memory → IsKeptBy state memory (offered_after verdict state client beat)
agree_after state memory client beat (Err rule) agree = λ laws. (agree, refl)
agree_after state memory client beat (Ok More) agree = λ laws. (agree_fronts state memory _ agree laws, refl)
agree_after state memory client beat (Ok Whole) agree =
    cond_both (has_room (flight_table_of state.requests) client) _ _ (IsKeptBy state memory)
    (λ room.
    cond_both (nat_le (2 ^ 48) state.requests.accepted) _ _ (IsKeptBy state memory) (λ full laws. (agree, refl))
    (λ some laws. (agree_joined state memory _ (message_with state client beat) agree (leb-false (2 ^ 48) state.requests.accepted some) laws, refl)))
    (λ full laws. (agree, refl))

pub agree_offered : (state : BridgeState) (memory : FreeMemory) (client : ℕ) (beat : ABeat) → Agree state memory → IsKeptBy state memory (offered state client beat)
agree_offered state memory client beat agree =
    cond_both (nat_le state.requests.config.clients client) _ _ (IsKeptBy state memory) (λ absent laws. (agree, refl))
    (λ known. agree_after state memory client beat (verdict_on state client beat) agree)

-- ---- serials don't run out

sent_few : (config : Config) (regions : List Region) (limits : TableLimits) (accepted : ℕ) (live : List BridgedRequest) → is_valid config ≡ true → AllByRecursion (IsServed config regions) live
    → AllByRecursion (λ (r : BridgedRequest). IsSoundRequest limits accepted r.flight) live → AllByRecursion (λ (r : BridgedRequest). all_sent r.flight ≤ 2048) live
sent_few config regions limits accepted [] valid served sound = tt
sent_few config regions limits accepted (r ∷ live) valid served sound =
    (most_sent config regions r valid served.0 sound.0.sent, sent_few config regions limits accepted live valid served.1 sound.1)

pub serials_left : (state : BridgeState) (memory : FreeMemory) → Agree state memory → memory.sent < 2 ^ 60
serials_left state memory agree =
    let table = state.requests in
    let few =
    sum_few (λ (r : BridgedRequest). all_sent r.flight) 2048 table.live
    (sent_few table.config table.regions (table_limits_of table.config) table.accepted table.live agree.bridge_laws.requests.config agree.bridge_laws.requests.served (sound_requests table agree.bridge_laws.requests)) in
    omega (arith, agree.serials.accepted, agree.serials.live, agree.serials.sent, few)
