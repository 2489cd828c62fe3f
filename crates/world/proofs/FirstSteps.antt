-- The first step that is enabled, by what stands before it; and that an R of whose burst more come enables nothing else.
use Rattle.std.proofs.Common.{◌≡◌, ℕ, true, false, List, [], ◌∷◌, length, Option, Some, None, is_some, refl, ap, sym, ◌∙◌, subst, ◌<◌, arith}
use Rattle.std.specs.Prelude.{find, flat_map, slice_get}
use Rattle.std.specs.List.{range_with_len}
use Rattle.std.proofs.lemmas.Bool.{lt-leb}
use Rattle.std.proofs.lemmas.Option.{slice_get_within}
use Rattle.bus_words.specs.Places.{change_first}
use Rattle.bus_words.proofs.FirstPlaces.{find-same}
use Rattle.axi_beats.specs.Bursts.{Burst}
use Rattle.axi_beats.specs.declared.RBeat.{RBeat}
use Rattle.flight_table.specs.LiveRequests.{LiveRequest, planned}
use Rattle.flight_table.specs.Order.{next_ready}
use Rattle.flight_table.specs.Tables.{FlightTable}
use Rattle.bridge_core.specs.Bridge.{BridgeState, after_r_beat, burst_to_send, r_fault}
use Rattle.bridge_core.specs.HeldRequests.{table_limits_of, BridgedRequest, after_read, flight_table_of, flights_of, holds}
use Rattle.bridge_core.specs.Laws.{IsSoundBridge}
use Rattle.bridge_core.proofs.AnswerLinks.{finds_reader}
use Rattle.bridge_core.proofs.Pumps.{ready_goes}
use Rattle.subordinate.specs.FreeMemory.{FreeMemory, Pending, after_r_of, b_from, b_of, first_with_b, first_with_r, gives_last, is_read_of, is_write_of, pending_after_r, performed, r_of, waiting_beats, waiting_in}
use Rattle.subordinate.specs.declared.Performed.{Performed}
use Rattle.subordinate.specs.declared.Performed.TheVariants as perform
use Rattle.subordinate.proofs.OrderLaws.{read_not_write}
use Rattle.world.specs.Choices.{IsPerformed, answers_enabled, goes_on, is_sent}
use Rattle.world.specs.Laws.{IsSoundWorld}
use Rattle.world.specs.World.{WorldState, answered_r, enabled, next, perform_at, performed_by, pumped}
use Rattle.world.specs.declared.Step.TheVariants.{AnswerB, AnswerR, Perform, Pump}
use Rattle.world.proofs.EnabledSteps.{at_before, first_is_b, first_is_r}
use Rattle.world.proofs.OpenWork.{r_found}
use Rattle.world.proofs.TakesAll.{r_unbroken}

-- ---- which is first

-- a Pump tells by its answer whether a burst went
pub pump_tells : (state : WorldState) (burst : Option Burst) → is_sent (pumped state burst).answer ≡ is_some burst
pump_tells state burst = grind arith

pub first_pump : (state : WorldState) → is_some (burst_to_send state.bridge) ≡ true → slice_get (enabled state) 0 ≡ Some Pump
first_pump state goes = rw goes refl

pub first_perform : (state : WorldState) (serial beat : ℕ) → burst_to_send state.bridge ≡ None → slice_get (waiting_beats state.memory) 0 ≡ Some (serial, beat) → slice_get (enabled state) 0 ≡ Some (perform_at (serial, beat))
first_perform state serial beat idle waits = rw idle (at_before perform_at (waiting_beats state.memory) (answers_enabled state.memory) 0 (serial, beat) waits)

first_answer : (state : WorldState) → IsPerformed state → slice_get (answers_enabled state.memory) 0 ≡ slice_get (enabled state) 0
first_answer state still = rw (still.idle, still.performed) refl

pub first_b : (state : WorldState) (id : ℕ) → IsPerformed state → first_with_b state.memory ≡ Some id → slice_get (enabled state) 0 ≡ Some (AnswerB id)
first_b state id still is = sym (first_answer state still) ∙ sym (first_is_b state.memory id is)

pub first_r : (state : WorldState) (id : ℕ) → IsPerformed state → first_with_b state.memory ≡ None → first_with_r state.memory ≡ Some id → slice_get (enabled state) 0 ≡ Some (AnswerR id)
first_r state id still none is = sym (first_answer state still) ∙ sym (first_is_r state.memory none) ∙ rw is refl

pub none_at : {X : Type 0} (xs : List X) → slice_get xs 0 ≡ None → xs ≡ []
none_at [] none = refl
none_at (x ∷ xs) none = absurd (cc (none))

pub none_first : (state : WorldState) → IsPerformed state → first_with_b state.memory ≡ None → first_with_r state.memory ≡ None → enabled state ≡ []
none_first state still no_b no_r = none_at (enabled state) (sym (first_answer state still) ∙ sym (first_is_r state.memory no_b) ∙ rw no_r refl)

none_goes : (o : Option Burst) → is_some o ≡ false → o ≡ None
none_goes o none = grind (arith, none)

-- where a Pump tells that no burst went, no request is ready and nothing changed
pub unpumped : (state : WorldState) → is_sent (next state Pump).answer ≡ false → (burst_to_send state.bridge ≡ None) × ((next state Pump).state ≡ state)
unpumped state stays = by_burst (burst_to_send state.bridge) (sym (pump_tells state (burst_to_send state.bridge)) ∙ stays)
  where
    by_burst : (o : Option Burst) → is_some o ≡ false → (o ≡ None) × ((pumped state o).state ≡ state)
    by_burst o none = grind (arith, none)

-- a beat that is performed makes no request ready
performed_apart : (state : WorldState) (made : FreeMemory × Performed) → (performed_by state made).state.bridge ≡ state.bridge
performed_apart state made = grind arith

pub stays_unready : (state : WorldState) (serial beat : ℕ) → burst_to_send state.bridge ≡ None → burst_to_send (next state (Perform serial beat)).state.bridge ≡ None
stays_unready state serial beat idle = ap burst_to_send (performed_apart state (performed state.memory serial beat)) ∙ idle

-- ---- an R of whose burst more come

-- the open bursts keep their beats
same_beats : (id : ℕ) (ps : List Pending) (p : Pending) → find (is_read_of id) ps ≡ Some p → gives_last p ≡ false → flat_map waiting_in (pending_after_r id ps) ≡ flat_map waiting_in ps
same_beats id [] p found more = absurd (cc (found))
same_beats id (q ∷ ps) p found more = grind (arith, more, same_beats id ps p)

same_write : (id write : ℕ) (ps : List Pending) (p : Pending) → find (is_read_of id) ps ≡ Some p → gives_last p ≡ false → find (is_write_of write) (pending_after_r id ps) ≡ find (is_write_of write) ps
same_write id write [] p found more = absurd (cc (found))
same_write id write (q ∷ ps) p found more = grind (arith, more, read_not_write id write q.burst, same_write id write ps p)

-- the requests keep their places in the order
same_flights : (id : ℕ) (f : BridgedRequest → BridgedRequest) (live : List BridgedRequest) (request : BridgedRequest) → find (holds id) live ≡ Some request → (f request).flight ≡ request.flight
    → flights_of (change_first (holds id) f live) ≡ flights_of live
same_flights id f [] request held same = absurd (cc (held))
same_flights id f (q ∷ live) request held same = grind (arith, same, λ (later : find (holds id) live ≡ Some request). same_flights id f live request later same)

same_flight : (bus_bytes : ℕ) (r : RBeat) (request : BridgedRequest) → r.last ≡ false → request.flight.answered < length (planned request.flight) → (after_read bus_bytes r request).flight ≡ request.flight
same_flight bus_bytes r request more within = rw (more, lt-leb (length (planned request.flight)) request.flight.answered within) refl

-- no request gets ready by it
same_order : (state : BridgeState) (r : RBeat) → IsSoundBridge state → r_fault state r ≡ None → r.last ≡ false → flight_table_of (after_r_beat state r).requests ≡ flight_table_of state.requests
same_order state r sound none more =
    let table = state.requests in
    let finds = finds_reader state r sound none in
    let within = slice_get_within (planned finds.request.flight) finds.request.flight.answered _ finds.reader.next.at in
    ap (λ (flights : List LiveRequest). record { limits = table_limits_of table.config; accepted = table.accepted; live = flights })
    (same_flights r.id (after_read table.config.axi_bytes r) table.live finds.request finds.reader.holder.held (same_flight table.config.axi_bytes r finds.request more within))

stays_idle : (state : BridgeState) (r : RBeat) → IsSoundBridge state → IsSoundBridge (after_r_beat state r) → r_fault state r ≡ None → r.last ≡ false → burst_to_send state ≡ None → burst_to_send (after_r_beat state r) ≡ None
stays_idle state r sound kept none more idle =
    none_goes (burst_to_send (after_r_beat state r))
    (sym (ready_goes (after_r_beat state r) kept.requests)
    ∙ ap (λ (table : FlightTable). is_some (next_ready table)) (same_order state r sound none more)
    ∙ ready_goes state sound.requests ∙ ap (λ (o : Option Burst). is_some o) idle)

-- what may come after it is as before
pub record StaysRead (state : WorldState) : Type 0 where
  pub performed : IsPerformed state
  pub written : first_with_b state.memory ≡ None

not_last : (state : WorldState) (id : ℕ) (o : Option RBeat) → goes_on (answered_r state id o).answer ≡ true → (r : RBeat) × (o ≡ Some r) × (r.last ≡ false)
not_last state id o goes = grind (arith, goes)

pub reads_on : (state : WorldState) (id : ℕ) → IsSoundWorld state → IsSoundWorld (next state (AnswerR id)).state → StaysRead state → goes_on (next state (AnswerR id)).answer ≡ true
    → StaysRead (next state (AnswerR id)).state
reads_on state id sound kept still goes =
    let (r, is, more) = not_last state id (r_of state.memory id) goes in
    let finds = r_found state.memory id r is in
    let gives : gives_last finds.read ≡ false = sym (ap (λ (beat : RBeat). beat.last) finds.answer) ∙ more in
    let none = r_unbroken state id r sound is in
    let kept_r : IsSoundWorld (answered_r state id (Some r)).state = subst (λ (o : Option RBeat). IsSoundWorld (answered_r state id o).state) is kept in
    subst (λ (o : Option RBeat). StaysRead (answered_r state id o).state) (sym is)
    (record {
      performed =
          record {
            idle = stays_idle state.bridge r sound.bridge_laws kept_r.bridge_laws none more still.performed.idle;
            performed = same_beats id state.memory.pending finds.read finds.found gives ∙ still.performed.performed;
          };
      written =
          find-same (λ (write : ℕ). is_some (b_of (after_r_of state.memory id) write)) (λ (write : ℕ). is_some (b_of state.memory write)) (range_with_len 0 16)
          (λ write. ap (λ (o : Option Pending). is_some (b_from state.memory.faults write o)) (same_write id write state.memory.pending finds.read finds.found gives))
          ∙ still.written;
    })
