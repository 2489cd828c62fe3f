-- Bridge and memory at first, and after an event that concerns one of them alone. It knows what the constructors of both parts promise, and which
-- of their laws look at the other part.
use Rattle.std.specs.Prelude.{MatchOption, Result, Ok, Err, find, if◌then◌else◌, is_some, nat_le, slice_get}
use Rattle.std.proofs.Common.{◌≡◌, ℕ, Bool, true, false, List, Option, None, Some, refl, arith, length, ap, subst, sym, ◌∙◌}
use Rattle.burst_plan.specs.declared.Region.{Region}
use Rattle.bridge_core.specs.Bridge.{StockedBridge, opening_bridge, BridgeState, after_take, boxes_of, offered, reply_taken, taken, taken_of}
use Rattle.bridge_core.specs.Laws.{IsSoundBridge}
use Rattle.config.specs.declared.Config.{Config}
use Rattle.subordinate.specs.Device.{DeviceState, opening_device}
use Rattle.subordinate.specs.Laws.{IsSoundMemory}
use Rattle.subordinate.specs.declared.PageKind.{PageKind}
use Rattle.world.specs.Choices.{PerformsFirst}
use Rattle.world.specs.Inside.{ArePaired, world_state}
use Rattle.bus_words.proofs.PlaceChanges.{length-change_first}
use Rattle.tl_messages.specs.declared.ABeat.{ABeat}
use Rattle.bridge_core.specs.HeldRequests.{BridgedRequest, is_done_for, oldest_done, reply_beats}
use Rattle.bridge_core.specs.declared.Taken.{Taken}
use Rattle.subordinate.specs.FreeMemory.{FreeMemory, Pending, beat_at, has_serial, performed, performed_beat, performed_in, waiting_beats}
use Rattle.subordinate.specs.declared.Performed.{Performed}
use Rattle.subordinate.specs.declared.Performed.TheVariants as perform
use Rattle.subordinate.specs.declared.BeatState.{BeatState}
use Rattle.subordinate.specs.declared.BeatState.TheVariants.{Captured, Waiting, Written}
use Rattle.world.specs.Laws.{Agree}
use Rattle.world.specs.World.{Outcome, WorldState, changed, next, performed_by, unchanged}
use Rattle.world.specs.World as world
use Rattle.world.specs.declared.Answer.TheVariants as answer
use Rattle.world.specs.declared.Step.TheVariants.{Take}
use Rattle.world.proofs.Agreeing.{agree_offered, agree_performed, agree_taken}
use Rattle.bridge_core.specs.declared.Taken.TheVariants as take

pub paired_opening : (config : Config) (regions : List Region) (pages : List (ℕ × PageKind)) (bad : List ℕ) (bridge : StockedBridge) (device : DeviceState) → bridge ≡ opening_bridge config regions
    → device ≡ opening_device config.axi_bytes pages bad → IsSoundBridge bridge.state → IsSoundMemory device.memory → ArePaired bridge device
paired_opening config regions pages bad bridge device bridge_is device_is bridge_laws memory_laws =
    rw (bridge_is, device_is)
    (record {
      agree = record {
        bridge_laws = rw bridge_is at bridge_laws;
        memory_laws = rw device_is at memory_laws;
        bus = refl;
        outstanding = refl;
        serials = record { accepted = omega arith; live = omega arith; sent = omega arith };
      };
      none_closed = refl;
      boxes = omega arith;
    })

-- a device that was made is the opening one
pub device_made : {F : Type 0} (fault : Option F) (device : DeviceState) (P : Type 0) → MatchOption fault P (λ f. ◌≡◌ {A = Result DeviceState F} (Ok device) (Err f)) → P
device_made None device P is = is
device_made (Some f) device P is = absurd (cc (is))

-- the bridge alone changes, and has as many boxes in stock as before
pub paired_offered : (bridge new : StockedBridge) (device : DeviceState) (client : ℕ) (beat : ABeat) → ArePaired bridge device → new ≡ record bridge { state = (offered bridge.state client beat).0 }
    → IsSoundBridge new.state → ArePaired new device
paired_offered bridge new device client beat paired is laws =
    let agree = agree_offered bridge.state device.memory client beat paired.agree (rw is at laws) in
    rw is (record { agree = agree.0; none_closed = paired.none_closed; boxes = omega (arith, paired.boxes, ap boxes_of agree.1) })

taken_found : (state : BridgeState) (client : ℕ) (request : BridgedRequest) → reply_taken state client ≡ Some request → find (is_done_for client) state.requests.live ≡ Some request
taken_found state client request is = grind (arith, is)

pub paired_taken : (bridge new : StockedBridge) (device : DeviceState) (client : ℕ) (request : BridgedRequest) → ArePaired bridge device → reply_taken bridge.state client ≡ Some request
    → new ≡ record bridge { state = after_take bridge.state client } → IsSoundBridge new.state → ArePaired new device
paired_taken bridge new device client request paired found is laws =
    let agree = agree_taken bridge.state device.memory client request paired.agree (taken_found bridge.state client request found) (rw is at laws) in
    rw is (record { agree = agree; none_closed = paired.none_closed; boxes = paired.boxes })

-- the memory alone changes, and has as many bursts open as before
abbrev IsKeptBy : BridgeState → FreeMemory → FreeMemory × Performed → Type 0
IsKeptBy bridge memory made = IsSoundMemory made.0 → Agree bridge made.0 × (length made.0.pending ≡ length memory.pending)

kept_performed : (bridge : BridgeState) (memory : FreeMemory) (serial beat : ℕ) → Agree bridge memory → IsKeptBy bridge memory (performed memory serial beat)
kept_performed bridge memory serial beat agree = by_found (find (has_serial serial) memory.pending)
  where
    by_beat : (pending : Pending) (at : Option BeatState) → IsKeptBy bridge memory (performed_beat memory pending beat at)
    by_beat pending None laws = (agree, refl)
    by_beat pending (Some Waiting) laws = (agree_performed bridge memory pending beat agree laws, length-change_first (has_serial pending.serial) _ memory.pending)
    by_beat pending (Some Written) laws = (agree, refl)
    by_beat pending (Some (Captured payload resp)) laws = (agree, refl)

    by_found : (found : Option Pending) → IsKeptBy bridge memory (performed_in memory beat found)
    by_found None = λ laws. (agree, refl)
    by_found (Some pending) = by_beat pending (beat_at pending beat)

pub paired_performed : (bridge : StockedBridge) (device new : DeviceState) (serial beat : ℕ) → ArePaired bridge device → new ≡ record device { memory = (performed device.memory serial beat).0 }
    → IsSoundMemory new.memory → ArePaired bridge new
paired_performed bridge device new serial beat paired is laws =
    let kept = kept_performed bridge.state device.memory serial beat paired.agree (rw is at laws) in
    rw is (record { agree = kept.0; none_closed = paired.none_closed; boxes = omega (arith, paired.boxes, kept.1) })

-- ---- the first beat that waits

-- a device that performed it, if one did
abbrev pub FirstDone : DeviceState → DeviceState → Option (ℕ × ℕ) → Type 0
FirstDone device new first =
    MatchOption first (new ≡ device) (λ at. (new ≡ record device { memory = (performed device.memory at.0 at.1).0 }) × ((performed device.memory at.0 at.1).1 ≡ perform.Done))

pub paired_first : (bridge : StockedBridge) (device new : DeviceState) (first : Option (ℕ × ℕ)) → ArePaired bridge device → FirstDone device new first → IsSoundMemory new.memory → ArePaired bridge new
paired_first bridge device new None paired done laws = subst (ArePaired bridge) (sym done) paired
paired_first bridge device new (Some at) paired done laws = paired_performed bridge device new at.0 at.1 paired done.0 laws

pub none_done : (bridge : StockedBridge) (device new : DeviceState) (serial : Option ℕ) (first : Option (ℕ × ℕ)) → is_some first ≡ false → FirstDone device new first
    → (first ≡ None) × (world_state bridge new serial ≡ world_state bridge device serial)
none_done bridge device new serial first none done = grind (arith, none, done)

done_state : (state : WorldState) (made : FreeMemory × Performed) → made.1 ≡ perform.Done → (performed_by state made).state ≡ record { bridge = state.bridge; memory = made.0; last_sent = None }
done_state state made is = grind (arith, is)

pub first_done : (bridge : StockedBridge) (device new : DeviceState) (serial : Option ℕ) (first : Option (ℕ × ℕ)) → slice_get (waiting_beats device.memory) 0 ≡ first → is_some first ≡ true → FirstDone device new first
    → PerformsFirst (world_state bridge device serial) (world_state bridge new None)
first_done bridge device new serial None is some done = absurd (cc (some))
first_done bridge device new serial (Some at) is some done =
    record {
      serial = at.0;
      beat = at.1;
      first = is;
      state = ap (λ (d : DeviceState). world_state bridge d None) done.0 ∙ sym (done_state (world_state bridge device serial) (performed device.memory at.0 at.1) done.1);
    }

-- ---- which answer

-- a reply is that of a request
pub record IsTakenFrom (state : BridgeState) (client number : ℕ) : Type 0 where
  pub request : BridgedRequest
  pub found : reply_taken state client ≡ Some request

pub reply_of : (state : BridgeState) (client number : ℕ) → taken state client ≡ take.Reply number → IsTakenFrom state client number
reply_of state client number is = by_found (reply_taken state client) refl
  where
    by_found : (found : Option BridgedRequest) → reply_taken state client ≡ found → IsTakenFrom state client number
    by_found None none = absurd (grind (arith, is, none))
    by_found (Some request) found = record { request = request; found = found }

-- ---- what a take makes of a world, by what the bridge answers

pub take_nowhere : (state : WorldState) (client : ℕ) → taken state.bridge client ≡ take.NoClient → next state (Take client) ≡ unchanged state answer.NoClient
take_nowhere state client = by_test (nat_le state.bridge.requests.config.clients client) (oldest_done state.bridge.requests.live client)
  where
    by_test : (beyond : Bool) (found : Option BridgedRequest) → ◌≡◌ {A = Taken} (if beyond then take.NoClient else taken_of found) take.NoClient
        → ◌≡◌ {A = Outcome} (if beyond then unchanged state answer.NoClient else world.taken state client (if beyond then None else found)) (unchanged state answer.NoClient)
    by_test beyond found = grind arith

pub take_nothing : (state : WorldState) (client : ℕ) → taken state.bridge client ≡ take.Nothing → next state (Take client) ≡ unchanged state answer.Nothing
take_nothing state client = by_test (nat_le state.bridge.requests.config.clients client) (oldest_done state.bridge.requests.live client)
  where
    by_test : (beyond : Bool) (found : Option BridgedRequest) → ◌≡◌ {A = Taken} (if beyond then take.NoClient else taken_of found) take.Nothing
        → ◌≡◌ {A = Outcome} (if beyond then unchanged state answer.NoClient else world.taken state client (if beyond then None else found)) (unchanged state answer.Nothing)
    by_test beyond found = grind arith

pub take_reply : (state : WorldState) (client number : ℕ) (request : BridgedRequest) → taken state.bridge client ≡ take.Reply number → reply_taken state.bridge client ≡ Some request
    → next state (Take client) ≡ record (changed (after_take state.bridge client) state.memory (answer.Reply number)) { reply = reply_beats request }
take_reply state client number request = by_test (nat_le state.bridge.requests.config.clients client) (oldest_done state.bridge.requests.live client)
  where
    by_test : (beyond : Bool) (found : Option BridgedRequest) → ◌≡◌ {A = Taken} (if beyond then take.NoClient else taken_of found) (take.Reply number)
        → ◌≡◌ {A = Option BridgedRequest} (if beyond then None else found) (Some request)
        → ◌≡◌ {A = Outcome} (if beyond then unchanged state answer.NoClient else world.taken state client (if beyond then None else found))
        (record (changed (after_take state.bridge client) state.memory (answer.Reply number)) { reply = reply_beats request })
    by_test beyond found = grind arith

-- where no reply is answered, none is there to take
pub none_there : (state : BridgeState) (client : ℕ) → ((number : ℕ) → taken state client ≡ take.Reply number → ⊥) → reply_taken state client ≡ None
none_there state client = by_test (nat_le state.requests.config.clients client) (oldest_done state.requests.live client)
  where
    by_test : (beyond : Bool) (found : Option BridgedRequest) → ((number : ℕ) → ◌≡◌ {A = Taken} (if beyond then take.NoClient else taken_of found) (take.Reply number) → ⊥)
        → ◌≡◌ {A = Option BridgedRequest} (if beyond then None else found) None
    by_test true found = λ never. refl
    by_test false None = λ never. refl
    by_test false (Some request) = λ never. absurd (never request.flight.number refl)
