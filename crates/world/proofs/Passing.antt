-- What goes from the bridge to the memory in its box, the burst that was sent last, and what comes back: the answers of the memory, and the boxes
-- that close. It knows the contracts of both parts' calls; what a burst or an answer says is hidden.
use Rattle.std.proofs.Common.{◌≡◌, ℕ, ◌+◌, ◌-◌, ◌<◌, [], ◌∷◌, length, arith, Option, Some, None, Result, Ok, Err, refl, ap, sym, ◌∙◌, subst, ◌≤◌, List, ◌++◌, Bool, true, false}
use Rattle.std.specs.Prelude.{IfSome, IsSome, MatchOption, find, option_map}
use Rattle.std.proofs.lemmas.Option.{same_Some, slice_get_within}
use Rattle.axi_beats.specs.Bursts.{Burst}
use Rattle.std.proofs.lemmas.List.{length-append}
use Rattle.bridge_core.specs.Bridge.{BridgeState, StockedBridge, after_pump, after_pump_of, after_sent, burst_to_send, after_b_beat, after_r_beat}
use Rattle.bridge_core.specs.Laws.{IsSoundBridge}
use Rattle.bridge_core.specs.Sending.{Sending, next_sending}
use Rattle.subordinate.specs.Device.{DeviceState, open_burst, after_b, after_r, closed_by_b, closed_by_r}
use Rattle.subordinate.specs.FreeMemory.{FreeMemory, newly_pending, with_burst, Pending, has_serial, after_b_of, after_r_of, b_of, gives_last, is_read_of, is_write_of, r_of}
use Rattle.subordinate.specs.Laws.{IsSoundMemory, RisesWithin, IsSoundPending}
use Rattle.world.specs.Laws.{Agree, GoesWell}
use Rattle.world.specs.World.{WorldState, pumped}
use Rattle.world.specs.Inside.{ArePaired, world_state}
use Rattle.world.proofs.Agreeing.{agree_sent, agree_after_b, agree_after_r}
use Rattle.world.proofs.Boxes.{box_in_stock}
use Rattle.world.proofs.TakesAll.{takes_all}
use Rattle.std.proofs.lemmas.Bool.{eq-eqb, ne_eqb}
use Rattle.bus_words.proofs.PlaceChanges.{all-find, length-change_first, length-without_found}
use Rattle.bus_words.proofs.MappedPlaces.{map_some}
use Rattle.axi_beats.specs.declared.BBeat.{BBeat}
use Rattle.axi_beats.specs.declared.RBeat.{RBeat}
use Rattle.axi_checker.specs.declared.AxiRule.{AxiRule}
use Rattle.subordinate.specs.Inside.{with_answer}
use Rattle.subordinate.proofs.OpenBursts.{pending_after_r-last, pending_after_r-more}
use Rattle.world.proofs.OpenWork.{b_found, r_found}

abbrev pub world_of : BridgeState → FreeMemory → WorldState
world_of bridge memory = record { bridge = bridge; memory = memory; last_sent = None }

-- the box holds the burst that goes next
pub record IsNextIn (bridge : BridgeState) (memory : FreeMemory) (box : Option Burst) : Type 0 where
  pub burst : Burst
  pub held : box ≡ Some burst
  pub next : burst_to_send bridge ≡ Some burst
  pub well : GoesWell (world_of bridge memory) burst

pub next_in : (bridge : BridgeState) (memory : FreeMemory) (box : Option Burst) → Agree bridge memory → Some box ≡ option_map Some (burst_to_send bridge) → IsNextIn bridge memory box
next_in bridge memory box agree is =
    map_some Some (burst_to_send bridge) box (sym is)
    (λ burst goes same. record { burst = burst; held = sym same; next = goes; well = rw goes at (takes_all (world_of bridge memory) agree).pump })

-- which request sends it
pub record IsSentBy (bridge : BridgeState) (burst : Burst) : Type 0 where
  pub sending : Sending
  pub next : next_sending bridge.requests ≡ Some sending
  pub burst_is : sending.burst ≡ burst
  pub after : after_pump bridge ≡ after_sent bridge sending

pub sent_by : (bridge : BridgeState) (burst : Burst) → burst_to_send bridge ≡ Some burst → IsSentBy bridge burst
sent_by bridge burst is =
    map_some (λ (s : Sending). s.burst) (next_sending bridge.requests) burst is
    (λ sending same own. record { sending = sending; next = same; burst_is = own; after = ap (after_pump_of bridge) same })

-- both after it went
pub paired_sent : (bridge : StockedBridge) (device : DeviceState) (burst : Burst) → ArePaired bridge device → burst_to_send bridge.state ≡ Some burst
    → IsSoundBridge (after_pump bridge.state) → IsSoundMemory (with_burst device.memory burst)
    → ArePaired (record { state = after_pump bridge.state; stock = bridge.stock - 1 }) (record device { memory = with_burst device.memory burst })
paired_sent bridge device burst paired goes bridge_laws memory_laws =
    let sent = sent_by bridge.state burst goes in
    let some : 0 < bridge.stock = box_in_stock bridge device paired (subst IsSome (sym goes) refl) in
    rw (← sent.burst_is, sent.after)
    (record {
      agree = agree_sent bridge.state device.memory sent.sending paired.agree sent.next (rw sent.after at bridge_laws) (rw (← sent.burst_is) at memory_laws);
      none_closed = paired.none_closed;
      boxes = omega (arith, some, paired.boxes, length-append device.memory.pending (newly_pending device.memory.sent sent.sending.burst ∷ []));
    })

rises_to : (low top : ℕ) (pending : List Pending) → RisesWithin low top pending → low ≤ top
rises_to low top [] rises = rises
rises_to low top (p ∷ later) rises = omega (arith, rises.0, rises_to (p.serial + 1) top later rises.1)

-- no open burst has a serial that wasn't given
pub find_past : (low top serial : ℕ) (pending : List Pending) (last : Pending) → RisesWithin low top pending → top ≤ serial → find (has_serial serial) (pending ++ last ∷ []) ≡ find (has_serial serial) (last ∷ [])
find_past low top serial [] last rises past = refl
find_past low top serial (p ∷ later) last rises past =
    rw (ne_eqb p.serial serial (λ same. absurd (omega (arith, same, past, rises_to (p.serial + 1) top later rises.1)))) (find_past (p.serial + 1) top serial later last rises.1 past)

found_last : (memory : FreeMemory) (burst : Burst) → RisesWithin 0 memory.sent memory.pending → open_burst (with_burst memory burst) memory.sent ≡ Some burst
found_last memory burst rises =
    ap (option_map (λ (p : Pending). p.burst)) (find_past 0 memory.sent memory.sent memory.pending (newly_pending memory.sent burst) rises (omega arith)) ∙ rw (eq-eqb memory.sent memory.sent refl) refl

-- the world after a burst went
pub pumped_state : (state : WorldState) (bridge : StockedBridge) (device : DeviceState) (serial : ℕ) → RisesWithin 0 state.memory.sent state.memory.pending
    → (next : Option Burst) → IfSome next (λ burst. (◌≡◌ {A = Option ℕ} (Some serial) (Some state.memory.sent)) × (bridge.state ≡ after_pump state.bridge) × (device.memory ≡ with_burst state.memory burst))
    → (next ≡ None → ◌≡◌ {A = Option ℕ} (Some serial) None) → world_state bridge device (Some serial) ≡ (pumped state next).state
pumped_state state bridge device serial rises None sent idle = let none = idle refl in absurd (cc (none))
pumped_state state bridge device serial rises (Some burst) sent idle =
    let same : serial ≡ state.memory.sent = same_Some serial state.memory.sent sent.0 in
    let last : open_burst device.memory serial ≡ Some burst =
    ap (λ (n : ℕ). open_burst device.memory n) same ∙ ap (λ (m : FreeMemory). open_burst m state.memory.sent) sent.2 ∙ found_last state.memory burst rises in
    λ i. record { bridge = sent.1 i; memory = sent.2 i; last_sent = last i }

-- the bridge takes it
pub never_faults : (fault : Option AxiRule) (result : Result Unit AxiRule) (rule : AxiRule) → fault ≡ None → result ≡ Err rule → MatchOption fault (result ≡ Ok tt) (λ rule. result ≡ Err rule) → ⊥
never_faults None result rule none is answer = absurd (cc (is, answer))
never_faults (Some other) result rule none is answer = absurd (cc (none))

-- where a box closes, a burst was open, which isn't any more
b_closes : (memory : FreeMemory) (id : ℕ) (p : Pending) → find (is_write_of id) memory.pending ≡ Some p → length (after_b_of memory id).pending + length (closed_by_b memory id) ≡ length memory.pending
b_closes memory id p found = rw found (length-without_found (is_write_of id) memory.pending p found)

r_closes : (memory : FreeMemory) (id : ℕ) (p : Pending) → find (is_read_of id) memory.pending ≡ Some p → length (after_r_of memory id).pending + length (closed_by_r memory id) ≡ length memory.pending
r_closes memory id p found = by_last (gives_last p) refl
  where
    by_last : (last : Bool) → gives_last p ≡ last → length (after_r_of memory id).pending + length (closed_by_r memory id) ≡ length memory.pending
    by_last true is = rw (found, is, pending_after_r-last id memory.pending p found is) (length-without_found (is_read_of id) memory.pending p found)
    by_last false is = rw (found, is, pending_after_r-more id memory.pending p found is) (omega (arith, length-change_first (is_read_of id) with_answer memory.pending))

-- both, after an answer, the box given back
pub paired_b : (bridge : StockedBridge) (device : DeviceState) (id : ℕ) (b : BBeat) → ArePaired bridge device → b_of device.memory id ≡ Some b
    → IsSoundBridge (after_b_beat bridge.state b) → IsSoundMemory (after_b_of device.memory id)
    → ArePaired (record { state = after_b_beat bridge.state b; stock = bridge.stock + length (after_b device id).closed }) (record (after_b device id) { closed = [] })
paired_b bridge device id b paired is bridge_laws memory_laws =
    let finds = b_found device.memory id b is in
    record {
      agree = agree_after_b bridge.state device.memory id b (ap (λ (x : BBeat). x.id) finds.answer) paired.agree bridge_laws memory_laws;
      none_closed = refl;
      boxes = rw paired.none_closed (omega (arith, paired.boxes, b_closes device.memory id finds.write finds.found));
    }

pub paired_r : (bridge : StockedBridge) (device : DeviceState) (id : ℕ) (r : RBeat) → ArePaired bridge device → r_of device.memory id ≡ Some r
    → IsSoundBridge (after_r_beat bridge.state r) → IsSoundMemory (after_r_of device.memory id)
    → ArePaired (record { state = after_r_beat bridge.state r; stock = bridge.stock + length (after_r device id).closed }) (record (after_r device id) { closed = [] })
paired_r bridge device id r paired is bridge_laws memory_laws =
    let finds = r_found device.memory id r is in
    let own : r.id ≡ id = ap (λ (x : RBeat). x.id) finds.answer in
    let each = all-find (IsSoundPending device.memory.bus_bytes) (is_read_of id) device.memory.pending finds.read paired.agree.memory_laws.each finds.found in
    let within = slice_get_within finds.read.beats finds.read.answered _ finds.captured in
    record {
      agree = agree_after_r bridge.state device.memory id r own paired.agree (rw (own, finds.found) (omega (arith, within, each.whole))) bridge_laws memory_laws;
      none_closed = refl;
      boxes = rw paired.none_closed (omega (arith, paired.boxes, r_closes device.memory id finds.read finds.found));
    }

-- where more of its burst come no box closes
pub paired_more : (bridge : StockedBridge) (device : DeviceState) (id : ℕ) (r : RBeat) → ArePaired bridge device → r_of device.memory id ≡ Some r → r.last ≡ false
    → IsSoundBridge (after_r_beat bridge.state r) → IsSoundMemory (after_r_of device.memory id) → ArePaired (record bridge { state = after_r_beat bridge.state r }) (after_r device id)
paired_more bridge device id r paired is more bridge_laws memory_laws =
    let finds = r_found device.memory id r is in
    let gives : gives_last finds.read ≡ false = sym (ap (λ (x : RBeat). x.last) finds.answer) ∙ more in
    let none : (after_r device id).closed ≡ [] = rw (paired.none_closed, finds.found, gives) refl in
    let both = paired_r bridge device id r paired is bridge_laws memory_laws in
    record { agree = both.agree; none_closed = none; boxes = omega (arith, both.boxes, ap (λ (closed : List Burst). length closed) none) }
