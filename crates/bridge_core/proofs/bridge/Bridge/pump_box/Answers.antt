-- The burst that goes is that of the smallest ready number; it is legal, and breaks no rule of the port.
use Rattle.std.proofs.Common.{◌≡◌, ◌∙◌, ◌+◌, ◌≤◌, Option, None, Some, refl, ap, sym, subst, arith, ◌<◌, IsSome}
use Rattle.std.specs.Vec.{vec_capacity, vec_len}
use Rattle.axi_beats.specs.Bursts.{Burst, IsLegal}
use Rattle.axi_checker.specs.Rules.{burst_fault}
use Rattle.bridge_core.specs.Bridge.{BridgeState, StockedBridge, burst_to_send}
use Rattle.config.specs.Configs.{axi_port_of}
use Rattle.bridge_core.specs.HeldRequests.{with_sent_burst}
use Rattle.bridge_core.specs.Sending.{next_sending}
use Rattle.bridge_core.proofs.BridgeSteps.{IsBridge, monitor_with, pumped, pumped_state, state_in}
use Rattle.bridge_core.proofs.Pumps.{IsSent, idle_told, sends_alike, told_none, told_sent, sends_smallest}
use Rattle.bridge_core.proofs.SentBursts.{sent_unbroken}
use Rattle.bridge_core.proofs.bridge.Bridge.pump_box.Goals as goal

-- a box stands in stock where a request is ready
pub send-requires : goal.send-requires
send-requires c =
    let i = c.self.inside in
    let state : BridgeState = state_in i.ports.items i.requests i.monitor.open_bursts in
    λ some. subst (λ (b : StockedBridge). IsSome (burst_to_send b.state) → 0 < b.stock) (sym c.self.view_is) c.requires (sym (sends_alike state c.self.invariant.0.requests) ∙ some)

-- ---- no request is ready

none_goes : (c : goal.In_default) → next_sending c.args.self.now.state.requests ≡ None
none_goes c = subst (λ (b : StockedBridge). next_sending b.state.requests ≡ None) c.self.view_is (told_none (next_sending c.self.inside.requests) (sym c.send.ensures.burst ∙ c.in_default.is))

pub invariant_of-self : goal.invariant_of-self
invariant_of-self c = let same = c.send.ensures.kept c.in_default.is in rw (same.0, same.1) c.self.invariant

pub returns-in_default-clause-burst : goal.returns-in_default-clause-burst
returns-in_default-clause-burst c = rw (none_goes c) refl

pub returns-in_default-clause-kept : goal.returns-in_default-clause-kept
returns-in_default-clause-kept c = λ none. let same = c.send.ensures.kept c.in_default.is in rw (same.0, same.1) c.self.view_is

pub returns-in_default-clause-smallest : goal.returns-in_default-clause-smallest
returns-in_default-clause-smallest c = rw (none_goes c) tt

pub returns-in_default-clause-legal : goal.returns-in_default-clause-legal
returns-in_default-clause-legal c = rw (none_goes c) tt

pub returns-in_default-clause-unbroken : goal.returns-in_default-clause-unbroken
returns-in_default-clause-unbroken c = rw (none_goes c) tt

pub returns-in_default-clause-laws : goal.returns-in_default-clause-laws
returns-in_default-clause-laws c = rw (c.send.ensures.kept c.in_default.is).0 c.self.invariant.0

pub returns-in_default-clause-idle : goal.returns-in_default-clause-idle
returns-in_default-clause-idle c =
    let i = c.self.inside in
    rw (← c.self.view_is) (idle_told (state_in i.ports.items i.requests i.monitor.open_bursts) None c.self.invariant.0.requests (sym c.in_default.is ∙ c.send.ensures.burst))

-- ---- what went

pub take_burst-requires-clause-unbroken : goal.take_burst-requires-clause-unbroken
take_burst-requires-clause-unbroken c =
    let i = c.self.inside in
    let (sending, sent, burst) = told_sent (next_sending i.requests) c.in-Some.burst (sym c.send.ensures.burst ∙ c.in-Some.is) in
    rw (burst, c.self.invariant.2) (sent_unbroken (state_in i.ports.items i.requests i.monitor.open_bursts) sending c.self.invariant.0 sent).1

-- and what is left
record Went (c : goal.After-take_burst) : Type 0 where
  sent : IsSent (state_in c.self.inside.ports.items c.self.inside.requests c.self.inside.monitor.open_bursts)
  burst : c.in-Some.burst ≡ Some sent.0.burst
  table : c.send.new.self ≡ with_sent_burst sent.0.request.flight.number sent.0.id c.self.inside.requests
  monitor : c.take_burst.new.self ≡ monitor_with c.self.inside.monitor sent.0.burst
  stock : vec_len c.self.inside.stock ≡ vec_len c.send.new.stock + 1
  room : vec_capacity c.self.inside.stock ≤ vec_capacity c.send.new.stock

went : (c : goal.After-take_burst) → Went c
went c =
    let (sending, sent, burst) = told_sent (next_sending c.self.inside.requests) c.in-Some.burst (sym c.send.ensures.burst ∙ c.in-Some.is) in
    record {
      sent = (sending, sent);
      burst = burst;
      table = rw sent at c.send.ensures.table;
      monitor = rw burst at c.take_burst.ensures.state;
      stock = c.send.ensures.stock (rw c.in-Some.is refl);
      room = c.send.ensures.capacity;
    }

kept : (c : goal.After-take_burst) → IsBridge c.self.inside.ports.items c.send.new.self c.take_burst.new.self (vec_len c.send.new.stock) (vec_capacity c.send.new.stock)
kept c =
    let i = c.self.inside in
    let w = went c in
    pumped i.ports.items i.requests c.send.new.self i.monitor c.take_burst.new.self (vec_len i.stock) (vec_capacity i.stock) (vec_len c.send.new.stock) (vec_capacity c.send.new.stock) w.sent.0 c.self.invariant w.sent.1 w.table
    w.monitor c.send.ensures.laws c.take_burst.ensures.ready (omega (arith, w.stock)) w.room

pub invariant_of-self-2 : goal.invariant_of-self-2
invariant_of-self-2 c = kept c

pub returns-clause-sent : goal.returns-clause-sent
returns-clause-sent c =
    let i = c.self.inside in
    let w = went c in
    λ some.
    pumped_state i.ports.items i.requests c.send.new.self i.monitor c.take_burst.new.self (vec_len i.stock) (vec_len c.send.new.stock) w.sent.0 c.args.self.now c.self.view_is w.sent.1 w.table w.monitor
    (omega (arith, w.stock))

pub returns-clause-idle : goal.returns-clause-idle
returns-clause-idle c =
    let i = c.self.inside in
    rw (← c.self.view_is) (idle_told (state_in i.ports.items i.requests i.monitor.open_bursts) (Some c.in-Some.burst) c.self.invariant.0.requests (sym c.in-Some.is ∙ c.send.ensures.burst))

pub returns-clause-smallest : goal.returns-clause-smallest
returns-clause-smallest c =
    let w = went c in
    rw (← c.self.view_is, w.sent.1)
    (ap (λ (box : Option Burst). Some box) w.burst, sends_smallest c.self.inside.requests c.send.new.self w.sent.0 c.self.invariant.0.requests w.sent.1 w.table)

-- it is legal, and breaks no rule
fits : (c : goal.After-take_burst) → (w : Went c)
    → IsLegal c.self.inside.requests.config.axi_bytes w.sent.0.burst × (burst_fault (axi_port_of c.self.inside.requests.config) c.self.inside.monitor.open_bursts w.sent.0.burst ≡ None)
fits c w =
    let i = c.self.inside in
    sent_unbroken (state_in i.ports.items i.requests i.monitor.open_bursts) w.sent.0 c.self.invariant.0 w.sent.1

pub returns-clause-legal : goal.returns-clause-legal
returns-clause-legal c = rw (← c.self.view_is, (went c).sent.1) (fits c (went c)).0

pub returns-clause-unbroken : goal.returns-clause-unbroken
returns-clause-unbroken c = rw (← c.self.view_is, (went c).sent.1) (fits c (went c)).1

pub returns-clause-laws : goal.returns-clause-laws
returns-clause-laws c = (kept c).0
