-- A request may send exactly where a burst goes.
use Rattle.std.proofs.Common.{◌∙◌, Option, ℕ, ap}
use Rattle.std.specs.Prelude.{is_some}
use Rattle.flight_table.specs.Order.{next_ready}
use Rattle.bridge_core.specs.Bridge.{StockedBridge, burst_to_send}
use Rattle.bridge_core.specs.HeldRequests.{flight_table_of}
use Rattle.bridge_core.proofs.BridgeSteps.{state_in}
use Rattle.bridge_core.proofs.Pumps.{names_ready, ready_sends}
use Rattle.bridge_core.proofs.bridge.Bridge.can_pump.Goals as goal

pub returns-clause-burst : goal.returns-clause-burst
returns-clause-burst c =
    let i = c.self.inside in
    c.is_some.ensures ∙ ap (λ (key : Option ℕ). is_some key) c.next_ready.ensures.key
    ∙ ready_sends (state_in i.ports.items i.requests i.monitor.open_bursts) c.flight.result.now c.flight.ensures.laws c.flight.ensures.table
    ∙ ap (λ (b : StockedBridge). is_some (burst_to_send b.state)) c.self.view_is

pub returns-clause-ready : goal.returns-clause-ready
returns-clause-ready c =
    let i = c.self.inside in
    c.is_some.ensures ∙ ap (λ (key : Option ℕ). is_some key) c.next_ready.ensures.key
    ∙ names_ready (state_in i.ports.items i.requests i.monitor.open_bursts) c.flight.result.now c.flight.ensures.table
    ∙ ap (λ (b : StockedBridge). is_some (next_ready (flight_table_of b.state.requests))) c.self.view_is
