use Rattle.std.proofs.lemmas.Grind.{common_steps}
use Rattle.std.proofs.Common.{◌≡◌, ◌∙◌, arith, ap, sym, subst, refl}
use Rattle.std.specs.Vec.{vec_len}
use Rattle.axi_checker.specs.Monitors.{MonitorState}
use Rattle.bridge_core.specs.Bridge.{StockedBridge, boxes_of, opening_bridge}
use Rattle.bridge_core.specs.Inside.{bridge_kept}
use Rattle.bridge_core.specs.Laws.{IsSoundBridge}
use Rattle.bridge_core.proofs.Openings.{are_opening_ports, opening_kept, sound_opening}
use Rattle.bridge_core.proofs.bridge.Bridge.opening.Goals as goal

stocked : (c : goal.In_ok-requests) → vec_len c.in_ok-stock.stock ≡ boxes_of c.args.config
stocked c = c.in_ok-stock.ensures.0 ∙ rw (c.from.ensures, c.from-2.ensures) refl

kept : (c : goal.In_ok-requests) → bridge_kept c.in_ok-ports.ports.items c.in_ok-requests.requests c.in_ok-monitor.monitor.open_bursts (vec_len c.in_ok-stock.stock) ≡ opening_bridge c.args.config c.args.map
kept c =
    opening_kept c.args.config c.args.map c.in_ok-ports.ports.items c.in_ok-requests.requests c.in_ok-monitor.monitor.open_bursts (vec_len c.in_ok-stock.stock) c.in_ok-ports.ensures
    c.in_ok-requests.ensures (ap (λ (m : MonitorState). m.open_bursts) c.in_ok-monitor.ensures) (stocked c)

pub invariant_of-result : goal.invariant_of-result
invariant_of-result c = (
  subst (λ (b : StockedBridge). IsSoundBridge b.state) (sym (kept c)) (sound_opening c.args.config c.args.map c.requires),
  rw (c.in_ok-requests.ensures, c.in_ok-ports.ensures) (are_opening_ports c.args.config),
  rw (c.in_ok-requests.ensures, c.in_ok-monitor.ensures) refl,
  rw c.in_ok-requests.ensures (omega (arith, stocked c)),
  rw c.in_ok-requests.ensures (omega (arith, c.in_ok-stock.ensures.1, c.in_ok-stock.ensures.0, stocked c)),
)

pub returns-clause-state : goal.returns-clause-state
returns-clause-state c = kept c

pub returns-clause-laws : goal.returns-clause-laws
returns-clause-laws c = subst (λ (b : StockedBridge). IsSoundBridge b.state) (sym (kept c)) (sound_opening c.args.config c.args.map c.requires)

pub new-requires-clause-bus : goal.new-requires-clause-bus
new-requires-clause-bus c = grind (arith, common_steps)
