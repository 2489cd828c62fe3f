-- The port of one client more.
use Rattle.std.proofs.Common.{◌∙◌, ◌++◌, ◌∷◌, [], List, ap, map, arith, sym}
use Rattle.std.specs.List.{range_with_len}
use Rattle.std.proofs.lemmas.List.{map_push}
use Rattle.std.proofs.lemmas.List.FromFn.{map-range_with_len_more}
use Rattle.tl_checker.specs.Ports.{PortState}
use Rattle.tl_checker.specs.RequestRules.{TlPortLimits}
use Rattle.config.specs.Configs.{port_of}
use Rattle.bridge_threads.specs.RefusedBeats.{limits_of_ports}
use Rattle.bridge_threads.proofs.threads.seats_of.Goals as goal

pub loop-script-preserved : goal.loop-script-preserved
loop-script-preserved c = (
  λ few.
      let number = c.loop-script.invariant.1 (omega (arith, few, c.loop-script-test.true)) in
      let limits = ap (λ (p : PortState). p.limits) c.in_ok-seat.ensures ∙ ap (port_of c.args.setup.now.config) number in
      ap limits_of_ports c.in_ok-push-2.ensures.items ∙ map_push (λ (p : PortState). p.limits) c.loop-script.ports.items c.in_ok-seat.port
      ∙ ap (λ (xs : List TlPortLimits). xs ++ c.in_ok-seat.port.limits ∷ []) (c.loop-script.invariant.0 few)
      ∙ ap (λ (l : TlPortLimits). map (port_of c.args.setup.now.config) (range_with_len 0 c.loop-script.script-index) ++ l ∷ []) limits
      ∙ sym (map-range_with_len_more (port_of c.args.setup.now.config) 0 c.loop-script.script-index c.loop-script.script-index (omega arith)),
  λ small. omega (arith, c.saturating_add-number.ensures, c.loop-script.invariant.1 (omega (arith, small)), small),
)
