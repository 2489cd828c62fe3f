use Rattle.std.proofs.Common.{◌≡◌, ◌∙◌, ap, arith}
use Rattle.std.proofs.lemmas.List.FromFn.{map-range_with_len_more}
use Rattle.tl_checker.specs.Ports.{opening_port}
use Rattle.config.specs.Configs.{port_of}
use Rattle.bridge_core.specs.Inside.{ports_from}
use Rattle.bridge_core.proofs.ReadCounts.{config_parts}
use Rattle.bridge_core.proofs.ports.opening_ports.Goals as goal

pub loop-client-preserved : goal.loop-client-preserved
loop-client-preserved c =
    let more = map-range_with_len_more (λ client. opening_port (port_of c.args.config.now client)) 0 c.loop-client.client c.loop-client.client (omega arith) in
    cc (c.in_ok-push.ensures.items, c.in_ok-new.ensures, c.level_of-level.ensures, c.loop-client.invariant, more)

pub new-requires : goal.new-requires
new-requires c = (config_parts c.args.config.now c.requires).max_size

pub returns : goal.returns
returns c =
    let all : c.loop-client.client ≡ c.args.config.now.clients = omega (arith, c.loop-client-test.false, c.loop-client.auto.client-end) in
    c.loop-client.invariant ∙ ap (ports_from c.args.config.now 0) all
