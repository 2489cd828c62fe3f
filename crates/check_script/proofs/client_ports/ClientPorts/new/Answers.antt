use Rattle.std.proofs.Common.{◌++◌, ◌∷◌, [], ap, sym, ◌∙◌}
use Rattle.check_script.proofs.ClientTables.{opening_clients-more}
use Rattle.check_script.specs.ClientPorts.{opening_clients}
use Rattle.check_script.proofs.client_ports.ClientPorts.new.Goals as goal

pub loop-client-preserved : goal.loop-client-preserved
loop-client-preserved c =
    c.in_ok-push.ensures.items ∙ ap (λ clients. clients ++ c.in_ok-new.field-0 ∷ []) c.loop-client.invariant
    ∙ ap (λ port. opening_clients c.args.config.now c.loop-client.client ++ port ∷ []) c.in_ok-new.ensures
    ∙ sym (opening_clients-more c.args.config.now c.loop-client.client)
