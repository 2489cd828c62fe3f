-- What is planned next, or that the request is done.
use Rattle.std.proofs.Common.{◌∙◌}
use Rattle.bridge_core.proofs.KeyChanges.{not_both, settled_finished, settled_none, settled_write}
use Rattle.bridge_core.proofs.request_table.settle.Goals as goal

pub returns-then-not-is_settled : goal.returns-then-not-is_settled
returns-then-not-is_settled c = record { state = settled_none c.args.key c.args.found c.args.flight.now (c.if-not-is_settled.ensures); laws = c.requires.laws }

pub returns-then-found : goal.returns-then-found
returns-then-found c =
    record { state = c.plan_write.ensures.state ∙ settled_write c.args.key c.args.found c.args.flight.now c.if-found.true (c.if-awaits_write.ensures); laws = c.plan_write.ensures.laws }

pub returns : goal.returns
returns c =
    record {
      state = c.finished.ensures.state
          ∙ settled_finished c.args.key c.args.found c.awaits_write.result c.args.flight.now c.requires.live (c.if-not-is_settled.ensures) c.awaits_write.ensures
          (not_both c.awaits_write.result c.args.found c.else-awaits_write.either);
      laws = c.finished.ensures.laws;
    }
