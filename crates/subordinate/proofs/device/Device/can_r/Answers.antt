-- There are 16 IDs.
use Rattle.std.proofs.Common.{◌*◌, ◌+◌, sym, ap, subst, ◌∙◌, arith}
use Rattle.std.proofs.lemmas.Bool.{le-ltb}
use Rattle.subordinate.specs.Bursts.{is_queue_ready}
use Rattle.subordinate.specs.Device.{DeviceState}
use Rattle.subordinate.specs.Laws.{IsSoundMemory}
use Rattle.subordinate.proofs.OpenQueues.{not_ready, ready_r}
use Rattle.subordinate.proofs.device.Device.can_r.Goals as goal

pub returns-then-id-lt-IDS : goal.returns-then-id-lt-IDS
returns-then-id-lt-IDS c =
    c.can_r.ensures ∙ ap (λ (device : DeviceState). is_queue_ready device.memory.pending (2 * c.args.id + 1)) c.self.view_is ∙ ready_r c.args.self.now.memory c.args.id

pub returns-else-id-lt-IDS : goal.returns-else-id-lt-IDS
returns-else-id-lt-IDS c =
    le-ltb c.args.id 16 (omega (arith, c.if-id-lt-IDS.false)) ∙ sym (sym (ready_r c.args.self.now.memory c.args.id)
    ∙ not_ready c.args.self.now.memory (2 * c.args.id + 1) (subst (λ (device : DeviceState). IsSoundMemory device.memory) c.self.view_is c.self.invariant.0) (omega (arith, c.if-id-lt-IDS.false)))
