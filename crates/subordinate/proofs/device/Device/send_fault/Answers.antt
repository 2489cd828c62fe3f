-- The limits judge by how many open bursts are beside the burst.
use Rattle.std.proofs.Common.{◌≡◌, length, ap, ◌∙◌, subst}
use Rattle.std.specs.Prelude.{IfSome, filter}
use Rattle.subordinate.specs.Device.{DeviceState}
use Rattle.subordinate.specs.FreeMemory.{device_port}
use Rattle.subordinate.specs.Bursts.{is_in}
use Rattle.subordinate.specs.Inside.{is_beside}
use Rattle.subordinate.proofs.OpenBursts.{sent_fault, sent_room}
use Rattle.subordinate.proofs.OpenQueues.{counted_beside}
use Rattle.subordinate.proofs.device.Device.send_fault.Goals as goal

-- the count is that of the open bursts that callers see
counted : (c : goal.After-burst_fault) → IfSome c.args.burst.now (λ burst. c.count.result ≡ length (filter (is_beside burst) c.args.self.now.memory.pending))
counted c =
    counted_beside c.args.burst.now c.queue_of.result c.count.result c.args.self.now.memory.pending c.queue_of.ensures
    (subst (λ (device : DeviceState). c.count.result ≡ length (filter (is_in c.queue_of.result) device.memory.pending)) c.self.view_is c.count.ensures)

pub returns-clause-rule : goal.returns-clause-rule
returns-clause-rule c =
    let port : c.new.result ≡ device_port c.args.self.now.memory = c.new.ensures ∙ ap (λ (device : DeviceState). device_port device.memory) c.self.view_is in
    sent_fault (device_port c.args.self.now.memory) c.args.self.now.memory c.args.burst.now c.count.result c.burst_fault.result (counted c) (rw port at c.burst_fault.ensures.rule)

pub returns-clause-room : goal.returns-clause-room
returns-clause-room c = λ none.
    let port : c.new.result ≡ device_port c.args.self.now.memory = c.new.ensures ∙ ap (λ (device : DeviceState). device_port device.memory) c.self.view_is in
    sent_room c.args.self.now.memory c.args.burst.now c.count.result (counted c) (rw port at c.burst_fault.ensures.room none)
