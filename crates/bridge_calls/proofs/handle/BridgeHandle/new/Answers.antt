-- What all calls of a new handle come to.
use Rattle.bridge_calls.proofs.CallRuns.{is_a_run}
use Rattle.bridge_calls.proofs.handle.BridgeHandle.new.Goals as goal

pub returns-clause-runs : goal.returns-clause-runs
returns-clause-runs c = λ new calls bridge takes there. is_a_run _ new calls bridge c.new-handle.ensures takes there
