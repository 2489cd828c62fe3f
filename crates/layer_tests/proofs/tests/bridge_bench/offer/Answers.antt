use Rattle.layer_tests.proofs.KeptLimits.{offered_keeps}
use Rattle.layer_tests.proofs.tests.bridge_bench.offer.Goals as goal

pub returns-in-More : goal.returns-in-More
returns-in-More c = rw c.offer.ensures.state (offered_keeps c.args.bridge.now.state c.args.client c.args.beat.now)

pub returns-in-Accepted : goal.returns-in-Accepted
returns-in-Accepted c = rw c.offer.ensures.state (offered_keeps c.args.bridge.now.state c.args.client c.args.beat.now)
