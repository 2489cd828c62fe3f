use Rattle.std.proofs.Common.{rules}
use Rattle.subordinate.proofs.device.Device.sent.Goals as goal

pub returns : goal.returns
returns c = search rules
