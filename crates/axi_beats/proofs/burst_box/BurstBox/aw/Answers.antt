use Rattle.std.proofs.Common.{rules}
use Rattle.axi_beats.proofs.burst_box.BurstBox.aw.Goals as goal

pub returns : goal.returns
returns c = search rules
