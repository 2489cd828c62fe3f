use Rattle.std.proofs.Common.{rules}
use Rattle.axi_beats.proofs.burst_box.BurstBox.w_beats.Goals as goal

pub returns-in-Empty : goal.returns-in-Empty
returns-in-Empty c = search rules
