use Rattle.std.proofs.Common.{rules}
use Rattle.axi_beats.proofs.burst_box.BurstBox.new.Goals as goal

pub invariant_of-result : goal.invariant_of-result
invariant_of-result c = search rules
