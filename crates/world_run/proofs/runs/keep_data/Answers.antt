-- One W beat more is appended.
use Rattle.std.proofs.Common.{◌∙◌}
use Rattle.world_run.proofs.RunLoop.{data_next}
use Rattle.world_run.proofs.runs.keep_data.Goals as goal

pub loop-k-preserved : goal.loop-k-preserved
loop-k-preserved c = c.in_ok-put.ensures.items ∙ data_next _ _ _ _ _ c.loop-k.invariant c.w.ensures
