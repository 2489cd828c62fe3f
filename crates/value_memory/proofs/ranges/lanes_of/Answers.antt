-- In each word the range has the bytes of its lanes.
use Rattle.value_memory.proofs.RangeWords.{lanes_in}
use Rattle.value_memory.proofs.ranges.lanes_of.Goals as goal

pub returns-clause-lanes : goal.returns-clause-lanes
returns-clause-lanes c = λ x place below at. lanes_in c.args.range c.full_mask.result place x c.requires below at c.full_mask.ensures.lanes
