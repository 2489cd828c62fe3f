use Rattle.std.proofs.Common.{rules}
use Rattle.bus_words.proofs.lane_byte.Goals as goal

pub returns : goal.returns
returns c = search rules
