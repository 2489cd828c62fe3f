use Rattle.std.proofs.Common.{rules}
use Rattle.bus_words.proofs.word_of_lanes.Goals as goal

pub returns-clause-value : goal.returns-clause-value
returns-clause-value c = search rules
