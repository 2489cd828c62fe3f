use Rattle.std.proofs.Common.{rules}
use Rattle.responses.proofs.gather.Outline.word_beat.Goals as goal

pub returns-in-Some : goal.returns-in-Some
returns-in-Some c = search rules
