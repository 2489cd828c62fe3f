use Rattle.std.proofs.Common.{rules}
use Rattle.thread_reports.proofs.answers.named_place.Goals as goal

pub returns : goal.returns
returns c = search rules
